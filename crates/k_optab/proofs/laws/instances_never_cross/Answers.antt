use Rattle.k_optab.proofs.Counting.{intervals_count_operations}
use Rattle.k_optab.proofs.Crossing.{instances_are_left_later, instances_never_cross}
use Rattle.k_optab.proofs.Nesting.{intervals_lie_as_instances}
use Rattle.k_optab.proofs.laws.instances_never_cross.Goals as goal

pub returns-clause-left : goal.returns-clause-left
returns-clause-left c = instances_are_left_later

pub returns-clause-apart : goal.returns-clause-apart
returns-clause-apart c = instances_never_cross

pub returns-clause-intervals : goal.returns-clause-intervals
returns-clause-intervals c = intervals_lie_as_instances

pub returns-clause-counts : goal.returns-clause-counts
returns-clause-counts c = intervals_count_operations
