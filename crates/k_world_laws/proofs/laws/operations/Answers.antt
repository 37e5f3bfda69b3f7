use Rattle.k_world_laws.proofs.Leaving.{one_fewer_is_left, one_more_is_made, other_acts_keep_control, test_becomes_control, calls_are_kept, size_is_kept, numbers_are_kept}
use Rattle.k_world_laws.proofs.laws.operations.Goals as goal

pub returns-clause-left : goal.returns-clause-left
returns-clause-left c = one_fewer_is_left

pub returns-clause-made : goal.returns-clause-made
returns-clause-made c = one_more_is_made

pub returns-clause-control : goal.returns-clause-control
returns-clause-control c = other_acts_keep_control

pub returns-clause-test : goal.returns-clause-test
returns-clause-test c = test_becomes_control

pub returns-clause-calls : goal.returns-clause-calls
returns-clause-calls c = calls_are_kept

pub returns-clause-size : goal.returns-clause-size
returns-clause-size c = size_is_kept

pub returns-clause-numbers : goal.returns-clause-numbers
returns-clause-numbers c = numbers_are_kept
