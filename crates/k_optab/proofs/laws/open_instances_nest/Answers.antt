use Rattle.k_optab.proofs.Opening.{balanced_leave_nothing_open, open_depths}
use Rattle.k_optab.proofs.Leaving.{open_instances_began, open_instances_nest}
use Rattle.k_optab.proofs.laws.open_instances_nest.Goals as goal

pub returns-clause-depths : goal.returns-clause-depths
returns-clause-depths c = open_depths

pub returns-clause-around : goal.returns-clause-around
returns-clause-around c = open_instances_nest

pub returns-clause-began : goal.returns-clause-began
returns-clause-began c = open_instances_began

pub returns-clause-balanced : goal.returns-clause-balanced
returns-clause-balanced c = balanced_leave_nothing_open
