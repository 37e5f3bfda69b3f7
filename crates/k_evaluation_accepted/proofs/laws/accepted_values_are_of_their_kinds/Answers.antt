use Rattle.k_evaluation_accepted.proofs.Tokens.{expressions_right, functions_right, main_right, objects_right, of_their_sources, starts_right, statements_right}
use Rattle.k_evaluation_accepted.proofs.laws.accepted_values_are_of_their_kinds.Goals as goal

pub returns-clause-programs : goal.returns-clause-programs
returns-clause-programs c = of_their_sources

pub returns-clause-objects : goal.returns-clause-objects
returns-clause-objects c = objects_right

pub returns-clause-start : goal.returns-clause-start
returns-clause-start c = starts_right

pub returns-clause-expressions : goal.returns-clause-expressions
returns-clause-expressions c = expressions_right

pub returns-clause-statements : goal.returns-clause-statements
returns-clause-statements c = statements_right

pub returns-clause-functions : goal.returns-clause-functions
returns-clause-functions c = functions_right

pub returns-clause-main : goal.returns-clause-main
returns-clause-main c = main_right
