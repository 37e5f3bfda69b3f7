use Rattle.k_evaluation_laws.proofs.Closed.{expressions_give_their_types, functions_begin_right, functions_keep_kinds, main_gives_an_int, objects_begin_right, runs_start_right, statements_keep_kinds}
use Rattle.k_evaluation_laws.proofs.Held.{elements_are_held, variables_are_held}
use Rattle.k_evaluation_laws.proofs.laws.values_are_of_their_kinds.Goals as goal

pub returns-clause-expressions : goal.returns-clause-expressions
returns-clause-expressions c = expressions_give_their_types

pub returns-clause-statements : goal.returns-clause-statements
returns-clause-statements c = statements_keep_kinds

pub returns-clause-functions : goal.returns-clause-functions
returns-clause-functions c = functions_keep_kinds

pub returns-clause-main : goal.returns-clause-main
returns-clause-main c = main_gives_an_int

pub returns-clause-variables : goal.returns-clause-variables
returns-clause-variables c = variables_are_held

pub returns-clause-elements : goal.returns-clause-elements
returns-clause-elements c = elements_are_held

pub returns-clause-start : goal.returns-clause-start
returns-clause-start c = runs_start_right

pub returns-clause-entered : goal.returns-clause-entered
returns-clause-entered c = functions_begin_right

pub returns-clause-objects : goal.returns-clause-objects
returns-clause-objects c = objects_begin_right
