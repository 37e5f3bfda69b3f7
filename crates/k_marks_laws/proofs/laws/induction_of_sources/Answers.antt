use Rattle.k_marks_laws.proofs.Closed.{variable_is_counted_in_sources, bound_is_same_in_sources, tests_are_on_both_in_sources, turns_are_least_in_sources}
use Rattle.k_marks_laws.proofs.laws.induction_of_sources.Goals as goal

pub returns-clause-variable : goal.returns-clause-variable
returns-clause-variable c = variable_is_counted_in_sources

pub returns-clause-bound : goal.returns-clause-bound
returns-clause-bound c = bound_is_same_in_sources

pub returns-clause-test : goal.returns-clause-test
returns-clause-test c = tests_are_on_both_in_sources

pub returns-clause-turns : goal.returns-clause-turns
returns-clause-turns c = turns_are_least_in_sources
