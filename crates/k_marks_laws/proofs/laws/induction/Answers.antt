use Rattle.k_marks_laws.proofs.BoundLaw.{bound_is_same}
use Rattle.k_marks_laws.proofs.Counting.{counted_is_converted}
use Rattle.k_marks_laws.proofs.Induction.{variable_is_counted}
use Rattle.k_marks_laws.proofs.Least.{turns_are_least}
use Rattle.k_marks_laws.proofs.OnBoth.{tests_are_on_both}
use Rattle.k_marks_laws.proofs.laws.induction.Goals as goal

pub returns-clause-variable : goal.returns-clause-variable
returns-clause-variable c = variable_is_counted

pub returns-clause-converted : goal.returns-clause-converted
returns-clause-converted c = counted_is_converted

pub returns-clause-bound : goal.returns-clause-bound
returns-clause-bound c = bound_is_same

pub returns-clause-test : goal.returns-clause-test
returns-clause-test c = tests_are_on_both

pub returns-clause-turns : goal.returns-clause-turns
returns-clause-turns c = turns_are_least
