use Rattle.k_num.proofs.ArithmeticLaws.{test_value, not_value}
use Rattle.k_num.proofs.laws.tests.Goals as goal

pub returns-clause-binary : goal.returns-clause-binary
returns-clause-binary c = test_value

pub returns-clause-not : goal.returns-clause-not
returns-clause-not c = not_value
