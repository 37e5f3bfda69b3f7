use Rattle.k_marks_laws.proofs.Typing.{postfix_typed, prefix_typed, assignment_typed, test_typed, reduction_typed}
use Rattle.k_marks_laws.proofs.laws.rules_of_typing.Goals as goal

pub returns-clause-postfix : goal.returns-clause-postfix
returns-clause-postfix c = postfix_typed

pub returns-clause-prefix : goal.returns-clause-prefix
returns-clause-prefix c = prefix_typed

pub returns-clause-assignment : goal.returns-clause-assignment
returns-clause-assignment c = assignment_typed

pub returns-clause-test : goal.returns-clause-test
returns-clause-test c = test_typed

pub returns-clause-reduction : goal.returns-clause-reduction
returns-clause-reduction c = reduction_typed
