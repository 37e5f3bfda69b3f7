use Rattle.k_carry_storage_pairs.proofs.Answer.{one_answer}
use Rattle.k_carry_storage_pairs.proofs.Deeper.{some_deep}
use Rattle.k_carry_storage_pairs.proofs.Existing.{some_answer}
use Rattle.k_carry_storage_pairs.proofs.laws.one_answer.Goals as goal

pub returns-clause-one : goal.returns-clause-one
returns-clause-one c = one_answer

pub returns-clause-some : goal.returns-clause-some
returns-clause-some c = some_answer

pub returns-clause-deep : goal.returns-clause-deep
returns-clause-deep c = some_deep
