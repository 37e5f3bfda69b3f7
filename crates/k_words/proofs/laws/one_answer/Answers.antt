use Rattle.k_words.proofs.OneAnswer.{answer_exists, answer_is_unique}
use Rattle.k_words.proofs.laws.one_answer.Goals as goal

pub returns-clause-exists : goal.returns-clause-exists
returns-clause-exists c = answer_exists

pub returns-clause-unique : goal.returns-clause-unique
returns-clause-unique c = answer_is_unique
