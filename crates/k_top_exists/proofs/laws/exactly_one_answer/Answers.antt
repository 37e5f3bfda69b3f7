use Rattle.k_top_exists.proofs.Whole.{words_have_one_answer}
use Rattle.k_top_exists.proofs.laws.exactly_one_answer.Goals as goal

pub returns : goal.returns
returns c = words_have_one_answer
