use Rattle.k_top_lemmas.proofs.OneAnswer.{answers_are_unique}
use Rattle.k_top_lemmas.proofs.laws.one_answer.Goals as goal

pub returns : goal.returns
returns c = answers_are_unique
