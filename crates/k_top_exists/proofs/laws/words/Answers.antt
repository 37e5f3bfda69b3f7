use Rattle.k_top_exists.proofs.Words.{words_are_answered}
use Rattle.k_top_exists.proofs.laws.words.Goals as goal

pub returns : goal.returns
returns c = words_are_answered
