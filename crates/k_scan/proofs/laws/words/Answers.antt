use Rattle.k_scan.proofs.Front.{word_again, word_takes}
use Rattle.k_scan.proofs.laws.words.Goals as goal

pub returns : goal.returns
returns c = record { takes = word_takes; again = word_again }
