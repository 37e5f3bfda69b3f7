use Rattle.k_scan.proofs.Digits.{number_again, number_takes}
use Rattle.k_scan.proofs.laws.numbers.Goals as goal

pub returns : goal.returns
returns c = record { takes = number_takes; again = number_again }
