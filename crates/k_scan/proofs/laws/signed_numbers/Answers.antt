use Rattle.k_scan.proofs.BelowZero.{signed_again, signed_takes}
use Rattle.k_scan.proofs.laws.signed_numbers.Goals as goal

pub returns : goal.returns
returns c = record { takes = signed_takes; again = signed_again }
