use Rattle.k_scan.proofs.Front.{name_again, name_takes}
use Rattle.k_scan.proofs.laws.names.Goals as goal

pub returns : goal.returns
returns c = record { takes = name_takes; again = name_again }
