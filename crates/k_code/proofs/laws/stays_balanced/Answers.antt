use Rattle.k_code.proofs.Decided.{balances_are_unique}
use Rattle.k_code.proofs.Ending.{stays_balanced}
use Rattle.k_code.proofs.laws.stays_balanced.Goals as goal

pub returns : goal.returns
returns c = record { balanced = stays_balanced; unique = balances_are_unique }
