use Rattle.k_lower_fits.proofs.Placing.{declarations_are_placed}
use Rattle.k_lower_fits.proofs.laws.declarations_are_placed.Goals as goal

pub returns : goal.returns
returns c = declarations_are_placed
