use Rattle.k_lower_fits.proofs.Sources.{functions_are_small}
use Rattle.k_lower_fits.proofs.laws.functions_are_small.Goals as goal

pub returns : goal.returns
returns c = functions_are_small
