use Rattle.k_lower_fits.proofs.Sources.{functions_fit}
use Rattle.k_lower_fits.proofs.laws.functions_fit.Goals as goal

pub returns : goal.returns
returns c = functions_fit
