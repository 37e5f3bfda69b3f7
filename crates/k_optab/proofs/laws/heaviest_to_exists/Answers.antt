use Rattle.k_optab.proofs.Heaviest.{heaviest_to_exists}
use Rattle.k_optab.proofs.laws.heaviest_to_exists.Goals as goal

pub returns : goal.returns
returns c = heaviest_to_exists
