use Rattle.k_top_exists.proofs.CarriedLoops.{carried_exist}
use Rattle.k_top_exists.proofs.laws.carried_pairs.Goals as goal

pub returns : goal.returns
returns c = carried_exist
