use Rattle.k_regions.proofs.Whole.{return_ints}
use Rattle.k_regions.proofs.laws.runs_return_ints.Goals as goal

pub returns : goal.returns
returns c = return_ints
