use Rattle.k_regions.proofs.Whole.{are_of_main}
use Rattle.k_regions.proofs.laws.runs_are_of_main.Goals as goal

pub returns : goal.returns
returns c = are_of_main
