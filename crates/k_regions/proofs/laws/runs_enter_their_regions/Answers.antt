use Rattle.k_regions.proofs.Whole.{enter_theirs}
use Rattle.k_regions.proofs.laws.runs_enter_their_regions.Goals as goal

pub returns : goal.returns
returns c = enter_theirs
