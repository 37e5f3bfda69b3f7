use Rattle.k_regions.proofs.Entries.{enter_few}
use Rattle.k_regions.proofs.laws.runs_enter_few.Goals as goal

pub returns : goal.returns
returns c = enter_few
