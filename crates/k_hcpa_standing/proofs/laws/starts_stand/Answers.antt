use Rattle.k_hcpa_standing.proofs.Starting.{starts_stand}
use Rattle.k_hcpa_standing.proofs.laws.starts_stand.Goals as goal

pub returns : goal.returns
returns c = starts_stand
