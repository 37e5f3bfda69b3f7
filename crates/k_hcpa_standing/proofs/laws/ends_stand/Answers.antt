use Rattle.k_hcpa_standing.proofs.Starting.{ends_stand}
use Rattle.k_hcpa_standing.proofs.laws.ends_stand.Goals as goal

pub returns : goal.returns
returns c = ends_stand
