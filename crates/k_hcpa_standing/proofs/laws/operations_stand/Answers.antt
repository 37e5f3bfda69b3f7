use Rattle.k_hcpa_standing.proofs.Operations.{operations_stand}
use Rattle.k_hcpa_standing.proofs.laws.operations_stand.Goals as goal

pub returns : goal.returns
returns c = operations_stand
