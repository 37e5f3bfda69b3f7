use Rattle.k_hcpa_standing.proofs.Operations.{enters_stand, exits_stand}
use Rattle.k_hcpa_standing.proofs.laws.instances_stand.Goals as goal

pub returns-clause-enter : goal.returns-clause-enter
returns-clause-enter c = enters_stand

pub returns-clause-exit : goal.returns-clause-exit
returns-clause-exit c = exits_stand
