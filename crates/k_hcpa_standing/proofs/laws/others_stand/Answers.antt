use Rattle.k_hcpa_standing.proofs.Operations.{addresses_stand, closing_stands, fills_stand, forgetting_stands, jumps_stand, opening_stands}
use Rattle.k_hcpa_standing.proofs.laws.others_stand.Goals as goal

pub returns-clause-jump : goal.returns-clause-jump
returns-clause-jump c = jumps_stand

pub returns-clause-forget : goal.returns-clause-forget
returns-clause-forget c = forgetting_stands

pub returns-clause-open : goal.returns-clause-open
returns-clause-open c = opening_stands

pub returns-clause-close : goal.returns-clause-close
returns-clause-close c = closing_stands

pub returns-clause-address : goal.returns-clause-address
returns-clause-address c = addresses_stand

pub returns-clause-fill : goal.returns-clause-fill
returns-clause-fill c = fills_stand
