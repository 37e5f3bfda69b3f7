use Rattle.k_hcpa_standing.proofs.Calling.{calls_stand, overflows_stand}
use Rattle.k_hcpa_standing.proofs.laws.calls_stand.Goals as goal

pub returns-clause-call : goal.returns-clause-call
returns-clause-call c = calls_stand

pub returns-clause-overflow : goal.returns-clause-overflow
returns-clause-overflow c = overflows_stand
