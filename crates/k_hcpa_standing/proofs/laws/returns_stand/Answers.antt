use Rattle.k_hcpa_standing.proofs.Returning.{last_returns_stand, returns_stand}
use Rattle.k_hcpa_standing.proofs.laws.returns_stand.Goals as goal

pub returns-clause-back : goal.returns-clause-back
returns-clause-back c = returns_stand

pub returns-clause-last : goal.returns-clause-last
returns-clause-last c = last_returns_stand
