use Rattle.k_code.proofs.Cutting.{budget_cuts_short}
use Rattle.k_code.proofs.laws.budget_cuts_short.Goals as goal

pub returns : goal.returns
returns c = budget_cuts_short
