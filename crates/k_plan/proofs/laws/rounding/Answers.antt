use Rattle.k_plan.proofs.Rounding.{rounds_up}
use Rattle.k_plan.proofs.laws.rounding.Goals as goal

pub returns : goal.returns
returns c = rounds_up
