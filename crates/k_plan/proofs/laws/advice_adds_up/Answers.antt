use Rattle.k_plan.proofs.Advised.{advice_adds_up}
use Rattle.k_plan.proofs.laws.advice_adds_up.Goals as goal

pub returns : goal.returns
returns c = advice_adds_up
