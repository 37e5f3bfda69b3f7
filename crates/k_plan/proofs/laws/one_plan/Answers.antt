use Rattle.k_plan.specs.Best.{best_choice}
use Rattle.k_plan.proofs.Exchange.{advice_is_unique, plan_is_unique}
use Rattle.k_plan.proofs.Planned.{best_is_plan}
use Rattle.k_plan.proofs.laws.one_plan.Goals as goal

pub returns : goal.returns
returns c = record {
  exists = λ limits contexts can. (best_choice limits contexts, best_is_plan limits contexts can);
  unique = plan_is_unique;
  advice = advice_is_unique;
}
