use Rattle.k_advise_plan.proofs.Planned.{plan_exists, plan_unique}
use Rattle.k_advise_plan.proofs.laws.one_plan.Goals as goal

pub returns : goal.returns
returns c = record {
  exists = plan_exists;
  unique = λ team carries contexts one other can is also k. plan_unique team carries contexts can one other is also k;
}
