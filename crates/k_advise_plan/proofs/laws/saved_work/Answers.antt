use Rattle.k_advise_plan.proofs.Planned.{saves_less_than_the_work}
use Rattle.k_advise_plan.proofs.laws.saved_work.Goals as goal

pub returns : goal.returns
returns c = λ team carries contexts choice can is some. saves_less_than_the_work team carries contexts can choice is some
