use Rattle.k_plan.proofs.Planned.{saves_at_most_the_work}
use Rattle.k_plan.proofs.laws.saved_work.Goals as goal

pub returns : goal.returns
returns c = saves_at_most_the_work
