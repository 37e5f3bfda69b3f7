use Rattle.k_advise_plan.proofs.Shares.{above_is_todays}
use Rattle.k_advise_plan.proofs.laws.many_threads.Goals as goal

pub returns : goal.returns
returns c = above_is_todays
