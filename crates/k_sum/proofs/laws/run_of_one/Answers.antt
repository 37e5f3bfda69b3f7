use Rattle.k_sum.proofs.Meaning.{one_tells_of_its_run}
use Rattle.k_sum.proofs.laws.run_of_one.Goals as goal

pub returns : goal.returns
returns c = one_tells_of_its_run
