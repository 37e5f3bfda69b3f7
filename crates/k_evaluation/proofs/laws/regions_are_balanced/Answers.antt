use Rattle.k_evaluation.proofs.Runs.{balanced_runs}
use Rattle.k_evaluation.proofs.laws.regions_are_balanced.Goals as goal

pub returns : goal.returns
returns c = balanced_runs
