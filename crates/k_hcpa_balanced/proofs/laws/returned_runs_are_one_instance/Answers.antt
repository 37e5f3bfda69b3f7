use Rattle.k_hcpa_balanced.proofs.Returned.{returned_runs_are_one_instance}
use Rattle.k_hcpa_balanced.proofs.laws.returned_runs_are_one_instance.Goals as goal

pub returns : goal.returns
returns c = returned_runs_are_one_instance
