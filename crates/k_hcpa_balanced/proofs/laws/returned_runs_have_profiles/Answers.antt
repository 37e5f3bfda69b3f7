use Rattle.k_hcpa_balanced.proofs.Ruled.{returned_runs_have_profiles}
use Rattle.k_hcpa_balanced.proofs.laws.returned_runs_have_profiles.Goals as goal

pub returns : goal.returns
returns c = returned_runs_have_profiles
