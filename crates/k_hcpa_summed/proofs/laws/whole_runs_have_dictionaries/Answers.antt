use Rattle.k_hcpa_summed.proofs.Leaving.{runs_have_dictionaries}
use Rattle.k_hcpa_summed.proofs.laws.whole_runs_have_dictionaries.Goals as goal

pub returns : goal.returns
returns c = runs_have_dictionaries
