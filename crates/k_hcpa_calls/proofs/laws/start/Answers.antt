use Rattle.k_hcpa_calls.proofs.Started.{starts_are_timed}
use Rattle.k_hcpa_calls.proofs.laws.start.Goals as goal

pub returns : goal.returns
returns c = starts_are_timed
