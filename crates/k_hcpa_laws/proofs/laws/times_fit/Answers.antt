use Rattle.k_hcpa_laws.proofs.Ending.{sound_worlds_are_short}
use Rattle.k_hcpa_laws.proofs.laws.times_fit.Goals as goal

pub returns : goal.returns
returns c = sound_worlds_are_short
