use Rattle.k_replay_code.proofs.Deeds.{performed_is_told, performed_once}
use Rattle.k_replay_code.proofs.laws.performed_is_told.Goals as goal

pub returns : goal.returns
returns c = record { told = performed_is_told; once = performed_once }
