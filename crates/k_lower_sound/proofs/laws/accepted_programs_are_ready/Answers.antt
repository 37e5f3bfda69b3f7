use Rattle.k_lower_sound.proofs.Programs.{programs_are_ready}
use Rattle.k_lower_sound.proofs.laws.accepted_programs_are_ready.Goals as goal

pub returns : goal.returns
returns c = programs_are_ready
