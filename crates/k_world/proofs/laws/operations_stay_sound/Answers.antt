use Rattle.k_world.proofs.Sound.{operations_stay_sound}
use Rattle.k_world.proofs.laws.operations_stay_sound.Goals as goal

pub returns : goal.returns
returns c = operations_stay_sound
