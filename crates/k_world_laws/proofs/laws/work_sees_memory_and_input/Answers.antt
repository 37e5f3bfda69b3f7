use Rattle.k_world_laws.proofs.Seen.{work_sees}
use Rattle.k_world_laws.proofs.laws.work_sees_memory_and_input.Goals as goal

pub returns : goal.returns
returns c = work_sees
