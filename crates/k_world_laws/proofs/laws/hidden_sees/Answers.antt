use Rattle.k_world_laws.proofs.Seen.{hidden_sees}
use Rattle.k_world_laws.proofs.laws.hidden_sees.Goals as goal

pub returns : goal.returns
returns c = hidden_sees
