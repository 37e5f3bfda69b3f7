use Rattle.k_world_laws.proofs.Kept.{keeping_fewer}
use Rattle.k_world_laws.proofs.laws.keeping_fewer.Goals as goal

pub returns : goal.returns
returns c = keeping_fewer
