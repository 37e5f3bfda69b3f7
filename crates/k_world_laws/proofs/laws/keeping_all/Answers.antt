use Rattle.k_world_laws.proofs.Kept.{keeping_all}
use Rattle.k_world_laws.proofs.laws.keeping_all.Goals as goal

pub returns : goal.returns
returns c = keeping_all
