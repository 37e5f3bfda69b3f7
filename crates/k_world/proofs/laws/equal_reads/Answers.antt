use Rattle.k_world.proofs.Alike.{equal_reads}
use Rattle.k_world.proofs.laws.equal_reads.Goals as goal

pub returns : goal.returns
returns c = equal_reads
