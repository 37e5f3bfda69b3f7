use Rattle.k_num.proofs.Combining.{works_on_bits}
use Rattle.k_num.proofs.laws.bits.Goals as goal

pub returns : goal.returns
returns c = works_on_bits
