use Rattle.k_real.proofs.SizeLaws.{expansion_is}
use Rattle.k_real.proofs.laws.expansion.Goals as goal

pub returns : goal.returns
returns c = expansion_is
