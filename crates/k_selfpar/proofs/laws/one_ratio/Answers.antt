use Rattle.k_selfpar.proofs.Lowest.{one_ratio}
use Rattle.k_selfpar.proofs.laws.one_ratio.Goals as goal

pub returns : goal.returns
returns c = one_ratio
