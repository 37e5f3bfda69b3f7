use Rattle.k_selfpar.proofs.Lowest.{one_fraction}
use Rattle.k_selfpar.proofs.laws.one_fraction.Goals as goal

pub returns : goal.returns
returns c = one_fraction
