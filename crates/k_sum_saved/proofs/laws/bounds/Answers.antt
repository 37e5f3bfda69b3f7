use Rattle.k_sum_saved.proofs.SumBounds.{sum_has_bounds}
use Rattle.k_sum_saved.proofs.laws.bounds.Goals as goal

pub returns : goal.returns
returns c = sum_has_bounds
