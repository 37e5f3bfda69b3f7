use Rattle.k_sum_read.proofs.reading.read_sum.Goals as goal
use Rattle.k_sum_saved.proofs.SumBounds.{sum_has_bounds}

pub returns-in-Ok-clause-bounds : goal.returns-in-Ok-clause-bounds
returns-in-Ok-clause-bounds c = sum_has_bounds c.in-Ok.sum c.in-Ok.ensures.0
