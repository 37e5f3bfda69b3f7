use Rattle.std.proofs.Common.{◌≡◌, length}
use Rattle.k_math.specs.Series.{series_from}
use Rattle.k_math.proofs.series.onward.Given as goal

abbrev pub invariant-loop-c : goal.invariant-loop-c
invariant-loop-c l = series_from l.z l.p l.rest ≡ series_from l.z l.fn.first l.coefficients

abbrev pub decreases-loop-c : goal.decreases-loop-c
decreases-loop-c l = length l.rest
