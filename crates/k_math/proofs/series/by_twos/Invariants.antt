use Rattle.std.proofs.Common.{◌≡◌, length}
use Rattle.k_math.specs.Series.{second_from}
use Rattle.k_math.proofs.series.by_twos.Given as goal

abbrev pub invariant-loop-skipped : goal.invariant-loop-skipped
invariant-loop-skipped l = second_from l.z l.p l.rest ≡ second_from l.z l.fn.first l.coefficients

abbrev pub decreases-loop-skipped : goal.decreases-loop-skipped
decreases-loop-skipped l = length l.rest
