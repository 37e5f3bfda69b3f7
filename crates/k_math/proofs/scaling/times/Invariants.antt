use Rattle.std.proofs.Common.{◌≡◌}
use Rattle.k_math.specs.Scaling.{repeated}
use Rattle.k_math.proofs.scaling.times.Given as goal

abbrev pub invariant-loop-k : goal.invariant-loop-k
invariant-loop-k l = l.y ≡ repeated l._k l.by l.x
