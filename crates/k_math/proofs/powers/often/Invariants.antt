use Rattle.std.proofs.Common.{◌≡◌}
use Rattle.k_math.specs.Powers.{squared}
use Rattle.k_math.proofs.powers.often.Given as goal

abbrev pub invariant-loop-k : goal.invariant-loop-k
invariant-loop-k l = l.s ≡ squared l._k l.fn.start
