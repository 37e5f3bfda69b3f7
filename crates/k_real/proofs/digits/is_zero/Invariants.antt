use Rattle.std.proofs.Common.{◌≡◌, length, ◌==◌}
use Rattle.k_real.specs.Digits.{value}
use Rattle.k_real.proofs.digits.is_zero.Given as goal

abbrev pub invariant-loop-x : goal.invariant-loop-x
invariant-loop-x l = (value l.rest == 0) ≡ (value l.xs == 0)

abbrev pub decreases-loop-x : goal.decreases-loop-x
decreases-loop-x l = length l.rest
