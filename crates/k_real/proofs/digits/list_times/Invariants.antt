use Rattle.std.proofs.Common.{◌≡◌, ◌++◌, ◌≤◌, length}
use Rattle.k_real.specs.Digits.{multiplied}
use Rattle.k_real.proofs.digits.list_times.Given as goal

abbrev pub invariant-loop-x : goal.invariant-loop-x
invariant-loop-x l = record {
  low : l.carry ≤ 255;
  whole : l.ys.items ++ multiplied l.factor l.carry l.rest ≡ multiplied l.factor l.more l.xs;
}

abbrev pub decreases-loop-x : goal.decreases-loop-x
decreases-loop-x l = length l.rest
