use Rattle.std.proofs.Common.{◌/◌, ◌^◌, ◌≤◌}
use Rattle.k_real.specs.Digits.{Spells}
use Rattle.k_real.proofs.digits.digits_of.Given as goal

abbrev pub invariant-loop-left : goal.invariant-loop-left
invariant-loop-left l = record {
  some : l.left ≤ 64;
  spells : Spells l.ys.items (l.n / 2 ^ l.left);
}

abbrev pub decreases-loop-left : goal.decreases-loop-left
decreases-loop-left l = l.left
