use Rattle.std.proofs.Common.{◌≡◌}
use Rattle.k_real.specs.Digits.{value, AreDigits}
use Rattle.k_real.specs.General.{stripped}
use Rattle.k_real.proofs.general.put_stripped.Given as goal

abbrev pub invariant-loop-left : goal.invariant-loop-left
invariant-loop-left l = record {
  digits : AreDigits l.rest;
  same : stripped l.left (value l.rest) ≡ stripped l.many (value l.ys);
  out : l.out.items ≡ l.initial.out.items;
}

abbrev pub decreases-loop-left : goal.decreases-loop-left
decreases-loop-left l = l.left
