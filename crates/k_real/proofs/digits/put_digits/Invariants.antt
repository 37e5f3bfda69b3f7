use Rattle.std.proofs.Common.{◌≡◌, ◌++◌}
use Rattle.k_real.specs.Digits.{value}
use Rattle.k_real.specs.Texts.{digits}
use Rattle.k_real.proofs.digits.put_digits.Given as goal

abbrev pub invariant-loop-left : goal.invariant-loop-left
invariant-loop-left l = l.out.items ++ digits l.left (value l.xs) ≡ l.initial.out.items ++ digits l.many (value l.xs)

abbrev pub decreases-loop-left : goal.decreases-loop-left
decreases-loop-left l = l.left
