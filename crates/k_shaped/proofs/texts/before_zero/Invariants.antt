use Rattle.std.proofs.Common.{◌≡◌, ◌++◌, length}
use Rattle.k_shaped.specs.Texts.{before_zero}
use Rattle.k_shaped.proofs.texts.before_zero.Given as goal

abbrev pub invariant-loop-b : goal.invariant-loop-b
invariant-loop-b l = l.text.items ++ before_zero l.rest ≡ before_zero l.bytes

abbrev pub decreases-loop-b : goal.decreases-loop-b
decreases-loop-b l = length l.rest
