use Rattle.std.proofs.Common.{length}
use Rattle.k_carry.specs.Sources.{RowTold, Setting}
use Rattle.k_carry.proofs.places.hand.Given as goal

-- what is kept is right
abbrev pub invariant-loop-arg : goal.invariant-loop-arg
invariant-loop-arg l = (s : Setting) → RowTold s l.initial.registers → RowTold s l.registers

abbrev pub decreases-loop-arg : goal.decreases-loop-arg
decreases-loop-arg l = length l.rest
