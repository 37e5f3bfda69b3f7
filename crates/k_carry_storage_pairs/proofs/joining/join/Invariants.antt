use Rattle.std.proofs.Common.{◌≡◌, ◌++◌, length}
use Rattle.k_carry_storage_pairs.specs.Kept.{joined}
use Rattle.k_carry_storage_pairs.proofs.joining.join.Given as goal

-- the loops so far and those of the rest are all
abbrev pub invariant-loop-one : goal.invariant-loop-one
invariant-loop-one l = l.loops ++ joined l.fn.stores l.rest ≡ joined l.fn.stores l.fn.loads

abbrev pub decreases-loop-one : goal.decreases-loop-one
decreases-loop-one l = length l.rest
