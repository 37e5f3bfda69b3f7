use Rattle.std.proofs.Common.{◌≡◌, ◌++◌, map, length}
use Rattle.k_carry_storage_pairs.specs.Storage.{as_shared}
use Rattle.k_carry_storage_pairs.proofs.joining.push_all.Given as goal

-- the pairs so far and those of the rest are all
abbrev pub invariant-loop-pair : goal.invariant-loop-pair
invariant-loop-pair l = l.pairs ++ map (as_shared l.fn.kind) l.rest ≡ l.initial.pairs ++ map (as_shared l.fn.kind) l.fn.more

abbrev pub decreases-loop-pair : goal.decreases-loop-pair
decreases-loop-pair l = length l.rest
