use Rattle.std.proofs.Common.{◌≡◌, ◌++◌, length}
use Rattle.k_carry_storage_pairs.specs.Kept.{pairs_among}
use Rattle.k_carry_storage_pairs.proofs.joining.push_of.Given as goal

-- the pairs so far and those of the rest are all
abbrev pub invariant-loop-one : goal.invariant-loop-one
invariant-loop-one l = l.pairs ++ pairs_among l.fn.kind l.fn.region l.rest ≡ l.initial.pairs ++ pairs_among l.fn.kind l.fn.region l.fn.loops

abbrev pub decreases-loop-one : goal.decreases-loop-one
decreases-loop-one l = length l.rest
