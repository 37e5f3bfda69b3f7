use Rattle.std.proofs.Common.{◌≡◌, ◌++◌, length}
use Rattle.k_carry_pairs.specs.Gathered.{pairs_of as pairs_meant}
use Rattle.k_carry_pairs.proofs.found.pairs_of.Given as goal

-- the pairs so far and those of the rest are those of all
abbrev pub invariant-loop-first : goal.invariant-loop-first
invariant-loop-first l = l.pairs ++ pairs_meant l.fn.region l.rest ≡ pairs_meant l.fn.region l.fn.found

abbrev pub decreases-loop-first : goal.decreases-loop-first
decreases-loop-first l = length l.rest
