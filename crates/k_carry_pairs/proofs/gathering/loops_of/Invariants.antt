use Rattle.std.proofs.Common.{length}
use Rattle.k_carry_pairs.proofs.Lasting.{IsTelling}
use Rattle.k_carry_pairs.proofs.gathering.loops_of.Given as goal

-- the loops so far and those of the rest are all
abbrev pub invariant-loop-is_seen : goal.invariant-loop-is_seen
invariant-loop-is_seen l = IsTelling l.fn.seen l.rest l.fn.found l.loops

abbrev pub decreases-loop-is_seen : goal.decreases-loop-is_seen
decreases-loop-is_seen l = length l.rest
