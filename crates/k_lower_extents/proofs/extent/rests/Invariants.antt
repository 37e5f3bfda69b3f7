use Rattle.std.proofs.Common.{◌≡◌, length}
use Rattle.k_lower_extents.specs.StatementSums.{rests, rests_onto}
use Rattle.k_lower_extents.proofs.extent.rests.Given as goal

abbrev pub invariant-loop-last : goal.invariant-loop-last
invariant-loop-last l = rests_onto l.rest l.all l.found ≡ rests l.extents

abbrev pub decreases-loop-last : goal.decreases-loop-last
decreases-loop-last l = length l.rest
