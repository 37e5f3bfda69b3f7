use Rattle.std.proofs.Common.{length}
use Rattle.k_selfpar.proofs.Adding.{Summing}
use Rattle.k_selfpar.proofs.sums.sums_of.Given as goal

abbrev pub invariant-loop-item : goal.invariant-loop-item
invariant-loop-item l = Summing l.dict l.items l.rest l.sums

abbrev pub decreases-loop-item : goal.decreases-loop-item
decreases-loop-item l = length l.rest
