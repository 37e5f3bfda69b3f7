use Rattle.std.proofs.Common.{length}
use Rattle.k_selfpar.proofs.Grouped.{Tallying}
use Rattle.k_selfpar.proofs.grouping.children_of.Given as goal

abbrev pub invariant-loop-item : goal.invariant-loop-item
invariant-loop-item l = Tallying l.dict l.items l.rest l.tally

abbrev pub decreases-loop-item : goal.decreases-loop-item
decreases-loop-item l = length l.rest
