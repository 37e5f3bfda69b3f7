use Rattle.std.proofs.Common.{length}
use Rattle.k_selfpar.proofs.Rowed.{Rowed}
use Rattle.k_selfpar.proofs.tree_rows.rows_of.Given as goal

abbrev pub invariant-loop-first : goal.invariant-loop-first
invariant-loop-first l = Rowed l.dict l.items l.rest l.rows

abbrev pub decreases-loop-first : goal.decreases-loop-first
decreases-loop-first l = length l.rest
