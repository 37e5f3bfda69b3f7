use Rattle.k_selfpar.proofs.Counting.{Counted}
use Rattle.k_selfpar.proofs.counts.count_all.Given as goal

abbrev pub invariant-loop-number : goal.invariant-loop-number
invariant-loop-number l = Counted l.dict l.root l.number l.counts

abbrev pub decreases-loop-number : goal.decreases-loop-number
decreases-loop-number l = l.number
