use Rattle.k_sum_rows.proofs.Counted.{Done}
use Rattle.k_sum_rows.proofs.counting.count_all.Given as goal

abbrev pub invariant-loop-number : goal.invariant-loop-number
invariant-loop-number l = Done l.dict l.roots l.number l.counts

abbrev pub decreases-loop-number : goal.decreases-loop-number
decreases-loop-number l = l.number
