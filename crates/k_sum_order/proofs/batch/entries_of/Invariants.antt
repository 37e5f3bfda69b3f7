use Rattle.k_sum_order.specs.Placing.{AreRanked}
use Rattle.k_sum_order.proofs.batch.entries_of.Given as goal

abbrev pub invariant-loop-number : goal.invariant-loop-number
invariant-loop-number l = AreRanked l.entries l.levels l.numbers l.level l.number l.batch.items
