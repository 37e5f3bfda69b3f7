use Rattle.k_sum_order.proofs.LevelOrder.{Leveling}
use Rattle.k_sum_order.proofs.levels.levels_of.Given as goal

abbrev pub invariant-loop-entry : goal.invariant-loop-entry
invariant-loop-entry l = Leveling l.entries l.levels.items l.entry-index
