use Rattle.k_dict_entries.specs.Entries.{AreDistinct}
use Rattle.k_sum_order.specs.Placing.{AreOrderedTo}
use Rattle.k_sum_order.proofs.ordering.order_levels.Given as goal

abbrev pub invariant-loop-level : goal.invariant-loop-level
invariant-loop-level l = record {
  ordered : AreOrderedTo l.entries l.levels l.level (record { dict = l.table; numbers = l.numbers });
  distinct : AreDistinct l.table;
}
