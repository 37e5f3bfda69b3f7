use Rattle.std.proofs.Common.{arith}
use Rattle.k_sum_order.specs.Placing.{Ordering}
use Rattle.k_sum_order.proofs.Batches.{orders_level}
use Rattle.k_sum_order.proofs.Placed.{ordered_done}
use Rattle.k_sum_order.proofs.ordering.order_levels.Goals as goal

pub loop-level-preserved : goal.loop-level-preserved
loop-level-preserved c =
    let old : Ordering = record { dict = c.loop-level.table; numbers = c.loop-level.numbers } in
    let new : Ordering = record { dict = c.order_level.new.table; numbers = c.order_level.new.numbers } in
    record {
      ordered = orders_level c.args.entries.now c.args.levels.now c.loop-level.level old new c.requires.interned.earlier c.requires.levels
          c.loop-level.invariant.ordered c.in_ok-order_level.ensures.orders;
      distinct = c.in_ok-order_level.ensures.distinct;
    }

pub returns-clause-ordered : goal.returns-clause-ordered
returns-clause-ordered c =
    let ordered : Ordering = record { dict = c.loop-level.table; numbers = c.loop-level.numbers } in
    let count = c.requires.levels.count in
    ordered_done c.args.entries.now c.args.levels.now c.loop-level.level ordered c.loop-level.invariant.ordered
    (λ n within. let below = c.end_of-level-end.ensures n (omega arith) in omega arith)
