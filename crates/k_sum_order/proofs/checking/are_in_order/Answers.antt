use Rattle.k_sum_order.proofs.Comparing.{linked_order, order_linked}
use Rattle.k_sum_order.proofs.checking.are_in_order.Goals as goal

pub returns : goal.returns
returns c = (
  λ told. linked_order c.args.entries.now (c.are_linked.ensures.0 told),
  λ order. c.are_linked.ensures.1 (order_linked c.args.entries.now order),
)
