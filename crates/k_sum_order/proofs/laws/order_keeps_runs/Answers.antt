use Rattle.k_sum_order.proofs.Ordered.{order_keeps_runs}
use Rattle.k_sum_order.proofs.laws.order_keeps_runs.Goals as goal

pub returns : goal.returns
returns c = order_keeps_runs
