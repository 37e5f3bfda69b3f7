use Rattle.k_sum_order.proofs.OneOrder.{order_is_one}
use Rattle.k_sum_order.proofs.laws.one_order.Goals as goal

pub returns : goal.returns
returns c = order_is_one
