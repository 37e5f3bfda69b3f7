use Rattle.k_advise_order.proofs.Company.{order_is_told}
use Rattle.k_advise_order.proofs.laws.order_tells.Goals as goal

pub returns : goal.returns
returns c = order_is_told
