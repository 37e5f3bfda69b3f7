use Rattle.k_selfpar.proofs.Siblings.{contexts_forget_order, rows_forget_order}
use Rattle.k_selfpar.proofs.laws.order_of_siblings.Goals as goal

pub returns : goal.returns
returns c = record { rows = rows_forget_order; contexts = contexts_forget_order }
