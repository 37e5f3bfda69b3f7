use Rattle.k_sum_rows.proofs.Listed as listed
use Rattle.k_sum_rows.proofs.laws.order_of_runs.Goals as goal

pub returns : goal.returns
returns c = record { rows = listed.rows_forget_order; contexts = listed.contexts_forget_order }
