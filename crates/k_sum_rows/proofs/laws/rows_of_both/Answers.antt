use Rattle.k_sum_rows.proofs.Listed as listed
use Rattle.k_sum_rows.proofs.laws.rows_of_both.Goals as goal

pub returns : goal.returns
returns c = listed.rows_add_up
