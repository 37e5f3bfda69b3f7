use Rattle.k_sum_rows.proofs.Listed as listed
use Rattle.k_sum_rows.proofs.laws.one_run.Goals as goal

pub returns : goal.returns
returns c = listed.one_run
