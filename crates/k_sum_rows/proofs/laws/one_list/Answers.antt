use Rattle.k_sum_rows.proofs.Listed as listed
use Rattle.k_sum_rows.proofs.laws.one_list.Goals as goal

pub returns : goal.returns
returns c = listed.contexts_are_one
