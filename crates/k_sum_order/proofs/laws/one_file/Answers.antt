use Rattle.k_sum_order.proofs.Merges.{file_is_one}
use Rattle.k_sum_order.proofs.laws.one_file.Goals as goal

pub returns : goal.returns
returns c = file_is_one
