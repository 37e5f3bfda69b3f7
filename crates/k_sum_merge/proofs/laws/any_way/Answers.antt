use Rattle.k_sum_merge.proofs.Ways.{any_way_is_one}
use Rattle.k_sum_merge.proofs.laws.any_way.Goals as goal

pub returns : goal.returns
returns c = any_way_is_one
