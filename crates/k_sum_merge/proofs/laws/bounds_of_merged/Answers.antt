use Rattle.k_sum_merge.proofs.Kept.{merged_have_bounds}
use Rattle.k_sum_merge.proofs.laws.bounds_of_merged.Goals as goal

pub returns : goal.returns
returns c = merged_have_bounds
