use Rattle.k_top_headline.proofs.Sums.{merge_is_told}
use Rattle.k_top_headline.proofs.laws.merge_is_told.Goals as goal

pub returns : goal.returns
returns c = merge_is_told
