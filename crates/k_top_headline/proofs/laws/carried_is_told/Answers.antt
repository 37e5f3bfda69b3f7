use Rattle.k_top_headline.proofs.OtherRuns.{carried_is_told}
use Rattle.k_top_headline.proofs.laws.carried_is_told.Goals as goal

pub returns : goal.returns
returns c = carried_is_told
