use Rattle.k_top_headline.proofs.OtherRuns.{graph_is_told}
use Rattle.k_top_headline.proofs.laws.graph_is_told.Goals as goal

pub returns : goal.returns
returns c = graph_is_told
