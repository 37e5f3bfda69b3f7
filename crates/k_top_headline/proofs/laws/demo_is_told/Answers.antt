use Rattle.k_top_headline.proofs.OtherRuns.{demo_is_told}
use Rattle.k_top_headline.proofs.laws.demo_is_told.Goals as goal

pub returns : goal.returns
returns c = demo_is_told
