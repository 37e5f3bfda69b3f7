use Rattle.k_top_headline.proofs.Runs.{run_is_told}
use Rattle.k_top_headline.proofs.laws.run_is_told.Goals as goal

pub returns : goal.returns
returns c = run_is_told
