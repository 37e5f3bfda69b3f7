use Rattle.k_hcpa_standing.proofs.Counted.{reads_are_counted}
use Rattle.k_hcpa_standing.proofs.laws.reads_are_counted.Goals as goal

pub returns : goal.returns
returns c = reads_are_counted
