use Rattle.k_top_headline.proofs.OtherRuns.{made_programs_are_accepted}
use Rattle.k_top_headline.proofs.laws.made_programs_are_accepted.Goals as goal

pub returns : goal.returns
returns c = made_programs_are_accepted
