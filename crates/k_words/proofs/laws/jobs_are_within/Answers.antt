use Rattle.k_words.proofs.Within.{jobs_are_within}
use Rattle.k_words.proofs.laws.jobs_are_within.Goals as goal

pub returns : goal.returns
returns c = jobs_are_within
