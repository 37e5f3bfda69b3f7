use Rattle.k_top_headline.proofs.Shown.{show_is_told}
use Rattle.k_top_headline.proofs.Sums.{sum_is_told}
use Rattle.k_top_headline.proofs.laws.show_is_told.Goals as goal

pub returns-clause-profile : goal.returns-clause-profile
returns-clause-profile c = show_is_told

pub returns-clause-sum : goal.returns-clause-sum
returns-clause-sum c = sum_is_told
