use Rattle.k_optab.proofs.Matching.{matching_exit, balanced_to_exit}
use Rattle.k_optab.proofs.laws.exit_is_matching.Goals as goal

pub returns : goal.returns
returns c = λ events inside. (matching_exit events inside, balanced_to_exit events inside)
