use Rattle.k_optab.proofs.Paths.{weight_at_most_work}
use Rattle.k_optab.proofs.laws.path_is_at_most_work.Goals as goal

pub returns : goal.returns
returns c = λ ops earlier s e k w weighs. weight_at_most_work ops earlier s e k w weighs.0 weighs.1
