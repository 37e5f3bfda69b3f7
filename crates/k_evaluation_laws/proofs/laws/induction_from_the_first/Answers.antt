use Rattle.k_evaluation_laws.proofs.Held.{variable_is_converted}
use Rattle.k_evaluation_laws.proofs.laws.induction_from_the_first.Goals as goal

pub returns : goal.returns
returns c = variable_is_converted
