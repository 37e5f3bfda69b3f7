use Rattle.k_types_laws.proofs.DeclaredElaborate.{parameters_elaborate}
use Rattle.k_types_laws.proofs.laws.parameters_elaborate.Goals as goal

pub returns : goal.returns
returns c = parameters_elaborate
