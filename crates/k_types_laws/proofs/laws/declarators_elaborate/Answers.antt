use Rattle.k_types_laws.proofs.DeclaredElaborate.{declarators_elaborate, types_elaborate}
use Rattle.k_types_laws.proofs.laws.declarators_elaborate.Goals as goal

pub returns : goal.returns
returns c = record { types = types_elaborate; objects = declarators_elaborate }
