use Rattle.k_types_laws.proofs.BeginningsElaborate.{initialisers_elaborate}
use Rattle.k_types_laws.proofs.laws.initialisers_elaborate.Goals as goal

pub returns : goal.returns
returns c = initialisers_elaborate
