use Rattle.k_types_meaning.proofs.BodiesElaborate.{statements_elaborate, bodies_elaborate}
use Rattle.k_types_meaning.proofs.laws.statements_elaborate.Goals as goal

pub returns : goal.returns
returns c = record { one = statements_elaborate; body = bodies_elaborate }
