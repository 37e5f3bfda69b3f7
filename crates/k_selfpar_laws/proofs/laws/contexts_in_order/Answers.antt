use Rattle.k_selfpar_laws.proofs.ByPaths.{contexts_are_in_order}
use Rattle.k_selfpar_laws.proofs.laws.contexts_in_order.Goals as goal

pub returns : goal.returns
returns c = contexts_are_in_order
