use Rattle.k_selfpar_laws.proofs.ByContexts.{rows_are_sums}
use Rattle.k_selfpar_laws.proofs.laws.rows_by_contexts.Goals as goal

pub returns : goal.returns
returns c = rows_are_sums
