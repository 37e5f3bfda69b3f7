use Rattle.k_hcpa_laws.proofs.Operations.{operations_keep_times}
use Rattle.k_hcpa_laws.proofs.laws.operations_keep_times.Goals as goal

pub returns : goal.returns
returns c = operations_keep_times
