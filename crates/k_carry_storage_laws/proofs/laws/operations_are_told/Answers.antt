use Rattle.k_carry_storage_laws.proofs.Programs.{operations_are_told}
use Rattle.k_carry_storage_laws.proofs.laws.operations_are_told.Goals as goal

pub returns : goal.returns
returns c = operations_are_told
