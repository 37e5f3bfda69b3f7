use Rattle.k_carry_storage_laws.proofs.Programs.{storage_of_programs}
use Rattle.k_carry_storage_laws.proofs.laws.storage_of_programs.Goals as goal

pub returns : goal.returns
returns c = storage_of_programs
