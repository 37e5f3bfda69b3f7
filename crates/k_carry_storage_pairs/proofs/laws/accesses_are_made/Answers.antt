use Rattle.k_carry_storage_pairs.proofs.Accessing.{accesses_are_made}
use Rattle.k_carry_storage_pairs.proofs.laws.accesses_are_made.Goals as goal

pub returns : goal.returns
returns c = accesses_are_made
