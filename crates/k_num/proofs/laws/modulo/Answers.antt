use Rattle.k_num.proofs.Combining.{combined_alike, combined_narrowed, assigned_is_combined, unsigned_value}
use Rattle.k_num.proofs.laws.modulo.Goals as goal

pub returns-clause-alike : goal.returns-clause-alike
returns-clause-alike c = combined_alike

pub returns-clause-narrower : goal.returns-clause-narrower
returns-clause-narrower c = combined_narrowed

pub returns-clause-assigned : goal.returns-clause-assigned
returns-clause-assigned c = assigned_is_combined

pub returns-clause-unsigned : goal.returns-clause-unsigned
returns-clause-unsigned c = unsigned_value
