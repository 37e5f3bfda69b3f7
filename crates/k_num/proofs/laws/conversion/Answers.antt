use Rattle.k_num.proofs.KindLaws.{held_converted, same_converted, converted_is, converted_held, converted_alike, remainder_converted}
use Rattle.k_num.proofs.laws.conversion.Goals as goal

pub returns-clause-held : goal.returns-clause-held
returns-clause-held c = held_converted

pub returns-clause-same : goal.returns-clause-same
returns-clause-same c = same_converted

pub returns-clause-unique : goal.returns-clause-unique
returns-clause-unique c = converted_is

pub returns-clause-kept : goal.returns-clause-kept
returns-clause-kept c = converted_held

pub returns-clause-alike : goal.returns-clause-alike
returns-clause-alike c = converted_alike

pub returns-clause-remainder : goal.returns-clause-remainder
returns-clause-remainder c = remainder_converted
