use Rattle.k_wide_meaning.proofs.Calling.{marks_exist, marks_are_unique}
use Rattle.k_wide_meaning.proofs.laws.one_marking.Goals as goal

pub returns-clause-exist : goal.returns-clause-exist
returns-clause-exist c = marks_exist

pub returns-clause-unique : goal.returns-clause-unique
returns-clause-unique c = marks_are_unique
