use Rattle.k_marks_laws.proofs.Sources.{loops_are_typed, reductions_are_typed}
use Rattle.k_marks_laws.proofs.laws.loops.Goals as goal

pub returns-clause-counted : goal.returns-clause-counted
returns-clause-counted c = loops_are_typed

pub returns-clause-reduced : goal.returns-clause-reduced
returns-clause-reduced c = reductions_are_typed
