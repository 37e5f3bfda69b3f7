use Rattle.k_marks_laws.proofs.Frames.{expressions_leave, statements_leave, calls_leave}
use Rattle.k_marks_laws.proofs.laws.frames.Goals as goal

pub returns-clause-expressions : goal.returns-clause-expressions
returns-clause-expressions c = expressions_leave

pub returns-clause-statements : goal.returns-clause-statements
returns-clause-statements c = statements_leave

pub returns-clause-calls : goal.returns-clause-calls
returns-clause-calls c = calls_leave
