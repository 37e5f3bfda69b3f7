use Rattle.k_evaluation.proofs.StatementJumps.{statements_listed}
use Rattle.k_evaluation.proofs.laws.statements_are_listed.Goals as goal

pub returns : goal.returns
returns c = statements_listed
