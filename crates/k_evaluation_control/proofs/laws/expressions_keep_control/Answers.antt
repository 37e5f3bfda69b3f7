use Rattle.k_evaluation_control.proofs.Statements.{expressions_keep_control}
use Rattle.k_evaluation_control.proofs.laws.expressions_keep_control.Goals as goal

pub returns : goal.returns
returns c = expressions_keep_control
