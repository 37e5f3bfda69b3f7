use Rattle.k_evaluation_control.proofs.Statements.{statements_end_as_their_text}
use Rattle.k_evaluation_control.proofs.laws.statements_end_as_their_text.Goals as goal

pub returns : goal.returns
returns c = statements_end_as_their_text
