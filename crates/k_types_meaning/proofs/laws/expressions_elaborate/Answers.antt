use Rattle.k_types_meaning.proofs.Elaborates.{expressions_elaborate}
use Rattle.k_types_meaning.proofs.laws.expressions_elaborate.Goals as goal

pub returns : goal.returns
returns c = expressions_elaborate
