use Rattle.k_types_meaning.proofs.OneTree.{one_typed_tree}
use Rattle.k_types_meaning.proofs.laws.one_typed_tree.Goals as goal

pub returns : goal.returns
returns c = one_typed_tree
