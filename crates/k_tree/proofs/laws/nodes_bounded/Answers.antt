use Rattle.k_tree.proofs.Bounds.{unit_bound}
use Rattle.k_tree.proofs.laws.nodes_bounded.Goals as goal

pub returns : goal.returns
returns c = unit_bound
