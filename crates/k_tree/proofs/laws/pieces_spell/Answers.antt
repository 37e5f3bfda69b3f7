use Rattle.k_tree.proofs.Laid.{unit_spelled}
use Rattle.k_tree.proofs.laws.pieces_spell.Goals as goal

pub returns : goal.returns
returns c = unit_spelled
