use Rattle.k_types_meaning.proofs.OneTree.{one_numbering}
use Rattle.k_types_meaning.proofs.laws.one_numbering.Goals as goal

pub returns : goal.returns
returns c = one_numbering
