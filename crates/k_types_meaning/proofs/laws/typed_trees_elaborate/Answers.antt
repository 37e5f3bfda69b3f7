use Rattle.k_types_meaning.proofs.SourcesElaborate.{typed_trees_elaborate, typed_items_elaborate}
use Rattle.k_types_meaning.proofs.laws.typed_trees_elaborate.Goals as goal

pub returns : goal.returns
returns c = record { typed = typed_trees_elaborate; items = typed_items_elaborate }
