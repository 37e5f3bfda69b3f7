use Rattle.k_tree.proofs.Begin.{spec_begins_no_stmt}
use Rattle.k_tree.proofs.laws.declarations_differ.Goals as goal

pub returns : goal.returns
returns c = spec_begins_no_stmt
