use Rattle.k_selfpar.proofs.Siblings.{contexts_are_unique, rows_are_unique}
use Rattle.k_selfpar.proofs.laws.one_list.Goals as goal

pub returns : goal.returns
returns c = record { rows = rows_are_unique; contexts = contexts_are_unique }
