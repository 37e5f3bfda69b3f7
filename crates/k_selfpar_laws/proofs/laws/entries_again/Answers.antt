use Rattle.k_selfpar_laws.proofs.Renumbering.{entries_are_gathered_again}
use Rattle.k_selfpar_laws.proofs.laws.entries_again.Goals as goal

pub returns : goal.returns
returns c = entries_are_gathered_again
