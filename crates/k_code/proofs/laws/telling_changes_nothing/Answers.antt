use Rattle.k_code.proofs.Telling.{telling_changes_nothing}
use Rattle.k_code.proofs.laws.telling_changes_nothing.Goals as goal

pub returns : goal.returns
returns c = telling_changes_nothing
