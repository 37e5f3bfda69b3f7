use Rattle.k_sum.proofs.Endings.{exits_add_up}
use Rattle.k_sum.proofs.laws.exits_of_both.Goals as goal

pub returns : goal.returns
returns c = exits_add_up
