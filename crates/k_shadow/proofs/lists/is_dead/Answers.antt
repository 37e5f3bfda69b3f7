use Rattle.k_shadow.proofs.Rows.{from_first}
use Rattle.k_shadow.proofs.lists.is_dead.Goals as goal

pub returns-else-is_empty : goal.returns-else-is_empty
returns-else-is_empty c = λ dead. from_first c.args.numbers.now c.args.stamp c.requires dead
