use Rattle.std.proofs.Common.{rules}
use Rattle.k_world.proofs.Filled.{item_is}
use Rattle.k_world.proofs.run_state.objects.store_item.Goals as goal

pub returns-clause-stored : goal.returns-clause-stored
returns-clause-stored c = item_is _ _ _ _ _ _ c.store_at.ensures.stored (search rules) (search rules)
