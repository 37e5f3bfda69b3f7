use Rattle.k_types.proofs.Items.{ItemsSoFar}
use Rattle.k_types.proofs.item.place_items.Given as goal

abbrev pub invariant-loop-item : goal.invariant-loop-item
invariant-loop-item l = ItemsSoFar l.defined l.fn.file l.file l.item-index l.items
