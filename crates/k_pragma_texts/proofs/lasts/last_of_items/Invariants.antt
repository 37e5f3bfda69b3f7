use Rattle.std.proofs.Common.{◌≡◌, map, drop}
use Rattle.k_pragma_texts.specs.Declarations.{item_last, last_behind}
use Rattle.k_pragma_texts.proofs.lasts.last_of_items.Given as goal

abbrev pub invariant-loop-item : goal.invariant-loop-item
invariant-loop-item l = last_behind l.last (map item_last (drop l.item-index l.item-items)) ≡ last_behind l.before (map item_last l.items)
