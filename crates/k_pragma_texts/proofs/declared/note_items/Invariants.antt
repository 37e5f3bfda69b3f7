use Rattle.std.proofs.Common.{◌≡◌, ◌++◌, map, drop}
use Rattle.k_pragma_texts.specs.Declarations.{item_occurs, one_behind_another}
use Rattle.k_pragma_texts.proofs.declared.note_items.Given as goal

abbrev pub invariant-loop-item : goal.invariant-loop-item
invariant-loop-item l =
    l.occurs.items ++ one_behind_another (map item_occurs (drop l.item-index l.item-items))
    ≡ l.fn.occurs.items ++ one_behind_another (map item_occurs l.items)
