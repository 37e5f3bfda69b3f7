use Rattle.std.proofs.Common.{◌≡◌, ◌++◌, map, drop}
use Rattle.k_marks_meaning.specs.Uses.{all_uses, item_uses}
use Rattle.k_marks.proofs.notes.note_items.Given as goal

abbrev pub invariant-loop-item : goal.invariant-loop-item
invariant-loop-item l =
    l.uses.items ++ all_uses (map item_uses (drop l.item-index l.item-items)) ≡ l.fn.uses.items ++ all_uses (map item_uses l.items)
