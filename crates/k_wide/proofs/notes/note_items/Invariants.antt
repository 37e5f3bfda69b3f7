use Rattle.std.proofs.Common.{◌≡◌, ◌++◌, map, drop}
use Rattle.k_wide_meaning.specs.Occurrences.{all_of, item_occurs}
use Rattle.k_wide.proofs.notes.note_items.Given as goal

abbrev pub invariant-loop-item : goal.invariant-loop-item
invariant-loop-item l =
    l.found.items ++ all_of (map item_occurs (drop l.item-index l.item-items)) ≡ l.fn.found.items ++ all_of (map item_occurs l.items)
