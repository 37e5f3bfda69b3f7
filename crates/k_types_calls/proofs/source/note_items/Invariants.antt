use Rattle.std.proofs.Common.{◌≡◌, ◌++◌, map, drop}
use Rattle.k_types_meaning.specs.Called.{all_calls, item_calls}
use Rattle.k_types_calls.specs.Noting.{seen}
use Rattle.k_types_calls.proofs.source.note_items.Given as goal

abbrev pub invariant-loop-item : goal.invariant-loop-item
invariant-loop-item l =
    map seen l.calls.items ++ all_calls (map item_calls (drop l.item-index l.items))
    ≡ map seen l.fn.calls.items ++ all_calls (map item_calls l.items)
