use Rattle.std.proofs.Common.{◌≡◌, ◌++◌, drop}
use Rattle.std.specs.List.{flat_map}
use Rattle.k_types_meaning.specs.Initialisers.{item_numbers}
use Rattle.k_types_objects.proofs.file_values.put_items.Given as goal

abbrev pub invariant-loop-item : goal.invariant-loop-item
invariant-loop-item l = l.numbers ++ flat_map item_numbers (drop l.item-index l.items) ≡ l.fn.numbers ++ flat_map item_numbers l.items
