use Rattle.std.proofs.Common.{◌≡◌, map, drop}
use Rattle.k_types_calls.specs.Getchar.{any, item_calls}
use Rattle.k_types_calls.proofs.getchar.expressions.items_call.Given as goal

abbrev pub invariant-loop-item : goal.invariant-loop-item
invariant-loop-item l = any (map item_calls (drop l.item-index l.item-items)) ≡ any (map item_calls l.items)
