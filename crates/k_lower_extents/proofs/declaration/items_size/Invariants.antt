use Rattle.std.proofs.Common.{◌≡◌, ◌+◌, drop}
use Rattle.k_lower_extents.specs.StatementSums.{items_size}
use Rattle.k_lower_extents.proofs.declaration.items_size.Given as goal

abbrev pub invariant-loop-item : goal.invariant-loop-item
invariant-loop-item l = l.size + items_size l.variables (drop l.item-index l.item-items) ≡ items_size l.variables l.items
