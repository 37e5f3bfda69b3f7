use Rattle.std.proofs.Common.{◌≡◌, ◌+◌, map, sum, drop}
use Rattle.k_tree.specs.Count.{item_count}
use Rattle.k_tree_nodes.proofs.unit.nodes.Given as goal

abbrev pub invariant-loop-item : goal.invariant-loop-item
invariant-loop-item l = l.nodes + sum (map item_count (drop l.item-index l.item-items)) ≡ sum (map item_count l.unit.items)
