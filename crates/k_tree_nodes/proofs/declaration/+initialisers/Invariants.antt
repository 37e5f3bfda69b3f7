use Rattle.std.proofs.Common.{◌≡◌, ◌+◌, map, sum, drop}
use Rattle.k_tree.specs.Count.{init_count}
use Rattle.k_tree_nodes.proofs.declaration.+initialisers.Given as goal

abbrev pub invariant-inits_nodes-loop-item : goal.invariant-inits_nodes-loop-item
invariant-inits_nodes-loop-item l = l.nodes + sum (map init_count (drop l.item-index l.item-items)) ≡ sum (map init_count l.items)
