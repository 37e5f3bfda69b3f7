use Rattle.std.proofs.Common.{◌≡◌, ◌+◌, map, sum, drop}
use Rattle.k_tree.specs.Count.{declarator_count}
use Rattle.k_tree_nodes.proofs.declaration.declarators_nodes.Given as goal

abbrev pub invariant-loop-declarator : goal.invariant-loop-declarator
invariant-loop-declarator l = l.nodes + sum (map declarator_count (drop l.declarator-index l.declarator-items)) ≡ sum (map declarator_count l.list)
