use Rattle.std.proofs.Common.{◌≡◌, ◌+◌, map, sum, drop}
use Rattle.k_tree.specs.Count.{option_count}
use Rattle.k_tree_nodes.proofs.declaration.dims_nodes.Given as goal

abbrev pub invariant-loop-size : goal.invariant-loop-size
invariant-loop-size l = l.nodes + sum (map option_count (drop l.size-index l.size-items)) ≡ sum (map option_count l.dims)
