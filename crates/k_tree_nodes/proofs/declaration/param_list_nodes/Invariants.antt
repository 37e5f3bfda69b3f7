use Rattle.std.proofs.Common.{◌≡◌, ◌+◌, map, sum, drop}
use Rattle.k_tree.specs.Count.{param_count}
use Rattle.k_tree_nodes.proofs.declaration.param_list_nodes.Given as goal

abbrev pub invariant-loop-param : goal.invariant-loop-param
invariant-loop-param l = l.nodes + sum (map param_count (drop l.param-index l.param-items)) ≡ sum (map param_count l.list)
