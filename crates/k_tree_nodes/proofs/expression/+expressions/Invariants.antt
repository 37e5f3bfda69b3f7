use Rattle.std.proofs.Common.{◌≡◌, ◌+◌, map, sum, drop}
use Rattle.k_tree.specs.Count.{expr_count}
use Rattle.k_tree_nodes.proofs.expression.+expressions.Given as goal

abbrev pub invariant-args_nodes-loop-arg : goal.invariant-args_nodes-loop-arg
invariant-args_nodes-loop-arg l = l.nodes + sum (map expr_count (drop l.arg-index l.arg-items)) ≡ sum (map expr_count l.args)
