use Rattle.std.proofs.Common.{◌≡◌, ◌+◌, map, sum, drop}
use Rattle.k_tree.specs.Count.{part_count, stmt_count}
use Rattle.k_tree_nodes.proofs.statement.+statements.Given as goal

abbrev pub invariant-stmts_nodes-loop-part : goal.invariant-stmts_nodes-loop-part
invariant-stmts_nodes-loop-part l = l.nodes + sum (map stmt_count (drop l.part-index l.part-items)) ≡ sum (map stmt_count l.parts)

abbrev pub invariant-parts_nodes-loop-part : goal.invariant-parts_nodes-loop-part
invariant-parts_nodes-loop-part l = l.nodes + sum (map part_count (drop l.part-index l.part-items)) ≡ sum (map part_count l.parts)
