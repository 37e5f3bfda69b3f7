use Rattle.std.proofs.Common.{◌≡◌, ◌++◌, drop}
use Rattle.std.specs.List.{flat_map}
use Rattle.k_report.specs.Graph.{node_text}
use Rattle.k_report.proofs.instance_lines.push_some_nodes.Given as goal

abbrev pub invariant-loop-node : goal.invariant-loop-node
invariant-loop-node l = l.text.items ++ flat_map node_text (drop l.node-index l.nodes) ≡ l.fn.text.items ++ flat_map node_text l.fn.nodes
