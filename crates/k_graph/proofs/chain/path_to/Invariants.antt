use Rattle.std.proofs.Common.{◌+◌, ◌<◌, ◌≤◌, ◌++◌, List, ℕ, length, reverse}
use Rattle.k_graph.specs.Chains.{Traces}
use Rattle.k_graph.proofs.chain.path_to.Given as goal

abbrev pub invariant-loop-node : goal.invariant-loop-node
invariant-loop-node l = record {
  from_start : l.start ≤ l.node;
  within : l.node < l.start + length l.befores;
  goes_on : (nodes : List ℕ) → Traces l.start l.befores l.node nodes → Traces l.start l.befores l.last (nodes ++ reverse l.nodes.items);
}

abbrev pub decreases-loop-node : goal.decreases-loop-node
decreases-loop-node l = l.node
