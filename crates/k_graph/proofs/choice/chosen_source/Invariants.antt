use Rattle.std.proofs.Common.{◌≡◌, ◌+◌, length, drop}
use Rattle.k_optab.specs.Events.{AreBefore}
use Rattle.k_graph.specs.Chains.{lesser, smallest_of}
use Rattle.k_graph.proofs.choice.chosen_source.Given as goal

abbrev pub invariant-loop-src : goal.invariant-loop-src
invariant-loop-src l = record {
  whole : lesser l.chosen (smallest_of l.start l.times l.time (drop l.src-index l.sources)) ≡ smallest_of l.start l.times l.time l.sources;
  before : AreBefore (l.start + length l.times) (drop l.src-index l.sources);
}
