use Rattle.std.proofs.Common.{◌≡◌, ◌+◌, length, drop, max}
use Rattle.k_optab.specs.Events.{AreBefore}
use Rattle.k_optab.specs.GraphLaws.{greatest_of}
use Rattle.k_graph.specs.Times.{time_at}
use Rattle.k_graph.proofs.times.greatest_time.Given as goal

abbrev pub invariant-loop-src : goal.invariant-loop-src
invariant-loop-src l = record {
  whole : max l.greatest (greatest_of (time_at l.start l.times) (drop l.src-index l.sources)) ≡ greatest_of (time_at l.start l.times) l.sources;
  before : AreBefore (l.start + length l.times) (drop l.src-index l.sources);
}
