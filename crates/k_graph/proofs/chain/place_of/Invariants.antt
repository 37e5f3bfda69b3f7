use Rattle.std.proofs.Common.{◌-◌, ◌≡◌, ◌≤◌, length}
use Rattle.k_optab.specs.Events.{made_before}
use Rattle.k_graph.proofs.chain.place_of.Given as goal

abbrev pub invariant-loop-so_far : goal.invariant-loop-so_far
invariant-loop-so_far l = record {
  from : l.at ≤ l.place;
  within : l.place ≤ length l.list;
  count : made_before l.place l.list ≡ l.so_far;
  few : l.so_far ≤ l.start;
}

abbrev pub decreases-loop-so_far : goal.decreases-loop-so_far
decreases-loop-so_far l = length l.list - l.place
