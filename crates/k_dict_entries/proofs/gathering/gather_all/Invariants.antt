use Rattle.std.proofs.Common.{◌≡◌, ◌≤◌, drop, length}
use Rattle.k_dict_entries.specs.Entries.{AreInterned}
use Rattle.k_dict_entries.specs.Gathering.{HaveRuns, closed_to, gathered, state, taken, weight}
use Rattle.k_dict_entries.proofs.gathering.gather_all.Given as goal

abbrev pub invariant-loop-node : goal.invariant-loop-node
invariant-loop-node l = record {
  leads : closed_to 0 (taken (drop l.node-index l.nodes) (state l.gathering)) ≡ gathered l.fn.nodes;
  weighs : weight l.gathering.levels ≤ l.node-index;
  runs : HaveRuns (length l.gathering.dict) l.gathering.levels;
  interned : AreInterned l.gathering.dict;
}
