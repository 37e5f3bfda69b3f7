use Rattle.std.proofs.Common.{◌≡◌, ◌-◌, ◌≤◌, ◌++◌, length}
use Rattle.k_dict_entries.specs.Entries.{expansion, trees_of}
use Rattle.k_dict_entries.specs.Expanding.{AreShallow, owed}
use Rattle.k_dict_entries.proofs.expansion.expand.Given as goal

abbrev pub invariant-loop-given : goal.invariant-loop-given
invariant-loop-given l = record {
  given : l.nodes ++ owed (trees_of l.dict) l.pending ≡ expansion l.dict l.root;
  shallow : AreShallow l.root l.pending;
  few : length l.nodes ≤ l.limit;
}

abbrev pub decreases-loop-given : goal.decreases-loop-given
decreases-loop-given l = l.limit - length l.nodes
