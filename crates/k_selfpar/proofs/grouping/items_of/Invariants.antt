use Rattle.std.proofs.Common.{◌≡◌, ◌++◌, ℕ, map, length}
use Rattle.k_dict_entries.specs.Entries.{AreRuns}
use Rattle.k_selfpar.specs.Grouping.{item_for}
use Rattle.k_selfpar.proofs.grouping.items_of.Given as goal

abbrev pub invariant-loop-run : goal.invariant-loop-run
invariant-loop-run l = record {
  items : l.items.items ++ map (item_for l.dict) l.rest ≡ map (item_for l.dict) l.runs;
  runs : (low : ℕ) × AreRuns low (length l.dict) l.rest;
}

abbrev pub decreases-loop-run : goal.decreases-loop-run
decreases-loop-run l = length l.rest
