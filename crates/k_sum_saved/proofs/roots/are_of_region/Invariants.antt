use Rattle.std.proofs.Common.{◌↔◌, length}
use Rattle.k_dict_entries.specs.Entries.{NameBelow}
use Rattle.k_sum_saved.specs.SumLines.{AreOfRegion}
use Rattle.k_sum_saved.proofs.roots.are_of_region.Given as goal

abbrev pub invariant-loop-root : goal.invariant-loop-root
invariant-loop-root l = record {
  same : AreOfRegion l.region l.entries l.rest ↔ AreOfRegion l.region l.entries l.roots;
  below : NameBelow (length l.entries) l.rest;
}

abbrev pub decreases-loop-root : goal.decreases-loop-root
decreases-loop-root l = length l.rest
