use Rattle.std.proofs.Common.{◌≡◌, length}
use Rattle.k_dict_entries.specs.Entries.{NameBelow}
use Rattle.k_dict_saved.specs.Extents.{no_sums, sums_from}
use Rattle.k_dict_saved.proofs.reading.extents.sums_of.Given as goal

abbrev pub invariant-loop-run : goal.invariant-loop-run
invariant-loop-run l = record {
  sums : sums_from l.entries l.extents l.sums l.rest ≡ sums_from l.entries l.extents no_sums l.runs;
  below : NameBelow (length l.entries) l.rest;
}

abbrev pub decreases-loop-run : goal.decreases-loop-run
decreases-loop-run l = length l.rest
