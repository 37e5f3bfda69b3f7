use Rattle.std.proofs.Common.{◌≡◌, length}
use Rattle.k_dict_entries.specs.Entries.{NameBelow}
use Rattle.k_dict_saved.specs.Reading.{marked}
use Rattle.k_dict_saved.proofs.reading.ending.mark.Given as goal

abbrev pub invariant-loop-run : goal.invariant-loop-run
invariant-loop-run l = record {
  marks : marked l.marks l.rest ≡ marked l.fn.marks l.runs;
  below : NameBelow (length l.marks) l.rest;
}

abbrev pub decreases-loop-run : goal.decreases-loop-run
decreases-loop-run l = length l.rest
