use Rattle.std.proofs.Common.{◌≡◌, length}
use Rattle.k_dict_saved.specs.Reading.{AllNameBelow, marked_all}
use Rattle.k_dict_saved.proofs.reading.ending.mark_all.Given as goal

abbrev pub invariant-loop-entry : goal.invariant-loop-entry
invariant-loop-entry l = record {
  marks : marked_all l.marks l.rest ≡ marked_all l.fn.marks l.entries;
  below : AllNameBelow (length l.marks) l.rest;
}

abbrev pub decreases-loop-entry : goal.decreases-loop-entry
decreases-loop-entry l = length l.rest
