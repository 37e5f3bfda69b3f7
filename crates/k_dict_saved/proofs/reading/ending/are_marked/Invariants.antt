use Rattle.std.proofs.Common.{◌≡◌, length}
use Rattle.k_dict_saved.specs.Reading.{are_marked}
use Rattle.k_dict_saved.proofs.reading.ending.are_marked.Given as goal

abbrev pub invariant-loop-mark : goal.invariant-loop-mark
invariant-loop-mark l = are_marked l.rest ≡ are_marked l.marks

abbrev pub decreases-loop-mark : goal.decreases-loop-mark
decreases-loop-mark l = length l.rest
