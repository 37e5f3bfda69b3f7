use Rattle.std.proofs.Common.{◌≡◌, length}
use Rattle.k_sum_read.specs.Reading.{are_all}
use Rattle.k_sum_read.proofs.roots.are_all.Given as goal

abbrev pub invariant-loop-mark : goal.invariant-loop-mark
invariant-loop-mark l = are_all l.rest ≡ are_all l.marks

abbrev pub decreases-loop-mark : goal.decreases-loop-mark
decreases-loop-mark l = length l.rest
