use Rattle.std.proofs.Common.{◌≡◌, replicate, false}
use Rattle.k_code.proofs.validity.extents.all_unmarked.Given as goal

abbrev pub invariant-loop-k : goal.invariant-loop-k
invariant-loop-k l = l.marks.items ≡ replicate l.k false
