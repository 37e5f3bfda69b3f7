use Rattle.std.proofs.Common.{◌≡◌, false, replicate}
use Rattle.k_marks.proofs.flags.all_down.Given as goal

abbrev pub invariant-loop-index : goal.invariant-loop-index
invariant-loop-index l = l.list.items ≡ replicate l.index false
