use Rattle.std.proofs.Common.{◌≡◌, replicate}
use Rattle.k_marks.specs.Known.{blank}
use Rattle.k_marks.proofs.marking.new_table.Given as goal

abbrev pub invariant-loop-index : goal.invariant-loop-index
invariant-loop-index l = l.table.items ≡ replicate l.index blank
