use Rattle.std.proofs.Common.{◌≡◌, ◌++◌, drop}
use Rattle.k_marks.specs.Known.{known_reads}
use Rattle.k_marks.proofs.loops.break_reads.Given as goal

abbrev pub invariant-loop-what : goal.invariant-loop-what
invariant-loop-what l =
    l.broken.items ++ known_reads l.variables l.table l.turn (drop l.what-index l.uses)
    ≡ l.fn.broken.items ++ known_reads l.variables l.table l.turn l.uses
