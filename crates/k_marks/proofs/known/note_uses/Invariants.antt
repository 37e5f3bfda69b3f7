use Rattle.std.proofs.Common.{◌≡◌, drop}
use Rattle.k_marks.specs.Known.{table_with_all}
use Rattle.k_marks.proofs.known.note_uses.Given as goal

abbrev pub invariant-loop-what : goal.invariant-loop-what
invariant-loop-what l = table_with_all l.turn (drop l.what-index l.uses) l.table ≡ table_with_all l.turn l.uses l.fn.table
