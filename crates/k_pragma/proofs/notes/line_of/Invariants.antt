use Rattle.std.proofs.Common.{◌≡◌, drop}
use Rattle.k_pragma.specs.Insertions.{line_of}
use Rattle.k_pragma.proofs.notes.line_of.Given as goal

abbrev pub invariant-loop-pragma : goal.invariant-loop-pragma
invariant-loop-pragma l = line_of l.region (drop l.pragma-index l.pragmas) ≡ line_of l.region l.pragmas
