use Rattle.std.proofs.Common.{◌≡◌, take}
use Rattle.k_lex_macros.proofs.copies.copy_of_bytes.Given as goal

abbrev pub invariant-loop-b : goal.invariant-loop-b
invariant-loop-b l = l.copy ≡ take l.b-index l.bytes
