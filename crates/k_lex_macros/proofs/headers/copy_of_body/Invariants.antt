use Rattle.std.proofs.Common.{◌≡◌, take}
use Rattle.k_lex_macros.proofs.headers.copy_of_body.Given as goal

abbrev pub invariant-loop-x : goal.invariant-loop-x
invariant-loop-x l = l.copy ≡ take l.x-index l.body
