use Rattle.std.proofs.Common.{◌≡◌, ◌++◌, take}
use Rattle.k_lex_expansion.proofs.pasting.append.Given as goal

abbrev pub invariant-loop-x : goal.invariant-loop-x
invariant-loop-x l = l.all ≡ l.a ++ take l.x-index l.b
