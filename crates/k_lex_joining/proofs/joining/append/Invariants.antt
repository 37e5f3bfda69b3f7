use Rattle.std.proofs.Common.{◌≡◌, ◌++◌, take}
use Rattle.k_lex_joining.proofs.joining.append.Given as goal

abbrev pub invariant-loop-b : goal.invariant-loop-b
invariant-loop-b l = l.string ≡ l.fn.string ++ take l.b-index l.more
