use Rattle.std.proofs.Common.{◌≡◌, ◌++◌, drop}
use Rattle.k_lex_expansion.specs.Texts.{escaped}
use Rattle.k_lex_expansion.proofs.texts.put_escaped.Given as goal

abbrev pub invariant-loop-b : goal.invariant-loop-b
invariant-loop-b l = l.out ++ escaped (drop l.b-index l.bytes) ≡ l.fn.out ++ escaped l.bytes
