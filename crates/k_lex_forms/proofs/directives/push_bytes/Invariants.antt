use Rattle.std.proofs.Common.{◌≡◌, ◌++◌, take}
use Rattle.k_lex_forms.proofs.directives.push_bytes.Given as goal

abbrev pub invariant-loop-b : goal.invariant-loop-b
invariant-loop-b l = l.text ≡ l.fn.text ++ take l.b-index l.bytes
