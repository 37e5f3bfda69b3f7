use Rattle.std.proofs.Common.{◌≡◌, take, map}
use Rattle.k_lex_macros.specs.Headers.{plain, macro_of}
use Rattle.k_lex_macros.proofs.headers.plains_of.Given as goal

abbrev pub invariant-loop-name : goal.invariant-loop-name
invariant-loop-name l = map plain l.list.items ≡ map macro_of (take l.name-index l.rows)
