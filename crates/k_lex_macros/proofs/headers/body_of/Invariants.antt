use Rattle.std.proofs.Common.{◌≡◌, take, map}
use Rattle.k_lex_macros.specs.Headers.{lexeme_of}
use Rattle.k_lex_macros.proofs.headers.body_of.Given as goal

abbrev pub invariant-loop-part : goal.invariant-loop-part
invariant-loop-part l = l.body ≡ map lexeme_of (take l.part-index l.parts)
