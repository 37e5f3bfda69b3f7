use Rattle.std.proofs.Common.{◌≡◌, ◌++◌, drop}
use Rattle.k_lex_expansion.specs.Texts.{texts_behind}
use Rattle.k_lex_expansion.proofs.texts.put_tokens.Given as goal

abbrev pub invariant-loop-token : goal.invariant-loop-token
invariant-loop-token l = l.out ++ texts_behind (drop l.token-index l.tokens) ≡ l.fn.out ++ texts_behind l.tokens
