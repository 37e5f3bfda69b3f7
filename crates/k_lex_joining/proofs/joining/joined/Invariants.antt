use Rattle.std.proofs.Common.{◌≡◌, ◌++◌, drop}
use Rattle.k_lex.specs.Tokens.{joined}
use Rattle.k_lex_joining.specs.Held.{held_tokens}
use Rattle.k_lex_joining.proofs.joining.joined.Given as goal

abbrev pub invariant-loop-token : goal.invariant-loop-token
invariant-loop-token l = l.out ++ joined (held_tokens l.held ++ drop l.token-index l.tokens) ≡ joined l.tokens
