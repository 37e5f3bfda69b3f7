use Rattle.std.proofs.Common.{◌≡◌, ◌++◌, take}
use Rattle.k_lex_expansion.proofs.listing.push_copies.Given as goal

abbrev pub invariant-loop-token : goal.invariant-loop-token
invariant-loop-token l = l.list ≡ l.fn.list ++ take l.token-index l.tokens
