use Rattle.std.proofs.Common.{◌≡◌, ◌++◌, length}
use Rattle.k_lex_expansion.proofs.listing.push_all.Given as goal

abbrev pub invariant-loop-token : goal.invariant-loop-token
invariant-loop-token l = l.tokens ++ l.list ≡ l.fn.tokens ++ l.fn.list

abbrev pub decreases-loop-token : goal.decreases-loop-token
decreases-loop-token l = length l.tokens
