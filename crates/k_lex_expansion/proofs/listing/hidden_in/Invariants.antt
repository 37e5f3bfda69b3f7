use Rattle.std.proofs.Common.{◌≡◌, ◌++◌, length, map}
use Rattle.k_lex_expansion.specs.Listing.{hide}
use Rattle.k_lex_expansion.proofs.listing.hidden_in.Given as goal

abbrev pub invariant-loop-token : goal.invariant-loop-token
invariant-loop-token l = l.all ++ map (hide l.names) l.list ≡ map (hide l.names) l.fn.list

abbrev pub decreases-loop-token : goal.decreases-loop-token
decreases-loop-token l = length l.list
