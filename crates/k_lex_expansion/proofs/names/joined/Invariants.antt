use Rattle.std.proofs.Common.{◌≡◌, ◌++◌, drop, filter, not}
use Rattle.k_lex_expansion.specs.Names.{has, joined}
use Rattle.k_lex_expansion.proofs.names.joined.Given as goal

abbrev pub invariant-loop-name : goal.invariant-loop-name
invariant-loop-name l = l.all ++ filter (λ n. not (has l.a n)) (drop l.name-index l.b) ≡ joined l.a l.b
