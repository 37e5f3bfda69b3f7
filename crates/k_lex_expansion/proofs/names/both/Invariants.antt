use Rattle.std.proofs.Common.{◌≡◌, ◌++◌, drop, filter}
use Rattle.k_lex_expansion.specs.Names.{has, both}
use Rattle.k_lex_expansion.proofs.names.both.Given as goal

abbrev pub invariant-loop-name : goal.invariant-loop-name
invariant-loop-name l = l.all ++ filter (λ n. has l.b n) (drop l.name-index l.a) ≡ both l.a l.b
