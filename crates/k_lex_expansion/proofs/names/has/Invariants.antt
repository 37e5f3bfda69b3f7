use Rattle.std.proofs.Common.{◌≡◌, drop}
use Rattle.k_lex_expansion.specs.Names.{has}
use Rattle.k_lex_expansion.proofs.names.has.Given as goal

abbrev pub invariant-loop-one : goal.invariant-loop-one
invariant-loop-one l = has (drop l.one-index l.names) l.name ≡ has l.names l.name
