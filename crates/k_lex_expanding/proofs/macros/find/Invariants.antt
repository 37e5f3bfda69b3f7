use Rattle.std.proofs.Common.{◌≡◌, drop}
use Rattle.k_lex_expansion.specs.Expansion.{named}
use Rattle.k_lex_expanding.proofs.macros.find.Given as goal

abbrev pub invariant-loop-number : goal.invariant-loop-number
invariant-loop-number l = named (drop l.number l.macros) l.name ≡ named l.macros l.name
