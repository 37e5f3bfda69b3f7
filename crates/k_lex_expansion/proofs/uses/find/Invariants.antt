use Rattle.std.proofs.Common.{◌≡◌, drop}
use Rattle.k_lex_expansion.specs.Expansion.{named}
use Rattle.k_lex_expansion.proofs.uses.find.Given as goal

abbrev pub invariant-loop-one : goal.invariant-loop-one
invariant-loop-one l = named (drop l.one-index l.macros) l.name ≡ named l.macros l.name
