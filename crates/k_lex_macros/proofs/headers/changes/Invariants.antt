use Rattle.std.proofs.Common.{◌≡◌, drop, map}
use Rattle.k_lex_macros.specs.Macros.{changes}
use Rattle.k_lex_macros.specs.Table.{listed}
use Rattle.k_lex_macros.specs.Headers.{plain}
use Rattle.k_lex_macros.proofs.headers.changes.Given as goal

abbrev pub invariant-loop-new : goal.invariant-loop-new
invariant-loop-new l = changes (listed l.macros) (map plain (drop l.new-index l.list)) ≡ changes (listed l.macros) (map plain l.list)
