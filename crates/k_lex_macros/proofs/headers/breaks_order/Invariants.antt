use Rattle.std.proofs.Common.{◌≡◌, drop, map}
use Rattle.k_lex_macros.specs.Macros.{breaks_order}
use Rattle.k_lex_macros.specs.Table.{listed}
use Rattle.k_lex_macros.specs.Headers.{plain}
use Rattle.k_lex_macros.proofs.headers.breaks_order.Given as goal

abbrev pub invariant-loop-new : goal.invariant-loop-new
invariant-loop-new l = breaks_order (listed l.macros) (map plain (drop l.new-index l.list)) ≡ breaks_order (listed l.macros) (map plain l.list)
