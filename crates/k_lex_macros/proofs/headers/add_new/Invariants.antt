use Rattle.std.proofs.Common.{◌≡◌, drop, map}
use Rattle.k_lex_macros.specs.Macros.{included}
use Rattle.k_lex_macros.specs.Table.{listed, IsIndexed, ArePlanned}
use Rattle.k_lex_macros.specs.Headers.{plain}
use Rattle.k_lex_macros.proofs.headers.add_new.Given as goal

abbrev pub invariant-loop-new : goal.invariant-loop-new
invariant-loop-new l = record {
  left : included (listed l.macros) (map plain (drop l.new-index l.list)) ≡ included (listed l.fn.macros) (map plain l.list);
  indexed : IsIndexed l.macros;
  planned : ArePlanned l.macros;
}
