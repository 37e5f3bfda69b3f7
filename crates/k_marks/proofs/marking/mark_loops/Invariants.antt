use Rattle.std.proofs.Common.{◌≡◌, ◌+◌, ◌++◌, length, map, drop}
use Rattle.k_marks_meaning.specs.Loops.{is_counted, broken_by_all}
use Rattle.k_marks.specs.Found.{seen}
use Rattle.k_marks.specs.Known.{IsFresh}
use Rattle.k_marks.proofs.marking.mark_loops.Given as goal

abbrev pub invariant-loop-turns : goal.invariant-loop-turns
invariant-loop-turns l = record {
  count : l.turn ≡ l.turns-index;
  sized : length l.table.items ≡ length l.variables;
  fresh : IsFresh (l.turn + 1) l.table.items;
  counted :
      l.counted.items ++ map (is_counted l.variables) (map seen (drop l.turns-index l.loops))
      ≡ l.fn.counted.items ++ map (is_counted l.variables) (map seen l.loops);
  broken :
      l.broken.items ++ broken_by_all l.variables (map seen (drop l.turns-index l.loops))
      ≡ l.fn.broken.items ++ broken_by_all l.variables (map seen l.loops);
}
