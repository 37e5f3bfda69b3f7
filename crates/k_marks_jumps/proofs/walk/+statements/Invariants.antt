use Rattle.std.proofs.Common.{◌≡◌, ◌++◌, map, drop}
use Rattle.k_marks_meaning.specs.Jumps.{jumps_of_both}
use Rattle.k_marks_meaning.specs.Contents.{inside, part_inside, row}
use Rattle.k_marks_jumps.proofs.walk.+statements.Given as goal

abbrev pub invariant-list_stmts-loop-stmt : goal.invariant-list_stmts-loop-stmt
invariant-list_stmts-loop-stmt l = record {
  jumps : jumps_of_both l.jumps (row (map inside (drop l.stmt-index l.stmt-items))).jumps ≡ (row (map inside l.stmts)).jumps;
  found :
      l.found.items ++ (row (map inside (drop l.stmt-index l.stmt-items))).statements
      ≡ l.fn.found.items ++ (row (map inside l.stmts)).statements;
}

abbrev pub invariant-list_parts-loop-part : goal.invariant-list_parts-loop-part
invariant-list_parts-loop-part l = record {
  jumps : jumps_of_both l.jumps (row (map part_inside (drop l.part-index l.part-items))).jumps ≡ (row (map part_inside l.parts)).jumps;
  found :
      l.found.items ++ (row (map part_inside (drop l.part-index l.part-items))).statements
      ≡ l.fn.found.items ++ (row (map part_inside l.parts)).statements;
}
