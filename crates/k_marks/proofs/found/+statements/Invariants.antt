use Rattle.std.proofs.Common.{◌≡◌, ◌++◌, map, drop}
use Rattle.k_marks_meaning.specs.Contents.{inside, part_inside, row}
use Rattle.k_marks.specs.Found.{seen}
use Rattle.k_marks.proofs.found.+statements.Given as goal

abbrev pub invariant-find_stmts-loop-stmt : goal.invariant-find_stmts-loop-stmt
invariant-find_stmts-loop-stmt l =
    map seen l.loops.items ++ (row (map inside (drop l.stmt-index l.stmt-items))).loops
    ≡ map seen l.fn.loops.items ++ (row (map inside l.stmts)).loops

abbrev pub invariant-find_parts-loop-part : goal.invariant-find_parts-loop-part
invariant-find_parts-loop-part l =
    map seen l.loops.items ++ (row (map part_inside (drop l.part-index l.part-items))).loops
    ≡ map seen l.fn.loops.items ++ (row (map part_inside l.parts)).loops
