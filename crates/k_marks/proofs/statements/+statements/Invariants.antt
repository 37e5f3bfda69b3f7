use Rattle.std.proofs.Common.{◌≡◌, ◌++◌, map, drop}
use Rattle.k_marks_meaning.specs.Contents.{inside, part_inside, row}
use Rattle.k_marks.proofs.statements.+statements.Given as goal

abbrev pub invariant-note_stmts-loop-stmt : goal.invariant-note_stmts-loop-stmt
invariant-note_stmts-loop-stmt l =
    l.uses.items ++ (row (map inside (drop l.stmt-index l.stmt-items))).uses ≡ l.fn.uses.items ++ (row (map inside l.stmts)).uses

abbrev pub invariant-note_parts-loop-part : goal.invariant-note_parts-loop-part
invariant-note_parts-loop-part l =
    l.uses.items ++ (row (map part_inside (drop l.part-index l.part-items))).uses
    ≡ l.fn.uses.items ++ (row (map part_inside l.parts)).uses
