use Rattle.std.proofs.Common.{◌≡◌, ◌++◌, ◌+◌, ◌*◌, false, map, drop}
use Rattle.k_types_meaning.specs.declared.tree.statement.TPart.{size-TPart}
use Rattle.k_types_meaning.specs.declared.tree.statement.TStmt.{size-TStmt}
use Rattle.k_wide_meaning.specs.Contents.{seen, part_seen, row, member}
use Rattle.k_wide_statements.specs.Members.{rest_occurs}
use Rattle.k_wide_statements.proofs.statements.+statements.Given as goal

abbrev pub invariant-note_stmts-loop-stmt : goal.invariant-note_stmts-loop-stmt
invariant-note_stmts-loop-stmt l =
    l.found.items ++ (row (map seen (drop l.stmt-index l.stmt-items))).occurs ≡ l.fn.found.items ++ (row (map seen l.stmts)).occurs

abbrev pub invariant-note_parts-loop-part : goal.invariant-note_parts-loop-part
invariant-note_parts-loop-part l =
    l.found.items ++ (row (map part_seen (drop l.part-index l.part-items))).occurs ≡ l.fn.found.items ++ (row (map part_seen l.parts)).occurs

abbrev pub invariant-note_members-loop-stmt : goal.invariant-note_members-loop-stmt
invariant-note_members-loop-stmt l =
    l.found.items ++ rest_occurs l.test l.kept (map member (map seen (drop l.stmt-index l.stmt-items)))
    ≡ l.fn.found.items ++ rest_occurs l.test false (map member (map seen l.stmts))

abbrev pub decreases-note_stmt : goal.decreases-note_stmt
decreases-note_stmt a = 4 * size-TStmt a.stmt.now

abbrev pub decreases-note_stmts : goal.decreases-note_stmts
decreases-note_stmts a = 4 * goal.size-note_stmts a + 1

abbrev pub decreases-note_then : goal.decreases-note_then
decreases-note_then a = 4 * size-TStmt a.arm.now + 2

abbrev pub decreases-note_single : goal.decreases-note_single
decreases-note_single a = 4 * size-TStmt a.stmt.now + 1

abbrev pub decreases-note_member : goal.decreases-note_member
decreases-note_member a = 4 * size-TStmt a.stmt.now + 1

abbrev pub decreases-note_members : goal.decreases-note_members
decreases-note_members a = 4 * goal.size-note_members a + 2

abbrev pub decreases-note_braces : goal.decreases-note_braces
decreases-note_braces a = 4 * goal.size-note_braces a + 3

abbrev pub decreases-note_parts : goal.decreases-note_parts
decreases-note_parts a = 4 * goal.size-note_parts a + 1

abbrev pub decreases-note_part : goal.decreases-note_part
decreases-note_part a = 4 * size-TPart a.part.now
