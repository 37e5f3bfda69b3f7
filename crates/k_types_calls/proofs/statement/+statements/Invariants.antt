use Rattle.std.proofs.Common.{◌≡◌, ◌++◌, map, drop}
use Rattle.k_types_meaning.specs.Called.{all_calls, stmt_calls}
use Rattle.k_types_calls.specs.Noting.{part_calls, seen}
use Rattle.k_types_calls.proofs.statement.+statements.Given as goal

abbrev pub invariant-note_stmts-loop-part : goal.invariant-note_stmts-loop-part
invariant-note_stmts-loop-part l =
    map seen l.calls.items ++ all_calls (map stmt_calls (drop l.part-index l.part-items))
    ≡ map seen l.fn.calls.items ++ all_calls (map stmt_calls l.parts)

abbrev pub invariant-note_parts-loop-part : goal.invariant-note_parts-loop-part
invariant-note_parts-loop-part l =
    map seen l.calls.items ++ all_calls (map part_calls (drop l.part-index l.part-items))
    ≡ map seen l.fn.calls.items ++ all_calls (map part_calls l.parts)
