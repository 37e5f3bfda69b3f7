use Rattle.std.proofs.Common.{◌≡◌, map, drop}
use Rattle.k_types_calls.specs.Getchar.{any, part_calls, stmt_calls}
use Rattle.k_types_calls.proofs.getchar.statements.+statements.Given as goal

abbrev pub invariant-stmts_call-loop-stmt : goal.invariant-stmts_call-loop-stmt
invariant-stmts_call-loop-stmt l = any (map stmt_calls (drop l.stmt-index l.stmt-items)) ≡ any (map stmt_calls l.stmts)

abbrev pub invariant-parts_call-loop-part : goal.invariant-parts_call-loop-part
invariant-parts_call-loop-part l = any (map part_calls (drop l.part-index l.part-items)) ≡ any (map part_calls l.parts)
