use Rattle.std.proofs.Common.{◌≡◌, ◌++◌, map, drop}
use Rattle.k_lower_extents.specs.StatementSums.{all_within, parts_themselves, parts_within, summed_part, summed_stmt, themselves}
use Rattle.k_lower_extents.proofs.statement.+statements.Given as goal

abbrev pub invariant-list_stmts-loop-stmt : goal.invariant-list_stmts-loop-stmt
invariant-list_stmts-loop-stmt l = record {
  extents :
      l.extents.items ++ themselves (map (summed_stmt l.variables l.counted) (drop l.stmt-index l.stmt-items))
      ≡ themselves (map (summed_stmt l.variables l.counted) l.stmts);
  found :
      l.found.items ++ all_within (map (summed_stmt l.variables l.counted) (drop l.stmt-index l.stmt-items))
      ≡ l.fn.found.items ++ all_within (map (summed_stmt l.variables l.counted) l.stmts);
}

abbrev pub invariant-list_parts-loop-part : goal.invariant-list_parts-loop-part
invariant-list_parts-loop-part l = record {
  extents :
      l.extents.items ++ parts_themselves (map (summed_part l.variables l.counted) (drop l.part-index l.part-items))
      ≡ parts_themselves (map (summed_part l.variables l.counted) l.parts);
  found :
      l.found.items ++ parts_within (map (summed_part l.variables l.counted) (drop l.part-index l.part-items))
      ≡ l.fn.found.items ++ parts_within (map (summed_part l.variables l.counted) l.parts);
}
