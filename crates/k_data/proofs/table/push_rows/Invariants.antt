use Rattle.std.proofs.Common.{◌≡◌, ◌++◌, drop}
use Rattle.std.specs.List.{flat_map}
use Rattle.k_data.specs.Table.{row_line}
use Rattle.k_data.proofs.table.push_rows.Given as goal

abbrev pub invariant-loop-row : goal.invariant-loop-row
invariant-loop-row l = l.text.items ++ flat_map (row_line l.regions) (drop l.row-index l.rows) ≡ l.fn.text.items ++ flat_map (row_line l.regions) l.fn.rows
