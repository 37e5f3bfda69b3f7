use Rattle.std.proofs.Common.{◌≡◌, ◌++◌, drop}
use Rattle.std.specs.List.{flat_map}
use Rattle.k_page.specs.Lists.{row_line}
use Rattle.k_page.proofs.lists.push_row_lines.Given as goal

abbrev pub invariant-loop-row : goal.invariant-loop-row
invariant-loop-row l = l.text.items ++ flat_map (row_line l.regions l.whole) (drop l.row-index l.rows) ≡ l.fn.text.items ++ flat_map (row_line l.regions l.whole) l.fn.rows
