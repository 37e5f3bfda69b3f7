use Rattle.std.proofs.Common.{◌≡◌, ◌++◌, drop}
use Rattle.std.specs.List.{flat_map, join_by}
use Rattle.k_data.specs.Records.{comma, row_json}
use Rattle.k_data.proofs.records.push_rows_parted.Given as goal

abbrev pub invariant-loop-row : goal.invariant-loop-row
invariant-loop-row l =
    l.text.items ++ flat_map (λ x. comma ++ row_json x) (drop l.row-index l.rest) ≡ l.fn.text.items ++ join_by row_json comma l.fn.rows
