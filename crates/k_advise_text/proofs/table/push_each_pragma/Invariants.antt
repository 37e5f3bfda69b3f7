use Rattle.std.proofs.Common.{◌≡◌, ◌++◌, drop}
use Rattle.std.specs.List.{flat_map}
use Rattle.k_advise_text.specs.Table.{pragma_text}
use Rattle.k_advise_text.proofs.table.push_each_pragma.Given as goal

abbrev pub invariant-loop-row : goal.invariant-loop-row
invariant-loop-row l = l.text.items ++ flat_map (pragma_text l.file l.regions) (drop l.row-index l.rows) ≡ l.fn.text.items ++ flat_map (pragma_text l.fn.file l.fn.regions) l.fn.rows
