use Rattle.std.proofs.Common.{◌≡◌, ◌++◌, drop}
use Rattle.std.specs.List.{flat_map}
use Rattle.k_advise_text.specs.Table.{block}
use Rattle.k_advise_text.proofs.table.push_each_block.Given as goal

abbrev pub invariant-loop-row : goal.invariant-loop-row
invariant-loop-row l = l.text.items ++ flat_map (block l.file l.regions l.source) (drop l.row-index l.rows) ≡ l.fn.text.items ++ flat_map (block l.fn.file l.fn.regions l.fn.source) l.fn.rows
