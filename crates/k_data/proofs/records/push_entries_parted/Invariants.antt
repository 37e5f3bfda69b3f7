use Rattle.std.proofs.Common.{◌≡◌, ◌++◌, drop}
use Rattle.std.specs.List.{flat_map, join_by}
use Rattle.k_data.specs.Records.{comma, entry_json}
use Rattle.k_data.proofs.records.push_entries_parted.Given as goal

abbrev pub invariant-loop-entry : goal.invariant-loop-entry
invariant-loop-entry l =
    l.text.items ++ flat_map (λ x. comma ++ entry_json x) (drop l.entry-index l.rest) ≡ l.fn.text.items ++ join_by entry_json comma l.fn.entries
