use Rattle.std.proofs.Common.{◌≡◌, ◌++◌, reverse}
use Rattle.indexmap.specs.IndexSet.{index_set_len}
use Rattle.k_dict_entries.proofs.table.EntryTable.into_entries.Given as goal

abbrev pub invariant-entries : goal.invariant-entries
invariant-entries l = l.entries.keys ++ reverse l.list.items ≡ l.fn.self

abbrev pub decreases-entries : goal.decreases-entries
decreases-entries l = index_set_len l.entries
