use Rattle.std.proofs.Common.{◌≡◌, ◌++◌, drop}
use Rattle.std.specs.List.{flat_map}
use Rattle.k_dict_saved.specs.FileText.{entry_line, entries_text}
use Rattle.k_sum.proofs.writing.push_entries.Given as goal

abbrev pub invariant-loop-entry : goal.invariant-loop-entry
invariant-loop-entry l = l.text.items ++ flat_map entry_line (drop l.entry-index l.entries) ≡ l.fn.text.items ++ entries_text l.fn.entries
