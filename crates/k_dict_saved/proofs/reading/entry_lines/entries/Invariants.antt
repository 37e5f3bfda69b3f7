use Rattle.std.proofs.Common.{◌-◌, length}
use Rattle.k_dict_saved.proofs.EntrySteps.{AtEntries}
use Rattle.k_dict_saved.proofs.reading.entry_lines.entries.Given as goal

abbrev pub invariant-lines : goal.invariant-lines
invariant-lines l = AtEntries l.format l.regions l.count l.text l.rest l.table l.extents

abbrev pub decreases-lines : goal.decreases-lines
decreases-lines l = l.count - length l.table
