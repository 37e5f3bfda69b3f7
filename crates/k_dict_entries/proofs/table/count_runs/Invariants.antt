use Rattle.std.proofs.Common.{◌≡◌, ◌+◌, drop}
use Rattle.k_dict_entries.specs.Entries.{all_runs}
use Rattle.k_dict_entries.proofs.table.count_runs.Given as goal

abbrev pub invariant-loop-entry : goal.invariant-loop-entry
invariant-loop-entry l = l.runs + all_runs (drop l.entry-index l.entries) ≡ all_runs l.fn.entries
