use Rattle.std.proofs.Common.{◌↔◌, ◌≤◌, length}
use Rattle.k_dict_entries.specs.Entries.{AreRuns}
use Rattle.k_dict_saved.proofs.reading.entry_lines.are_rising.Given as goal

abbrev pub invariant-loop-run : goal.invariant-loop-run
invariant-loop-run l = record {
  runs : AreRuns l.low l.high l.rest ↔ AreRuns 0 l.high l.runs;
  low : l.low ≤ l.high;
}

abbrev pub decreases-loop-run : goal.decreases-loop-run
decreases-loop-run l = length l.rest
