use Rattle.std.proofs.Common.{◌↔◌, length}
use Rattle.k_dict_entries.specs.Entries.{NameBelow}
use Rattle.k_dict_saved.proofs.reading.entry_lines.are_below.Given as goal

abbrev pub invariant-loop-run : goal.invariant-loop-run
invariant-loop-run l = NameBelow l.high l.rest ↔ NameBelow l.high l.runs

abbrev pub decreases-loop-run : goal.decreases-loop-run
decreases-loop-run l = length l.rest
