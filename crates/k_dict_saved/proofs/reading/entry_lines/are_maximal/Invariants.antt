use Rattle.std.proofs.Common.{◌↔◌, length}
use Rattle.k_dict_saved.specs.Formats.{AreMaximal}
use Rattle.k_dict_saved.proofs.reading.entry_lines.are_maximal.Given as goal

abbrev pub invariant-loop-run : goal.invariant-loop-run
invariant-loop-run l = AreMaximal l.rest ↔ AreMaximal l.runs

abbrev pub decreases-loop-run : goal.decreases-loop-run
decreases-loop-run l = length l.rest
