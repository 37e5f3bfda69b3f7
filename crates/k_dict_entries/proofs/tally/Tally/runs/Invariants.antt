use Rattle.std.proofs.Common.{◌≡◌, ◌++◌, map}
use Rattle.k_dict_entries.specs.Tallies.{run_of}
use Rattle.k_dict_entries.proofs.tally.Tally.runs.Given as goal

abbrev pub invariant-loop-entry : goal.invariant-loop-entry
invariant-loop-entry l = l.runs ++ map run_of l.entry-iterator ≡ l.self
