use Rattle.std.proofs.Common.{◌≡◌, ◌++◌, map, length}
use Rattle.k_dict_entries.specs.Expanding.{pending_at}
use Rattle.k_dict_entries.proofs.expansion.push_runs.Given as goal

abbrev pub invariant-loop-last : goal.invariant-loop-last
invariant-loop-last l = map (pending_at l.depth) l.rest ++ l.pending ≡ map (pending_at l.depth) l.fn.runs ++ l.fn.pending

abbrev pub decreases-loop-last : goal.decreases-loop-last
decreases-loop-last l = length l.rest
