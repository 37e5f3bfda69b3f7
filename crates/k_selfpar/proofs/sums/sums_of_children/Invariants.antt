use Rattle.std.proofs.Common.{◌≡◌, ℕ, ◌+◌, length}
use Rattle.k_dict_entries.specs.Entries.{AreRuns}
use Rattle.k_selfpar.specs.Counts.{weighed}
use Rattle.k_selfpar.specs.Sums.{path_at, work_at}
use Rattle.k_selfpar.proofs.sums.sums_of_children.Given as goal

abbrev pub invariant-loop-run : goal.invariant-loop-run
invariant-loop-run l = record {
  paths : l.children.paths + weighed (path_at l.dict) l.rest ≡ weighed (path_at l.dict) l.runs;
  works : l.children.works + weighed (work_at l.dict) l.rest ≡ weighed (work_at l.dict) l.runs;
  runs : (low : ℕ) × AreRuns low (length l.dict) l.rest;
}

abbrev pub decreases-loop-run : goal.decreases-loop-run
decreases-loop-run l = length l.rest
