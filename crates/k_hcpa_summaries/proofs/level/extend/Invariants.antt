use Rattle.std.proofs.Common.{◌≡◌, ◌++◌, take}
use Rattle.k_hcpa_summaries.proofs.level.extend.Given as goal

-- the runs so far were added
abbrev pub invariant-loop-run : goal.invariant-loop-run
invariant-loop-run l = l.out ≡ l.initial.out ++ take l.run-index l.runs
