use Rattle.std.proofs.Common.{◌≡◌, ◌++◌, drop}
use Rattle.std.specs.List.{flat_map}
use Rattle.k_text.specs.Texts.{run_text}
use Rattle.k_text.proofs.runs.push_runs.Given as goal

abbrev pub invariant-loop-run : goal.invariant-loop-run
invariant-loop-run l = l.text.items ++ flat_map run_text (drop l.run-index l.runs) ≡ l.fn.text.items ++ flat_map run_text l.fn.runs
