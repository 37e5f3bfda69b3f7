use Rattle.std.proofs.Common.{◌≡◌, ◌++◌, drop}
use Rattle.std.specs.List.{flat_map, join_by}
use Rattle.k_data.specs.Records.{comma, run_json}
use Rattle.k_data.proofs.records.push_runs_parted.Given as goal

abbrev pub invariant-loop-run : goal.invariant-loop-run
invariant-loop-run l =
    l.text.items ++ flat_map (λ x. comma ++ run_json x) (drop l.run-index l.rest) ≡ l.fn.text.items ++ join_by run_json comma l.fn.runs
