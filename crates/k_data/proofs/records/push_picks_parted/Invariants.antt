use Rattle.std.proofs.Common.{◌≡◌, ◌++◌, drop}
use Rattle.std.specs.List.{flat_map, join_by}
use Rattle.k_data.specs.Records.{comma, pick_json}
use Rattle.k_data.proofs.records.push_picks_parted.Given as goal

abbrev pub invariant-loop-pick : goal.invariant-loop-pick
invariant-loop-pick l =
    l.text.items ++ flat_map (λ x. comma ++ pick_json x) (drop l.pick-index l.rest) ≡ l.fn.text.items ++ join_by pick_json comma l.fn.picks
