use Rattle.std.proofs.Common.{◌≡◌, ◌++◌, drop}
use Rattle.std.specs.List.{flat_map, join_by}
use Rattle.k_data.specs.Records.{comma, region_json}
use Rattle.k_data.proofs.records.push_regions_parted.Given as goal

abbrev pub invariant-loop-region : goal.invariant-loop-region
invariant-loop-region l =
    l.text.items ++ flat_map (λ x. comma ++ region_json x) (drop l.region-index l.rest) ≡ l.fn.text.items ++ join_by region_json comma l.fn.regions
