use Rattle.std.proofs.Common.{◌≡◌, take}
use Rattle.k_dict_saved.proofs.migration.copy_regions.Given as goal

abbrev pub invariant-loop-region : goal.invariant-loop-region
invariant-loop-region l = l.copies ≡ take l.region-index l.regions
