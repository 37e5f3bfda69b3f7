use Rattle.std.proofs.Common.{◌≡◌, ◌++◌, drop}
use Rattle.std.specs.List.{flat_map}
use Rattle.k_dict_saved.specs.FileText.{region_line, regions_text}
use Rattle.k_sum.proofs.writing.push_regions.Given as goal

abbrev pub invariant-loop-region : goal.invariant-loop-region
invariant-loop-region l = l.text.items ++ flat_map region_line (drop l.region-index l.regions) ≡ l.fn.text.items ++ regions_text l.fn.regions
