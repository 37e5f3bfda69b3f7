use Rattle.std.proofs.Common.{◌-◌, length}
use Rattle.k_dict_saved.specs.declared.format.Format.{Format}
use Rattle.k_dict_saved.proofs.RegionSteps.{AtRegions}
use Rattle.k_dict_saved.proofs.reading.region_lines.regions.Given as goal

abbrev pub invariant-lines : goal.invariant-lines
invariant-lines l = (format : Format) → AtRegions format l.count l.text l.rest l.regions

abbrev pub decreases-lines : goal.decreases-lines
decreases-lines l = l.count - length l.regions
