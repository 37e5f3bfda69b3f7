use Rattle.std.proofs.Common.{◌-◌, length}
use Rattle.k_dict_saved.specs.declared.format.Format.TheVariants.{Two}
use Rattle.k_dict_saved.proofs.RegionSteps.{AtRegions}
use Rattle.k_sum_read.proofs.listing.regions.Given as goal

abbrev pub invariant-lines : goal.invariant-lines
invariant-lines l = AtRegions Two l.count l.text l.rest l.regions

abbrev pub decreases-lines : goal.decreases-lines
decreases-lines l = l.count - length l.regions
