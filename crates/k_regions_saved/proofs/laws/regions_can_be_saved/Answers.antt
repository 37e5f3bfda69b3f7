use Rattle.k_regions_saved.proofs.Paired.{can_be_saved}
use Rattle.k_regions_saved.proofs.laws.regions_can_be_saved.Goals as goal

pub returns : goal.returns
returns c = can_be_saved
