use Rattle.k_selfpar.proofs.ByRegions.{contexts_are_by_regions}
use Rattle.k_selfpar.proofs.laws.contexts_by_regions.Goals as goal

pub returns : goal.returns
returns c = contexts_are_by_regions
