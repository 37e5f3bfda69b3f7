use Rattle.k_selfpar_laws.proofs.OneByPaths.{contexts_are_one_by_paths}
use Rattle.k_selfpar_laws.proofs.laws.one_by_paths.Goals as goal

pub returns : goal.returns
returns c = contexts_are_one_by_paths
