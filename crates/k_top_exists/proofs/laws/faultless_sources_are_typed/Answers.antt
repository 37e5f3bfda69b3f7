use Rattle.k_top_exists.proofs.TypedTrees.{faultless_sources_are_typed}
use Rattle.k_top_exists.proofs.laws.faultless_sources_are_typed.Goals as goal

pub returns : goal.returns
returns c = faultless_sources_are_typed
