use Rattle.k_evaluation.proofs.Runs.{earlier_sources}
use Rattle.k_evaluation.proofs.laws.sources_are_earlier.Goals as goal

pub returns : goal.returns
returns c = earlier_sources
