use Rattle.k_types_meaning.proofs.SourcesElaborate.{sources_elaborate}
use Rattle.k_types_meaning.proofs.laws.sources_elaborate.Goals as goal

pub returns : goal.returns
returns c = sources_elaborate
