use Rattle.k_types_meaning.proofs.BodiesElaborate.{statement_has_one_tree}
use Rattle.k_types_meaning.proofs.SourcesElaborate.{source_means_one}
use Rattle.k_types_meaning.proofs.laws.one_meaning.Goals as goal

pub returns : goal.returns
returns c = record { statement = statement_has_one_tree; source = source_means_one }
