use Rattle.k_parse_steps.proofs.CompleteSources.{source_spelled_once}
use Rattle.k_parse.proofs.laws.one_tree_per_spelling.Goals as goal

pub returns : goal.returns
returns c = source_spelled_once
