use Rattle.k_top_exists.proofs.GraphTexts.{graph_text_exists}
use Rattle.k_top_exists.proofs.laws.graph_texts_exist.Goals as goal

pub returns : goal.returns
returns c = graph_text_exists
