use Rattle.k_top_headline.proofs.Annotated.{annotate_is_told}
use Rattle.k_top_headline.proofs.laws.annotate_is_told.Goals as goal

pub returns : goal.returns
returns c = annotate_is_told
