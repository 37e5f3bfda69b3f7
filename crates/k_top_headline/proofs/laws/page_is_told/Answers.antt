use Rattle.k_top_headline.proofs.Paged.{page_is_told}
use Rattle.k_top_headline.proofs.laws.page_is_told.Goals as goal

pub returns : goal.returns
returns c = page_is_told
