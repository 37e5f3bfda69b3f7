use Rattle.k_advise_verdicts.proofs.Judged.{free}
use Rattle.k_advise_verdicts.proofs.laws.parallel_is_free.Goals as goal

pub returns : goal.returns
returns c = λ start row f s carried shared uneven is. free start row f s carried shared uneven is
