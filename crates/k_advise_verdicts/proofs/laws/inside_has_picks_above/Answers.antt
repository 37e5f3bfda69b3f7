use Rattle.std.proofs.Common.{subst}
use Rattle.k_advise_verdicts.specs.Standings.{IsInside}
use Rattle.k_advise_verdicts.proofs.Judged.{inside_is}
use Rattle.k_advise_verdicts.proofs.laws.inside_has_picks_above.Goals as goal

pub returns : goal.returns
returns c = λ team contexts plan start row f s carried shared pick stands is.
    subst (λ o. IsInside contexts plan row.region o) (inside_is start row f s carried shared pick is) stands.inside
