use Rattle.k_advise_verdicts.proofs.Among.{own_chain}
use Rattle.k_advise_verdicts.proofs.laws.chains_tell_their_own.Goals as goal

pub returns : goal.returns
returns c = λ regions depth events start facts standings carried shared rows v pairs pair are among is one.
    own_chain start facts standings carried shared regions depth events rows v pairs pair are among is one
