use Rattle.k_advise_verdicts.proofs.Picked.{pick_no_chain}
use Rattle.k_advise_verdicts.proofs.laws.picks_are_no_chains.Goals as goal

pub returns : goal.returns
returns c = λ team carries contexts plan loops k at start row f s shared is flags picked there.
    pick_no_chain team carries contexts plan loops k at start row f s shared is flags picked there
