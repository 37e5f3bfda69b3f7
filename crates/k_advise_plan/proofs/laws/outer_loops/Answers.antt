use Rattle.k_advise_plan.proofs.Shares.{outer_saves_no_less, outer_wins}
use Rattle.k_advise_plan.proofs.laws.outer_loops.Goals as goal

pub returns : goal.returns
returns c = record { no_less = outer_saves_no_less; wins = outer_wins }
