use Rattle.k_evaluation.proofs.Runs.{ended_stay, cut_begin}
use Rattle.k_evaluation.proofs.laws.the_budget_only_cuts.Goals as goal

pub returns-clause-ended : goal.returns-clause-ended
returns-clause-ended c = ended_stay

pub returns-clause-cut : goal.returns-clause-cut
returns-clause-cut c = cut_begin
