use Rattle.k_sum_read.proofs.Whole.{lines_lead, no_sum_wrong}
use Rattle.k_sum_read.proofs.laws.lines_of_sum.Goals as goal

pub returns : goal.returns
returns c = record { lead = lines_lead; right = no_sum_wrong }
