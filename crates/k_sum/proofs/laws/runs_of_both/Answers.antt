use Rattle.k_sum.proofs.Meaning as meaning
use Rattle.k_sum.proofs.laws.runs_of_both.Goals as goal

pub returns : goal.returns
returns c = record { all = meaning.both_tell_of_all; order = meaning.order_is_free; grouping = meaning.grouping_is_free }
