use Rattle.k_sum_order.proofs.Left.{both_have_none_left, one_has_none_left}
use Rattle.k_sum_order.proofs.laws.none_is_left.Goals as goal

pub returns : goal.returns
returns c = record { one = one_has_none_left; both = both_have_none_left }
