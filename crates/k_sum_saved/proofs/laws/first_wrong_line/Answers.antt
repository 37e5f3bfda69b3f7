use Rattle.k_sum_saved.proofs.OneReading.{first_wrong_is_one, whole_is_not_wrong, whole_is_one}
use Rattle.k_sum_saved.proofs.laws.first_wrong_line.Goals as goal

pub returns : goal.returns
returns c = record { one = first_wrong_is_one; none = whole_is_not_wrong; whole = whole_is_one }
