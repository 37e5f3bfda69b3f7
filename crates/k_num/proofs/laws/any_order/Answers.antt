use Rattle.k_num.proofs.Combining.{combined_comm, combined_assoc, combined_in_any_order, difference_is_sum}
use Rattle.k_num.proofs.laws.any_order.Goals as goal

pub returns-clause-commutative : goal.returns-clause-commutative
returns-clause-commutative c = combined_comm

pub returns-clause-associative : goal.returns-clause-associative
returns-clause-associative c = combined_assoc

pub returns-clause-any_order : goal.returns-clause-any_order
returns-clause-any_order c = combined_in_any_order

pub returns-clause-difference : goal.returns-clause-difference
returns-clause-difference c = difference_is_sum
