use Rattle.k_sum_order.proofs.Steps.{keys_rise}
use Rattle.k_sum_order.proofs.batch.sort.Goals as goal

pub returns-clause-sorted : goal.returns-clause-sorted
returns-clause-sorted c = keys_rise c.sort.new.self.items c.in_ok-sort.ensures.sorted
