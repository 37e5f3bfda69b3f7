use Rattle.std.proofs.Common.{ℕ, ◌<◌, get_or}
use Rattle.k_sum_order.proofs.ordering.end_of.Given as goal

abbrev pub invariant-loop-level : goal.invariant-loop-level
invariant-loop-level l = (n : ℕ) → n < l.level-index → get_or l.levels n 0 < l.end
