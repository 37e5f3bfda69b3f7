use Rattle.std.proofs.Common.{◌≡◌, max, length}
use Rattle.k_sum_order.specs.Order.{behind}
use Rattle.k_sum_order.proofs.key.behind.Given as goal

abbrev pub invariant-loop-run : goal.invariant-loop-run
invariant-loop-run l = max l.number (behind l.rest) ≡ behind l.runs

abbrev pub decreases-loop-run : goal.decreases-loop-run
decreases-loop-run l = length l.rest
