use Rattle.std.proofs.Common.{◌≡◌, ◌++◌, length}
use Rattle.k_sum_order.specs.Order.{run_numbers}
use Rattle.k_sum_order.proofs.key.push_runs.Given as goal

abbrev pub invariant-loop-run : goal.invariant-loop-run
invariant-loop-run l = l.key.items ++ run_numbers l.rest ≡ l.fn.key.items ++ run_numbers l.runs

abbrev pub decreases-loop-run : goal.decreases-loop-run
decreases-loop-run l = length l.rest
