use Rattle.std.proofs.Common.{◌≡◌, length}
use Rattle.std.specs.Cmp.Lexicographic.{slice_cmp}
use Rattle.std.specs.Ordering.{nat_cmp}
use Rattle.k_sum_order.specs.Order.{run_numbers}
use Rattle.k_sum_order.proofs.checking.compare_runs.Given as goal

abbrev pub invariant-loop-run : goal.invariant-loop-run
invariant-loop-run l = slice_cmp nat_cmp (run_numbers l.ones) (run_numbers l.others) ≡ slice_cmp nat_cmp (run_numbers l.one) (run_numbers l.other)

abbrev pub decreases-loop-run : goal.decreases-loop-run
decreases-loop-run l = length l.ones
