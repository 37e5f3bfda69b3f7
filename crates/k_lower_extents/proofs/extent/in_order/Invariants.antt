use Rattle.std.proofs.Common.{◌≡◌, length}
use Rattle.k_lower_extents.specs.StatementSums.{in_order, onto}
use Rattle.k_lower_extents.proofs.extent.in_order.Given as goal

abbrev pub invariant-loop-last : goal.invariant-loop-last
invariant-loop-last l = onto l.rest l.all ≡ in_order l.extents

abbrev pub decreases-loop-last : goal.decreases-loop-last
decreases-loop-last l = length l.rest
