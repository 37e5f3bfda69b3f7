use Rattle.std.proofs.Common.{◌≡◌, ◌+◌, drop}
use Rattle.k_lower_extents.specs.StatementSums.{served_size}
use Rattle.k_lower_extents.proofs.unit.served_size.Given as goal

abbrev pub invariant-loop-variable : goal.invariant-loop-variable
invariant-loop-variable l = l.size + served_size (drop l.variable-index l.params) ≡ served_size l.params
