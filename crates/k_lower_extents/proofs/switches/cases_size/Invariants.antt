use Rattle.std.proofs.Common.{◌≡◌, ◌+◌, drop}
use Rattle.k_lower_extents.specs.StatementSums.{cases_size}
use Rattle.k_lower_extents.proofs.switches.cases_size.Given as goal

abbrev pub invariant-loop-part : goal.invariant-loop-part
invariant-loop-part l = l.size + cases_size (drop l.part-index l.parts) ≡ cases_size l.parts
