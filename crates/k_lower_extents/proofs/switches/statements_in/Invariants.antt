use Rattle.std.proofs.Common.{◌≡◌, ◌++◌, drop}
use Rattle.k_lower_extents.specs.StatementSums.{statements_in}
use Rattle.k_lower_extents.proofs.switches.statements_in.Given as goal

abbrev pub invariant-loop-part : goal.invariant-loop-part
invariant-loop-part l = l.found.items ++ statements_in (drop l.part-index l.parts) ≡ statements_in l.parts
