use Rattle.std.proofs.Common.{◌≡◌, ◌+◌, drop}
use Rattle.k_lower_extents.specs.StatementSums.{before_default}
use Rattle.k_lower_extents.proofs.switches.before_default.Given as goal

abbrev pub invariant-loop-part : goal.invariant-loop-part
invariant-loop-part l = l.size + before_default (drop l.part-index l.parts) ≡ before_default l.parts
