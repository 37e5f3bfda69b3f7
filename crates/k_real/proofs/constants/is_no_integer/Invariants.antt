use Rattle.std.proofs.Common.{◌≡◌, length}
use Rattle.k_real.specs.Constants.{is_no_integer}
use Rattle.k_real.proofs.constants.is_no_integer.Given as goal

abbrev pub invariant-loop-b : goal.invariant-loop-b
invariant-loop-b l = is_no_integer l.rest ≡ is_no_integer l.text

abbrev pub decreases-loop-b : goal.decreases-loop-b
decreases-loop-b l = length l.rest
