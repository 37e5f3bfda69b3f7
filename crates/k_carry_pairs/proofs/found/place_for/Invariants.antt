use Rattle.std.proofs.Common.{◌-◌}
use Rattle.k_carry_pairs.proofs.Putting.{IsBetween}
use Rattle.k_carry_pairs.proofs.found.place_for.Given as goal

-- the place lies between these
abbrev pub invariant-loop-low : goal.invariant-loop-low
invariant-loop-low l = IsBetween l.fn.new l.fn.found l.low l.high

abbrev pub decreases-loop-low : goal.decreases-loop-low
decreases-loop-low l = l.high - l.low
