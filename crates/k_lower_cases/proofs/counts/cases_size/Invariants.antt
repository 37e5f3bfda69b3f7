use Rattle.std.proofs.Common.{◌≡◌, ◌+◌, drop, map}
use Rattle.k_lower_code.specs.Stretches.{Inside}
use Rattle.k_lower_code.specs.Switches.{cases_size}
use Rattle.k_lower_extents.specs.Extents.{lowered_part}
use Rattle.k_lower_cases.proofs.counts.cases_size.Given as goal

abbrev pub invariant-loop-each : goal.invariant-loop-each
invariant-loop-each l =
    (w : Inside) → l.size + cases_size (map (lowered_part w) (drop l.each-index l.each-items)) ≡ cases_size (map (lowered_part w) l.parts)
