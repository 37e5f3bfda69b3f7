use Rattle.std.proofs.Common.{◌≡◌, ◌+◌, drop, map}
use Rattle.k_lower_code.specs.Stretches.{Inside}
use Rattle.k_lower_code.specs.Switches.{before_default}
use Rattle.k_lower_extents.specs.Extents.{ArePartsExtents, lowered_part}
use Rattle.k_lower_cases.proofs.counts.before_default.Given as goal

abbrev pub invariant-loop-each : goal.invariant-loop-each
invariant-loop-each l =
    (w : Inside) → ArePartsExtents l.table w l.parts
    → l.size + before_default (map (lowered_part w) (drop l.each-index l.each-items)) ≡ before_default (map (lowered_part w) l.parts)
