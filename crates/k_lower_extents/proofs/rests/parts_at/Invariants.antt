use Rattle.std.proofs.Common.{◌≡◌, ◌++◌, map, drop}
use Rattle.k_lower_code.specs.Stretches.{Inside}
use Rattle.k_lower_code.specs.Switches.{statements_of}
use Rattle.k_lower_extents.specs.Extents.{ArePartsExtents, extent_of, lowered_part}
use Rattle.k_lower_extents.proofs.rests.parts_at.Given as goal

abbrev pub invariant-loop-part : goal.invariant-loop-part
invariant-loop-part l =
    (w : Inside) → ArePartsExtents l.table w l.parts
    → l.found.items ++ map extent_of (statements_of (map (lowered_part w) (drop l.part-index l.part-items)))
    ≡ map extent_of (statements_of (map (lowered_part w) l.parts))
