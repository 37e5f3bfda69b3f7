use Rattle.std.proofs.Common.{◌≡◌, List, map, sym, ap, ◌∙◌}
use Rattle.std.proofs.lemmas.Result.{IfOk-weaker}
use Rattle.k_num.specs.declared.place.Place.{Place}
use Rattle.k_lower_code.specs.Stretches.{Inside}
use Rattle.k_lower_code.specs.Switches.{statements_of}
use Rattle.k_lower_extents.specs.declared.extent.Extent.{Extent}
use Rattle.k_lower_extents.specs.Extents.{ArePartsExtents, lowered_part, rests_of}
use Rattle.k_lower_extents.specs.StatementSums.{rests}
use Rattle.k_lower_extents.proofs.RestExtents.{rests_row}
use Rattle.k_lower_extents.proofs.rests.part_rests_at.Goals as goal

pub returns : goal.returns
returns c =
    IfOk-weaker c.rests.result (λ (xs : List Extent). xs ≡ rests c.as_slice.result.now)
    (λ (xs : List Extent). (w : Inside) (place : Place) → ArePartsExtents c.args.table.now w c.args.parts.now
    → xs ≡ rests_of w.program place (statements_of (map (lowered_part w) c.args.parts.now)))
    (λ xs is w place has. is ∙ (ap rests (c.as_slice.ensures.value ∙ c.in_ok-extents.ensures w has)
    ∙ sym (rests_row w.program place (statements_of (map (lowered_part w) c.args.parts.now))))) c.rests.ensures
