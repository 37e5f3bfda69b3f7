use Rattle.std.proofs.Common.{◌≡◌, List, map, sym, ap, ◌∙◌}
use Rattle.std.proofs.lemmas.Result.{IfOk-weaker}
use Rattle.k_num.specs.declared.place.Place.{Place}
use Rattle.k_lower_code.specs.Statements.{lowered}
use Rattle.k_lower_code.specs.Stretches.{Inside}
use Rattle.k_lower_extents.specs.declared.extent.Extent.{Extent}
use Rattle.k_lower_extents.specs.Extents.{AreAllExtents, rests_of}
use Rattle.k_lower_extents.specs.StatementSums.{rests}
use Rattle.k_lower_extents.proofs.RestExtents.{rests_row}
use Rattle.k_lower_extents.proofs.rests.rests_at.Goals as goal

pub returns : goal.returns
returns c =
    IfOk-weaker c.rests.result (λ (xs : List Extent). xs ≡ rests c.as_slice.result.now)
    (λ (xs : List Extent). (w : Inside) (place : Place) → AreAllExtents c.args.table.now w c.args.stmts.now → xs ≡ rests_of w.program place (map (lowered w) c.args.stmts.now))
    (λ xs is w place has. is ∙ (ap rests (c.as_slice.ensures.value ∙ c.in_ok-extents.ensures w has) ∙ sym (rests_row w.program place (map (lowered w) c.args.stmts.now)))) c.rests.ensures
