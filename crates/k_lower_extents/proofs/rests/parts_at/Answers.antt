use Rattle.std.proofs.Common.{sym, subst}
use Rattle.k_lower_extents.specs.Extents.{ArePartsExtents}
use Rattle.k_lower_extents.proofs.NestedExtents.{part_there}
use Rattle.k_lower_extents.proofs.RestExtents.{one_part_more}
use Rattle.k_lower_extents.proofs.rests.parts_at.Goals as goal

pub loop-part-preserved : goal.loop-part-preserved
loop-part-preserved c = λ w has.
    one_part_more w c.as_slice-part-items.result.now c.loop-part.part-index c.part-item.result c.loop-part.found.items c.part_at.new.found.items _
    c.loop-part-test.true c.part-item.is
    (c.in_ok-part_at.ensures w (part_there w c.args.table.now c.as_slice-part-items.result.now c.loop-part.part-index c.part-item.result c.loop-part-test.true c.part-item.is
    (subst (ArePartsExtents c.args.table.now w) (sym c.as_slice-part-items.ensures) has)))
    (c.loop-part.invariant w has)
