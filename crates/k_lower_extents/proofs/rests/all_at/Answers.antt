use Rattle.std.proofs.Common.{sym, subst}
use Rattle.k_lower_extents.specs.Extents.{AreAllExtents}
use Rattle.k_lower_extents.proofs.NestedExtents.{statement_there}
use Rattle.k_lower_extents.proofs.RestExtents.{one_more}
use Rattle.k_lower_extents.proofs.rests.all_at.Goals as goal

pub loop-stmt-preserved : goal.loop-stmt-preserved
loop-stmt-preserved c = λ w has.
    one_more w c.as_slice-stmt-items.result.now c.loop-stmt.stmt-index c.stmt-item.result c.in_ok-extent.extent c.loop-stmt.found.items c.push.new.self.items _
    c.loop-stmt-test.true c.stmt-item.is c.in_ok-push.ensures.items
    (c.in_ok-extent.ensures w (statement_there w c.args.table.now c.as_slice-stmt-items.result.now c.loop-stmt.stmt-index c.stmt-item.result c.loop-stmt-test.true c.stmt-item.is
    (subst (AreAllExtents c.args.table.now w) (sym c.as_slice-stmt-items.ensures) has)))
    (c.loop-stmt.invariant w has)
