use Rattle.std.proofs.Common.{sym, subst}
use Rattle.k_lower_expressions.specs.Arounds.{program_of}
use Rattle.k_lower_extents.specs.Extents.{ArePartsExtents}
use Rattle.k_lower_extents.proofs.NestedExtents.{part_there}
use Rattle.k_lower_cases.proofs.Cased.{one_case_more}
use Rattle.k_lower_cases.proofs.selects.cases.Goals as goal

pub loop-each-preserved : goal.loop-each-preserved
loop-each-preserved c = λ w has.
    one_case_more (program_of c.args.around.now) c.args.kind c.args.r c.args.on w c.as_slice-each-items.result.now c.loop-each.each-index c.each-item.result
    _ _ _ _ _ _ c.loop-each-test.true c.each-item.is
    (c.in_ok-at.ensures w (part_there w c.args.table.now c.as_slice-each-items.result.now c.loop-each.each-index c.each-item.result c.loop-each-test.true c.each-item.is
    (subst (ArePartsExtents c.args.table.now w) (sym c.as_slice-each-items.ensures) has)))
    (c.loop-each.invariant w has)
