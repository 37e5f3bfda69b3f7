use Rattle.std.proofs.Common.{◌∙◌, sym, subst}
use Rattle.k_lower_extents.specs.Extents.{ArePartsExtents}
use Rattle.k_lower_extents.proofs.NestedExtents.{part_there}
use Rattle.k_lower_cases.proofs.Counted.{at_default, one_statement_more}
use Rattle.k_lower_cases.proofs.counts.before_default.Goals as goal

pub returns-then-is_default : goal.returns-then-is_default
returns-then-is_default c = λ w has.
    at_default w c.as_slice-each-items.result.now c.loop-each.each-index c.each-item.result _ _ c.loop-each-test.true c.each-item.is
    (sym (c.is_default.ensures w) ∙ c.if-is_default.true) (c.loop-each.invariant w has)

pub loop-each-preserved : goal.loop-each-preserved
loop-each-preserved c = λ w has.
    one_statement_more w c.as_slice-each-items.result.now c.loop-each.each-index c.each-item.result _ _ _ _ c.loop-each-test.true c.each-item.is
    (sym (c.is_default.ensures w) ∙ c.if-is_default.false)
    (c.in_ok-statement.ensures w (part_there w c.args.table.now c.as_slice-each-items.result.now c.loop-each.each-index c.each-item.result c.loop-each-test.true c.each-item.is
    (subst (ArePartsExtents c.args.table.now w) (sym c.as_slice-each-items.ensures) has)))
    c.in_ok-size.ensures (c.loop-each.invariant w has)
