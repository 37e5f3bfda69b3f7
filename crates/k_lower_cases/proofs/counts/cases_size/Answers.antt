use Rattle.k_lower_cases.proofs.Counted.{all_counted, one_size_more}
use Rattle.k_lower_cases.proofs.counts.cases_size.Goals as goal

pub loop-each-preserved : goal.loop-each-preserved
loop-each-preserved c = λ w.
    one_size_more w c.as_slice-each-items.result.now c.loop-each.each-index c.each-item.result _ _ _ _ c.loop-each-test.true c.each-item.is
    (c.case_size.ensures w) c.in_ok-size.ensures (c.loop-each.invariant w)

pub returns : goal.returns
returns c = λ w.
    all_counted w c.as_slice-each-items.result.now c.loop-each.each-index _ _ c.loop-each-test.false (c.loop-each.invariant w)
