use Rattle.k_selfpar.proofs.Adding.{more_summed}
use Rattle.k_selfpar.proofs.sums.sums_of.Goals as goal

pub loop-item-preserved : goal.loop-item-preserved
loop-item-preserved c =
    more_summed c.args.dict.now c.args.items.now c.loop-item.rest.now c.loop-item.sums c.in-Some.item.now c.in-Some.later.now c.in-Some.ensures.cases.0 c.loop-item.invariant
    c.with_item-sums.result c.with_item-sums.ensures
