use Rattle.k_sum_read.proofs.RootSteps.{all_counted}
use Rattle.k_sum_read.proofs.roots.count_roots.Goals as goal

pub returns : goal.returns
returns c = all_counted c.loop-root.count c.args.roots.now c.loop-root.rest.now c.in_default.ensures.cases c.loop-root.invariant.few c.loop-root.invariant.count
