use Rattle.std.proofs.Common.{◌+◌, ◌<◌, ◌^◌, get_or, arith}
use Rattle.k_plan.proofs.Summing.{parent_in_below, sum_fits}
use Rattle.k_plan.proofs.planning.add_best.Goals as goal

pub bounds-below-context : goal.bounds-below-context
bounds-below-context c =
    parent_in_below c.args.limits.now c.args.run_work c.args.inner.now c.loop-context.rest.now c.in-Some.before.now c.in-Some.context.now c.loop-context.below
    c.loop-context.invariant c.in-Some.ensures.cases.0 c.requires.sum

pub overflow_add-sum : goal.overflow_add-sum
overflow_add-sum c =
    let fits : get_or c.loop-context.below c.in-Some.context.now.parent 0 + c.best_total-total.result < 2 ^ 64 =
    sum_fits c.args.limits.now c.args.run_work c.args.inner.now c.loop-context.rest.now c.in-Some.before.now c.in-Some.context.now c.loop-context.below
    c.loop-context.invariant c.in-Some.ensures.cases.0 c.requires.sum c.best_total-total.result c.best_total-total.ensures in
    omega arith
