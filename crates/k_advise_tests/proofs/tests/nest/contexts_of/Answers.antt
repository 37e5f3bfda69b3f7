use Rattle.k_advise_tests.proofs.Nested.{made_can_plan}
use Rattle.k_advise_tests.proofs.tests.nest.contexts_of.Goals as goal

pub returns : goal.returns
returns c =
    made_can_plan c.with_own-run_work.result c.with_own-first_work.result c.with_own-outer_work.result c.with_own-middle_work.result c.with_own-inner_work.result
    (record {
      loops = c.with_own-loops_work.result;
      inner_small = c.with_own-inner_work.ensures.bound;
      own_middle = c.args.nest.now.middle.1;
      middle_is = c.with_own-middle_work.ensures.value;
      middle_small = c.with_own-middle_work.ensures.bound;
      own_outer = c.args.nest.now.outer.1;
      outer_is = c.with_own-outer_work.ensures.value;
      outer_small = c.with_own-outer_work.ensures.bound;
      own_first = c.args.nest.now.first.1;
      first_is = c.with_own-first_work.ensures.value;
      loops_is = c.with_own-loops_work.ensures.value;
      loops_small = c.with_own-loops_work.ensures.bound;
      own_run = c.args.nest.now.run.1;
      run_is = c.with_own-run_work.ensures.value;
      run_small = c.with_own-run_work.ensures.bound;
    })
    _ _ _ _ _ _ c.context.result c.context-2.result c.context-3.result c.context-4.result c.context-5.result
    c.new-contexts.ensures c.in_ok-push.ensures.ok c.in_ok-push-2.ensures.ok c.in_ok-push-3.ensures.ok c.in_ok-push-4.ensures.ok c.in_ok-push-5.ensures.ok
    c.context.ensures.parent c.context-2.ensures.parent c.context-3.ensures.parent c.context-4.ensures.parent c.context-5.ensures.parent
    c.context.ensures.work c.context-2.ensures.work c.context-3.ensures.work c.context-4.ensures.work c.context-5.ensures.work
