use Rattle.k_advise_plan.specs.Saving.{carried_in}
use Rattle.k_advise_plan.proofs.Done.{more_done, recast_as, work_small}
use Rattle.k_advise_plan.proofs.recast.recast_all.Goals as goal

pub passes-is_loop-requires : goal.passes-is_loop-requires
passes-is_loop-requires c =
    work_small c.args.team.now (carried_in c.args.carries.now) c.args.run_work c.args.contexts.now c.loop-context.rest.now c.in-Some.later.now c.loop-context.recasts
    c.in-Some.context.now c.loop-context.invariant c.in-Some.ensures.cases.0 c.requires

pub threaded_saving-saves-requires : goal.threaded_saving-saves-requires
threaded_saving-saves-requires c =
    work_small c.args.team.now (carried_in c.args.carries.now) c.args.run_work c.args.contexts.now c.loop-context.rest.now c.in-Some.later.now c.loop-context.recasts
    c.in-Some.context.now c.loop-context.invariant c.in-Some.ensures.cases.0 c.requires

pub recast-requires-clause-work : goal.recast-requires-clause-work
recast-requires-clause-work c =
    work_small c.args.team.now (carried_in c.args.carries.now) c.args.run_work c.args.contexts.now c.loop-context.rest.now c.in-Some.later.now c.loop-context.recasts
    c.in-Some.context.now c.loop-context.invariant c.in-Some.ensures.cases.0 c.requires

pub loop-context-preserved : goal.loop-context-preserved
loop-context-preserved c =
    more_done c.args.team.now (carried_in c.args.carries.now) c.args.run_work c.args.contexts.now c.loop-context.rest.now c.in-Some.later.now c.loop-context.recasts
    c.in-Some.context.now c.loop-context.invariant c.in-Some.ensures.cases.0 c.recast.result c.push.new.self
    (recast_as _ _ _ _ c.in-Some.context.now c.recast.result c.passes-is_loop.ensures c.threaded_saving-saves.ensures.value c.recast.ensures) c.in_ok-push.ensures.ok
