use Rattle.std.proofs.Common.{ap, ◌∙◌}
use Rattle.k_advise_verdicts.specs.Placing.{is_first, placed_by}
use Rattle.k_advise_verdicts.proofs.ByContext.{more_placed, work_small}
use Rattle.k_advise_verdicts.proofs.placing.place_all.Goals as goal

pub placed_by-found-requires : goal.placed_by-found-requires
placed_by-found-requires c =
    work_small c.args.team.now c.args.contexts.now c.args.picks.now c.loop-context.placed c.loop-context.left.now c.loop-context.rest.now c.in-Some.later.now
    c.in-Some.context.now c.requires.small c.loop-context.invariant c.in-Some.ensures.cases.0

pub loop-context-preserved : goal.loop-context-preserved
loop-context-preserved c =
    more_placed c.args.team.now c.args.contexts.now c.args.picks.now c.requires.parents c.loop-context.placed c.push.new.self c.loop-context.left.now
    c.behind-left.result.now c.loop-context.rest.now c.in-Some.later.now c.in-Some.context.now c.is_first-picked.result c.placed_by-found.result
    c.loop-context.invariant c.in-Some.ensures.cases.0 (c.is_first-picked.ensures ∙ ap (is_first c.loop-context.left.now) c.len.ensures)
    (c.placed_by-found.ensures ∙ ap (placed_by c.args.team.now c.is_first-picked.result c.in-Some.context.now) c.as_slice.ensures)
    c.in_ok-push.ensures.ok c.behind-left.ensures
