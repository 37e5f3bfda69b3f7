use Rattle.std.proofs.Common.{◌≡◌, ◌&&◌, Bool, List, length, get_or, vec_len, ap, ◌∙◌, subst, rules}
use Rattle.k_selfpar.specs.declared.context.Context.{Context}
use Rattle.k_plan.specs.declared.limits.Limits.{Limits}
use Rattle.k_plan.specs.Best.{AreBest, is_free, takes, with_pick}
use Rattle.k_selfpar.specs.Contexts.{root_work}
use Rattle.k_plan.specs.Plan.{behind_root}
use Rattle.k_plan.proofs.Choosing.{more_chosen, parent_within, root_small, work_small}
use Rattle.k_plan.proofs.planning.choose.Goals as goal

pub is_free-above_free-requires : goal.is_free-above_free-requires
is_free-above_free-requires c =
    rw c.as_slice.ensures.value (parent_within c.args.limits.now c.args.contexts.now c.loop-context.rest.now c.in-Some.later.now c.loop-context.free.items c.loop-context.picks c.in-Some.context.now
    c.loop-context.invariant c.in-Some.ensures.cases.0 c.requires.plan)

pub takes-best-requires-clause-work : goal.takes-best-requires-clause-work
takes-best-requires-clause-work c =
    work_small c.args.limits.now c.args.contexts.now c.loop-context.rest.now c.in-Some.later.now c.loop-context.free.items c.loop-context.picks c.in-Some.context.now
    c.loop-context.invariant c.in-Some.ensures.cases.0 c.requires.plan

pub takes-best-requires-clause-run_work : goal.takes-best-requires-clause-run_work
takes-best-requires-clause-run_work c = rw c.requires.root (root_small c.args.contexts.now c.requires.plan)

pub add_pick-requires : goal.add_pick-requires
add_pick-requires c =
    work_small c.args.limits.now c.args.contexts.now c.loop-context.rest.now c.in-Some.later.now c.loop-context.free.items c.loop-context.picks c.in-Some.context.now
    c.loop-context.invariant c.in-Some.ensures.cases.0 c.requires.plan

pub loop-context-preserved : goal.loop-context-preserved
loop-context-preserved c =
    let limits : Limits = c.args.limits.now in
    let contexts : List Context = c.args.contexts.now in
    let free : List Bool = c.loop-context.free.items in
    let context : Context = c.in-Some.context.now in
    let size : vec_len c.loop-context.free ≡ length c.loop-context.free.items = search rules in
    let number : c.len-number.result ≡ length c.loop-context.free.items = c.len-number.ensures ∙ size in
    let above : c.is_free-above_free.result ≡ is_free free context.parent =
    c.is_free-above_free.ensures ∙ ap (λ l. is_free l context.parent) c.as_slice.ensures.value in
    let its : c.takes-best.result ≡ takes limits (root_work contexts) context (get_or c.args.below.now (length c.loop-context.free.items) 0) =
    c.takes-best.ensures ∙ ap (λ r. takes limits r context (get_or c.args.below.now c.len-number.result 0)) c.requires.root
    ∙ ap (λ n. takes limits (root_work contexts) context (get_or c.args.below.now n 0)) number in
    let best : AreBest limits (root_work contexts) (behind_root contexts) c.args.below.now =
    subst (λ r. AreBest limits r (behind_root contexts) c.args.below.now) c.requires.root c.requires.below in
    let added : c.add_pick.new.picks ≡ with_pick (c.takes-best.result && c.is_free-above_free.result) (length c.loop-context.free.items) context c.loop-context.picks =
    c.in_ok-add_pick.ensures ∙ ap (λ n. with_pick (c.takes-best.result && c.is_free-above_free.result) n context c.loop-context.picks) number in
    more_chosen limits contexts c.loop-context.rest.now c.in-Some.later.now free c.loop-context.picks context c.loop-context.invariant c.in-Some.ensures.cases.0 c.requires.plan
    c.args.below.now best c.is_free-above_free.result c.takes-best.result above its c.push.new.self.items c.add_pick.new.picks c.in_ok-push.ensures.items added
