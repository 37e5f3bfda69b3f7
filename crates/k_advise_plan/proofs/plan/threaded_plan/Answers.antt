use Rattle.std.proofs.Common.{◌≡◌, ◌<◌, length, refl, sym, ap, ◌∙◌, subst}
use Rattle.std.specs.Prelude.{All, map}
use Rattle.std.proofs.lemmas.List.Elements.{All-map}
use Rattle.k_selfpar.specs.Contexts.{root_work}
use Rattle.k_plan.specs.declared.advice.Pick.{Pick}
use Rattle.k_advise_plan.specs.declared.plan.ThreadedPick.{ThreadedPick}
use Rattle.k_advise_plan.specs.Recast.{AreRecast, without_doall}
use Rattle.k_advise_plan.specs.Saving.{carried_in, passes, threaded_saving}
use Rattle.k_advise_plan.proofs.Recasting.{can_plan, same_length, told}
use Rattle.k_advise_plan.proofs.plan.threaded_plan.Goals as goal

pub plan-requires-clause-contexts : goal.plan-requires-clause-contexts
plan-requires-clause-contexts c =
    can_plan (passes c.args.team.now (carried_in c.args.carries.now) c.root_work.result) (threaded_saving c.args.team.now) c.args.contexts.now c.in_ok-recasts.recasts
    (subst (λ l. AreRecast c.args.team.now (carried_in c.args.carries.now) c.root_work.result l c.in_ok-recasts.recasts) c.as_slice-contexts.ensures c.in_ok-recasts.ensures)
    c.requires

pub returns-clause-plan : goal.returns-clause-plan
returns-clause-plan c =
    told c.args.team.now (carried_in c.args.carries.now) c.root_work.result c.args.contexts.now c.in_ok-recasts.recasts
    (subst (λ l. AreRecast c.args.team.now (carried_in c.args.carries.now) c.root_work.result l c.in_ok-recasts.recasts) c.as_slice-contexts.ensures c.in_ok-recasts.ensures)
    (c.root_work.ensures ∙ ap root_work c.as_slice-contexts.ensures) c.in_ok-advice.advice (record { picks = c.in_ok-picks.picks; total = c.in_ok-advice.advice.total })
    c.in_ok-advice.ensures.plan (c.in_ok-picks.ensures ∙ ap (map without_doall) c.as_slice.ensures) refl

pub returns-clause-named : goal.returns-clause-named
returns-clause-named c =
    let are : AreRecast c.args.team.now (carried_in c.args.carries.now) c.root_work.result c.args.contexts.now c.in_ok-recasts.recasts =
    subst (λ l. AreRecast c.args.team.now (carried_in c.args.carries.now) c.root_work.result l c.in_ok-recasts.recasts) c.as_slice-contexts.ensures c.in_ok-recasts.ensures in
    let same : length c.in_ok-recasts.recasts ≡ length c.args.contexts.now =
    same_length (passes c.args.team.now (carried_in c.args.carries.now) c.root_work.result) (threaded_saving c.args.team.now) c.args.contexts.now c.in_ok-recasts.recasts are in
    subst (λ l. All (λ (pick : ThreadedPick). pick.context < length c.args.contexts.now) l) (sym (c.in_ok-picks.ensures ∙ ap (map without_doall) c.as_slice.ensures))
    (All-map (λ (pick : ThreadedPick). pick.context < length c.args.contexts.now) without_doall c.in_ok-advice.advice.picks
    (subst (λ n. All (λ (pick : Pick). pick.context < n) c.in_ok-advice.advice.picks) same c.in_ok-advice.ensures.named))
