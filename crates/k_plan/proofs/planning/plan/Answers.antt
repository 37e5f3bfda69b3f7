use Rattle.std.proofs.Common.{◌≡◌, ◌+◌, ◌<◌, [], ◌∷◌, List, length, get_or, refl, sym, ap, ◌∙◌, subst, arith}
use Rattle.std.proofs.lemmas.List.{get_or_read}
use Rattle.k_selfpar.specs.declared.context.Context.{Context}
use Rattle.k_plan.specs.declared.advice.Advice.{Advice}
use Rattle.k_plan.specs.Best.{best, best_choice}
use Rattle.k_plan.specs.Plan.{CanPlan, picks_from}
use Rattle.k_plan.proofs.Advised.{advised, advice_names_contexts, advice_within, can_sum, none_advised}
use Rattle.k_plan.proofs.Summing.{empty}
use Rattle.k_plan.proofs.planning.plan.Goals as goal

pub returns-in_default-clause-plan : goal.returns-in_default-clause-plan
returns-in_default-clause-plan c =
    let advice : Advice = record { picks = c.new.result; total = 0 } in
    let is : c.args.contexts.now ≡ [] = sym c.as_slice-contexts.ensures ∙ empty c.as_slice-contexts.result.now c.in_default.ensures.cases in
    none_advised c.args.limits.now c.args.contexts.now advice is c.requires.contexts c.new.ensures refl

pub best_below-requires : goal.best_below-requires
best_below-requires c =
    let is : c.args.contexts.now ≡ c.in-Some.root.now ∷ c.in-Some.inner.now = sym c.as_slice-contexts.ensures ∙ c.in-Some.ensures.cases.0 in
    can_sum c.args.limits.now c.in-Some.root.now c.in-Some.inner.now (subst CanPlan is c.requires.contexts) c.requires.sp

pub returns-clause-plan : goal.returns-clause-plan
returns-clause-plan c =
    let root : Context = c.in-Some.root.now in
    let advice : Advice = record { picks = c.in_ok-picks.picks; total = c.best_total-total.result } in
    let is : c.args.contexts.now ≡ c.in-Some.root.now ∷ c.in-Some.inner.now = sym c.as_slice-contexts.ensures ∙ c.in-Some.ensures.cases.0 in
    let picks : c.in_ok-picks.picks ≡ picks_from 0 (best_choice c.args.limits.now c.args.contexts.now) c.args.contexts.now =
    subst (λ (l : List Context). c.in_ok-picks.picks ≡ picks_from 0 (best_choice c.args.limits.now l) l) c.as_slice-contexts.ensures c.in_ok-picks.ensures in
    let count : length c.in_ok-below.below.items ≡ length c.in-Some.inner.now + 1 = c.in_ok-below.ensures.count in
    let within : 0 < length c.in_ok-below.below.items = omega arith in
    let total : c.best_total-total.result ≡ best c.args.limits.now root.work root (get_or c.in_ok-below.below.items 0 0) =
    c.best_total-total.ensures ∙ ap (best c.args.limits.now root.work root) (get_or_read c.in_ok-below.below.items 0 c.index.result.now within c.index.ensures 0) in
    advised c.args.limits.now c.args.contexts.now root c.in-Some.inner.now c.in_ok-below.below.items advice is c.requires.contexts picks c.in_ok-below.ensures total

pub returns-in_default-clause-named : goal.returns-in_default-clause-named
returns-in_default-clause-named c =
    let advice : Advice = record { picks = c.new.result; total = 0 } in
    advice_names_contexts c.args.limits.now c.args.contexts.now advice (returns-in_default-clause-plan c)

pub returns-clause-named : goal.returns-clause-named
returns-clause-named c =
    let advice : Advice = record { picks = c.in_ok-picks.picks; total = c.best_total-total.result } in
    advice_names_contexts c.args.limits.now c.args.contexts.now advice (returns-clause-plan c)

pub returns-clause-at_most_work : goal.returns-clause-at_most_work
returns-clause-at_most_work c =
    let advice : Advice = record { picks = c.in_ok-picks.picks; total = c.best_total-total.result } in
    advice_within c.args.limits.now c.args.contexts.now advice c.requires.contexts (returns-clause-plan c)
