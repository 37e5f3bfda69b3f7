-- What the calls of the plan need of each other.
use Rattle.std.proofs.Common.{◌≡◌, ℕ, suc, ◌+◌, ◌<◌, ◌≤◌, ◌^◌, Bool, true, false, List, [], ◌∷◌, length, get_or, Some, slice_get, refl, sym, ap, ◌∙◌, subst, arith, zero-add, if◌then◌else◌}
use Rattle.std.specs.Prelude.{All, sum_by}
use Rattle.std.proofs.lemmas.Bool.{cond_both}
use Rattle.std.proofs.lemmas.List.Elements.{All-cons, All-nil}
use Rattle.std.proofs.lemmas.List.Sums.{sum_by-cons}
use Rattle.std.proofs.lemmas.Option.{slice_get-get_or}
use Rattle.k_plan.specs.declared.advice.Advice.{Advice}
use Rattle.k_plan.specs.declared.advice.Pick.{Pick}
use Rattle.k_selfpar.specs.declared.context.Context.{Context}
use Rattle.k_plan.specs.declared.limits.Limits.{Limits}
use Rattle.k_plan.specs.Best.{AreBest, CanSum, best, best_choice, given}
use Rattle.k_plan.specs.Choices.{Choice, total_from}
use Rattle.k_selfpar.specs.Contexts.{root_work}
use Rattle.k_plan.specs.Plan.{CanPlan, IsAdvice, pick_of, picks_from, works_under}
use Rattle.k_plan.specs.Saving.{saving}
use Rattle.k_plan.proofs.Attained.{total_of_best}
use Rattle.k_plan.proofs.Bounded.{given_within}
use Rattle.k_plan.proofs.Marks.{all_marked}
use Rattle.k_plan.proofs.Planned.{best_is_plan, saves_at_most_the_work}

-- what contexts give below them fits where they have a plan
pub can_sum : (limits : Limits) (root : Context) (inner : List Context) → CanPlan (root ∷ inner) → limits.sp < 2 ^ 62 → CanSum limits root.work inner
can_sum limits root inner can sp = record {
  root_work = can.small 0 root refl;
  sp = sp;
  parents = can.parents.1;
  small = λ k c at. can.small (suc k) c at;
  few = few_of can.few;
  fits = λ a lt. fits a lt;
}
  where
    few_of : suc (length inner) ≤ 65536 → length inner < 65536
    few_of le = omega arith

    small_enough : (g w v : ℕ) → g ≤ w → w ≤ v → v < 2 ^ 50 → g < 2 ^ 64
    small_enough g w v one two three = omega arith

    within : (a : ℕ) → a < length inner + 1 → a < suc (length inner)
    within a lt = omega arith

    fits : (a : ℕ) → a < length inner + 1 → given (λ _. best limits root.work) inner 1 a < 2 ^ 64
    fits a lt =
        let d : Context = get_or (root ∷ inner) a root in
        let at : slice_get (root ∷ inner) a ≡ Some d = slice_get-get_or (root ∷ inner) a root (within a lt) in
        small_enough (given (λ _. best limits root.work) inner 1 a) (works_under a inner) d.work
        (given_within limits root.work (root ∷ inner) can.works inner 1 a (all_marked limits root inner can.parents) (λ b. omega arith))
        (can.works a d at) (can.small a d at)

-- where the root and the contexts behind it are known
advice_at : (limits : Limits) (root : Context) (inner : List Context) (below : List ℕ) (advice : Advice) → CanPlan (root ∷ inner)
    → advice.picks ≡ picks_from 0 (best_choice limits (root ∷ inner)) (root ∷ inner) → AreBest limits root.work inner below
    → advice.total ≡ best limits root.work root (get_or below 0 0) → IsAdvice limits (root ∷ inner) advice
advice_at limits root inner below advice can picks are total = record {
  plan = best_choice limits (root ∷ inner);
  is_plan = best_is_plan limits (root ∷ inner) can;
  picks = picks;
  total = total ∙ ap (best limits root.work root) (are.totals 0 (omega arith)) ∙ sym (total_of_best limits root inner can);
}

-- the picks and the best total at the root are the plan's
pub advised : (limits : Limits) (contexts : List Context) (root : Context) (inner : List Context) (below : List ℕ) (advice : Advice) → contexts ≡ root ∷ inner
    → CanPlan contexts → advice.picks ≡ picks_from 0 (best_choice limits contexts) contexts → AreBest limits root.work inner below
    → advice.total ≡ best limits root.work root (get_or below 0 0) → IsAdvice limits contexts advice
advised limits contexts root inner below advice is can picks are total =
    subst (λ l. IsAdvice limits l advice) (sym is)
    (advice_at limits root inner below advice (subst CanPlan is can)
    (subst (λ l. advice.picks ≡ picks_from 0 (best_choice limits l) l) is picks) are total)

-- each pick is of a context that is there
picks_named : (choice : Choice) (n : ℕ) (contexts : List Context) (k : ℕ) → k + length contexts ≤ n → All (λ (pick : Pick). pick.context < n) (picks_from k choice contexts)
picks_named choice n [] k le = All-nil (λ (pick : Pick). pick.context < n)
picks_named choice n (c ∷ contexts) k le =
    let rest : All (λ (pick : Pick). pick.context < n) (picks_from (k + 1) choice contexts) = picks_named choice n contexts (k + 1) (omega arith) in
    cond_both (choice k) (pick_of k c ∷ picks_from (k + 1) choice contexts) (picks_from (k + 1) choice contexts) (All (λ (pick : Pick). pick.context < n))
    (λ e. All-cons (λ (pick : Pick). pick.context < n) (pick_of k c) (picks_from (k + 1) choice contexts) (omega arith) rest) (λ e. rest)

pub advice_names_contexts : (limits : Limits) (contexts : List Context) (advice : Advice) → IsAdvice limits contexts advice
    → All (λ (pick : Pick). pick.context < length contexts) advice.picks
advice_names_contexts limits contexts advice is =
    subst (All (λ (pick : Pick). pick.context < length contexts)) (sym is.picks) (picks_named is.plan (length contexts) contexts 0 (omega arith))

-- what the picks save is what the choice saves
picks_add_up : (choice : Choice) (contexts : List Context) (k : ℕ) → sum_by (λ (pick : Pick). pick.saves) (picks_from k choice contexts) ≡ total_from k choice contexts
picks_add_up choice [] k = refl
picks_add_up choice (c ∷ contexts) k = by (choice k) (picks_add_up choice contexts (k + 1))
  where
    by : (b : Bool) → sum_by (λ (pick : Pick). pick.saves) (picks_from (k + 1) choice contexts) ≡ total_from (k + 1) choice contexts
        → sum_by (λ (pick : Pick). pick.saves) (if b then pick_of k c ∷ picks_from (k + 1) choice contexts else picks_from (k + 1) choice contexts)
        ≡ (if b then saving c else 0) + total_from (k + 1) choice contexts
    by true rest = sum_by-cons (λ (pick : Pick). pick.saves) (pick_of k c) (picks_from (k + 1) choice contexts) ∙ ap (λ n. saving c + n) rest
    by false rest = rest ∙ sym (zero-add (total_from (k + 1) choice contexts))

pub advice_adds_up : (limits : Limits) (contexts : List Context) (advice : Advice) → IsAdvice limits contexts advice
    → advice.total ≡ sum_by (λ (pick : Pick). pick.saves) advice.picks
advice_adds_up limits contexts advice is =
    is.total ∙ sym (picks_add_up is.plan contexts 0) ∙ ap (sum_by (λ (pick : Pick). pick.saves)) (sym is.picks)

-- without contexts there is nothing to pick
pub none_advised : (limits : Limits) (contexts : List Context) (advice : Advice) → contexts ≡ [] → CanPlan contexts → advice.picks ≡ [] → advice.total ≡ 0
    → IsAdvice limits contexts advice
none_advised limits contexts advice is can picks total =
    subst (λ l. IsAdvice limits l advice) (sym is) (record {
      plan = best_choice limits [];
      is_plan = best_is_plan limits [] (subst CanPlan is can);
      picks = picks;
      total = total;
    })

-- a plan saves no more than the root's work
pub advice_within : (limits : Limits) (contexts : List Context) (advice : Advice) → CanPlan contexts → IsAdvice limits contexts advice → advice.total ≤ root_work contexts
advice_within limits contexts advice can is =
    subst (λ t. t ≤ root_work contexts) (sym is.total) (saves_at_most_the_work limits contexts is.plan can is.is_plan.choice)
