-- The best total is attained: by the contexts that are taken and have none above them that is.
use Rattle.std.proofs.Common.{◌≡◌, ℕ, ◌+◌, ◌<◌, ◌≤◌, ◌⊎◌, inl, inr, max, Bool, true, false, not, ◌&&◌, ◌||◌, List, [], ◌∷◌, refl, sym, ap, ◌∙◌, arith, if◌then◌else◌, leb}
use Rattle.std.specs.Prelude.{◌==◌}
use Rattle.std.proofs.lemmas.Bool.{cases_eq, cond-true, cond-false, cond_both, ne_eqb, and_parts, and_cases, leb-true, leb-false}
use Rattle.k_selfpar.specs.declared.context.Context.{Context}
use Rattle.k_plan.specs.declared.limits.Limits.{Limits}
use Rattle.k_plan.specs.Best.{best, best_choice, given, taken, takes}
use Rattle.k_plan.specs.Choices.{Choice, total}
use Rattle.k_selfpar.specs.Contexts.{root_work}
use Rattle.k_plan.specs.Plan.{CanPlan}
use Rattle.k_plan.specs.Saving.{passes, saving}
use Rattle.k_plan.proofs.Above.{AreBehind, are_behind, covered, covered_by_parent, first_is_free}
use Rattle.k_plan.proofs.Bounded.{own}
use Rattle.k_plan.proofs.Given.{given_child, given_other}
use Rattle.k_plan.proofs.Marks.{Marked, all_marked}
use Rattle.k_plan.proofs.Totals.{saved, sums, total_at_root}

either : (b : Bool) (n : ℕ) → n ≡ (if b then n else n)
either true n = refl
either false n = refl

-- one of two numbers, with one of two others
pub both_given : (b : Bool) (v g : ℕ) → (if b then 0 else v) + (if b then 0 else g) ≡ (if b then 0 else v + g)
both_given true v g = refl
both_given false v g = refl

-- what is saved at a context that is taken or not, with one above it that is taken or none
node_value : (limits : Limits) (root : ℕ) (c : Context) (s : ℕ) (u b : Bool) → u ≡ takes limits root c s
    → (if u && not b then saving c else 0) + (if u || b then 0 else s) ≡ (if b then 0 else best limits root c s)
node_value limits root c s true true is = refl
node_value limits root c s false true is = refl
node_value limits root c s true false is =
    let parts = and_parts (passes limits root c) (leb s (saving c)) (sym is) in
    larger (own limits root c) (saving c) s (cond-true (passes limits root c) (saving c) 0 parts.0) (leb-true s (saving c) parts.1)
  where
    larger : (o v s : ℕ) → o ≡ v → s ≤ v → v + 0 ≡ max o s
    larger o v s e le = omega arith
node_value limits root c s false false is = smaller (own limits root c) s (by (and_cases (passes limits root c) (leb s (saving c)) (sym is)))
  where
    smaller : (o s : ℕ) → o ≤ s → 0 + s ≡ max o s
    smaller o s le = omega arith

    none : (o s : ℕ) → o ≡ 0 → o ≤ s
    none o s e = omega arith

    under : (v : ℕ) → v < s → v ≤ s
    under v lt = omega arith

    by : (passes limits root c ≡ false) ⊎ (leb s (saving c) ≡ false) → own limits root c ≤ s
    by (inl fails) = none (own limits root c) s (cond-false (passes limits root c) (saving c) 0 fails)
    by (inr less) = cond_both (passes limits root c) (saving c) 0 (λ x. x ≤ s) (λ e. under (saving c) (leb-false s (saving c) less)) (λ e. omega arith)

module _ (limits : Limits) (contexts : List Context) (behind : AreBehind contexts) where
  -- below a context that is taken, or has one above it that is, nothing is saved; below another, the best total
  pub attained : (more : List Context) (k a : ℕ) → Marked limits contexts k more
      → given (sums (best_choice limits contexts)) more k a
      ≡ (if taken limits contexts a || covered (taken limits contexts) contexts a then 0 else given (λ _. best limits (root_work contexts)) more k a)
  attained [] k a marked = either (taken limits contexts a || covered (taken limits contexts) contexts a) 0
  attained (c ∷ more) k a marked = elim (cases_eq c.parent a) [
    | inl same ↦
        let t : ℕ → Bool = taken limits contexts in
        let cov : ℕ → Bool = covered (taken limits contexts) contexts in
        let under : ℕ = given (λ _. best limits (root_work contexts)) more (k + 1) k in
        let less : c.parent < k = marked.0.behind in
        let blocked : cov k ≡ (t a || cov a) =
        covered_by_parent (taken limits contexts) contexts behind k c (omega arith) marked.0.at ∙ ap (λ p. t p || cov p) same in
        given_child (sums (best_choice limits contexts)) c more k a same
        ∙ ap (λ x. (saved (best_choice limits contexts) k c + x) + given (sums (best_choice limits contexts)) more (k + 1) a) (attained more (k + 1) k marked.1)
        ∙ ap (λ x. x + given (sums (best_choice limits contexts)) more (k + 1) a) (node_value limits (root_work contexts) c under (t k) (cov k) marked.0.its)
        ∙ ap (λ x. (if cov k then 0 else best limits (root_work contexts) c under) + x) (attained more (k + 1) a marked.1)
        ∙ ap (λ b. (if b then 0 else best limits (root_work contexts) c under)
        + (if t a || cov a then 0 else given (λ _. best limits (root_work contexts)) more (k + 1) a)) blocked
        ∙ both_given (t a || cov a) (best limits (root_work contexts) c under) (given (λ _. best limits (root_work contexts)) more (k + 1) a)
        ∙ ap (λ x. if t a || cov a then 0 else x) (sym (given_child (λ _. best limits (root_work contexts)) c more k a same))
    | inr other ↦
        given_other (sums (best_choice limits contexts)) c more k a other
        ∙ attained more (k + 1) a marked.1
        ∙ ap (λ x. if taken limits contexts a || covered (taken limits contexts) contexts a then 0 else x)
        (sym (given_other (λ _. best limits (root_work contexts)) c more k a other))
  ]

-- that choice saves the best total at the root
pub total_of_best : (limits : Limits) (root : Context) (inner : List Context) → CanPlan (root ∷ inner)
    → total (root ∷ inner) (best_choice limits (root ∷ inner)) ≡ best limits root.work root (given (λ _. best limits root.work) inner 1 0)
total_of_best limits root inner can =
    let contexts : List Context = root ∷ inner in
    let t : ℕ → Bool = taken limits (root ∷ inner) in
    let cov : ℕ → Bool = covered (taken limits (root ∷ inner)) (root ∷ inner) in
    let under : ℕ = given (λ _. best limits root.work) inner 1 0 in
    total_at_root (best_choice limits (root ∷ inner)) root inner can.parents.1
    ∙ ap (λ x. saved (best_choice limits (root ∷ inner)) 0 root + x)
    (attained limits (root ∷ inner) (are_behind (root ∷ inner) can.parents) inner 1 0 (all_marked limits root inner can.parents))
    ∙ node_value limits root.work root under (t 0) (cov 0) refl
    ∙ ap (λ b. if b then 0 else best limits root.work root under) (first_is_free (taken limits (root ∷ inner)) (root ∷ inner))

module _ (limits : Limits) (contexts : List Context) (behind : AreBehind contexts) (choice : Choice) (top : ℕ) where
  -- those of a choice that are below one context
  abbrev pub part_below : ℕ → Bool
  part_below k = choice k && covered (λ a. a == top) contexts k

  -- what these save below the context is what the whole choice saves there
  pub saved_below : (more : List Context) (k a : ℕ) → top < k → Marked limits contexts k more
      → given (sums part_below) more k a ≡ (if (a == top) || covered (λ b. b == top) contexts a then given (sums choice) more k a else 0)
  saved_below [] k a late marked = either ((a == top) || covered (λ b. b == top) contexts a) 0
  saved_below (c ∷ more) k a late marked = elim (cases_eq c.parent a) [
    | inl same ↦
        let cov : ℕ → Bool = covered (λ b. b == top) contexts in
        let less : c.parent < k = marked.0.behind in
        let below : cov k ≡ ((a == top) || cov a) =
        covered_by_parent (λ b. b == top) contexts behind k c (omega arith) marked.0.at ∙ ap (λ p. (p == top) || cov p) same in
        let not_top : (k == top) ≡ false = ne_eqb k top (λ e. absurd (omega arith)) in
        given_child (sums part_below) c more k a same
        ∙ ap (λ x. (saved part_below k c + x) + given (sums part_below) more (k + 1) a) (saved_below more (k + 1) k (omega arith) marked.1)
        ∙ ap (λ b. (saved part_below k c + (if b || cov k then given (sums choice) more (k + 1) k else 0)) + given (sums part_below) more (k + 1) a) not_top
        ∙ ap (λ x. x + given (sums part_below) more (k + 1) a) (node (choice k) (cov k) (saving c) (given (sums choice) more (k + 1) k))
        ∙ ap (λ x. (if cov k then saved choice k c + given (sums choice) more (k + 1) k else 0) + x) (saved_below more (k + 1) a (omega arith) marked.1)
        ∙ ap (λ b. (if b then saved choice k c + given (sums choice) more (k + 1) k else 0)
        + (if (a == top) || cov a then given (sums choice) more (k + 1) a else 0)) below
        ∙ both ((a == top) || cov a) (saved choice k c + given (sums choice) more (k + 1) k) (given (sums choice) more (k + 1) a)
        ∙ ap (λ x. if (a == top) || cov a then x else 0) (sym (given_child (sums choice) c more k a same))
    | inr other ↦
        given_other (sums part_below) c more k a other
        ∙ saved_below more (k + 1) a (omega arith) marked.1
        ∙ ap (λ x. if (a == top) || covered (λ b. b == top) contexts a then x else 0) (sym (given_other (sums choice) c more k a other))
  ]
    where
      node : (p b : Bool) (v g : ℕ) → (if p && b then v else 0) + (if b then g else 0) ≡ (if b then (if p then v else 0) + g else 0)
      node true true v g = refl
      node true false v g = refl
      node false true v g = refl
      node false false v g = refl

      both : (b : Bool) (v g : ℕ) → (if b then v else 0) + (if b then g else 0) ≡ (if b then v + g else 0)
      both true v g = refl
      both false v g = refl
