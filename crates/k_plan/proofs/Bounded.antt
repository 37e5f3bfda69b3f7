-- No choice saves more than the best total, and that is at most the root's work.
use Rattle.std.proofs.Common.{◌≡◌, ℕ, ◌+◌, ◌-◌, ◌*◌, ◌<◌, ◌≤◌, inl, inr, max, true, List, [], ◌∷◌, Some, slice_get, refl, sym, ap, ◌∙◌, subst, arith, if◌then◌else◌, ltb}
use Rattle.std.specs.Int.{div_ceil}
use Rattle.std.proofs.lemmas.Bool.{cases_eq, cases_Bool, cond-true, cond-false, cond_both, eq-eqb, ne_eqb, false_from_ne_true}
use Rattle.std.proofs.lemmas.Option.{same_Some}
use Rattle.k_selfpar.specs.declared.context.Context.{Context}
use Rattle.k_plan.specs.declared.limits.Limits.{Limits}
use Rattle.k_plan.specs.Best.{best, given}
use Rattle.k_plan.specs.Choices.{Choice, IsAbove, IsChoice, next, total}
use Rattle.k_selfpar.specs.Contexts.{root_work}
use Rattle.k_plan.specs.Plan.{CanPlan, behind_root, works_under}
use Rattle.k_plan.specs.Saving.{passes, saving}
use Rattle.k_plan.proofs.Above.{above_goes_on}
use Rattle.k_plan.proofs.Given.{given_child, given_other}
use Rattle.k_plan.proofs.Marks.{Marked, all_marked}
use Rattle.k_plan.proofs.Totals.{saved, sums, total_at_root}

-- what a passing loop saves, and nothing for another context
abbrev pub own : Limits → ℕ → Context → ℕ
own limits root c = if passes limits root c then saving c else 0

saving_within : (c : Context) → saving c ≤ c.work
saving_within c =
    cond_both (ltb c.sp.0 c.sp.1) 0 (c.work - div_ceil (c.work * c.sp.1) c.sp.0) (λ x. x ≤ c.work) (λ e. omega arith) (λ e. less c.work (div_ceil (c.work * c.sp.1) c.sp.0))
  where
    less : (a b : ℕ) → a - b ≤ a
    less a b = omega arith

own_within : (limits : Limits) (root : ℕ) (c : Context) → own limits root c ≤ c.work
own_within limits root c = cond_both (passes limits root c) (saving c) 0 (λ x. x ≤ c.work) (λ e. saving_within c) (λ e. omega arith)

best_within : (own under work : ℕ) → own ≤ work → under ≤ work → max own under ≤ work
best_within own under work one other = omega arith

module _ (limits : Limits) (contexts : List Context) (choice : Choice) (is : IsChoice limits contexts choice) where
  -- contexts give nothing to one that has no chosen one below it
  nothing_below : (more : List Context) (k a : ℕ) → Marked limits contexts k more → ((i : ℕ) → choice i ≡ true → ¬ IsAbove contexts a i)
      → given (sums choice) more k a ≡ 0
  nothing_below [] k a marked none = refl
  nothing_below (c ∷ more) k a marked none =
      let rest : given (sums choice) more (k + 1) a ≡ 0 = nothing_below more (k + 1) a marked.1 none in
      elim (cases_eq c.parent a) [
        | inl same ↦
            let behind : c.parent < k = marked.0.behind in
            let up : IsAbove contexts a k = next a k c (omega arith) marked.0.at same in
            let here : saved choice k c ≡ 0 = cond-false (choice k) (saving c) 0 (false_from_ne_true (choice k) (λ h. none k h up)) in
            let under : given (sums choice) more (k + 1) k ≡ 0 =
            nothing_below more (k + 1) k marked.1 (λ i h lower. none i h (above_goes_on contexts a k i up lower)) in
            given_child (sums choice) c more k a same ∙ nothing (saved choice k c) (given (sums choice) more (k + 1) k) (given (sums choice) more (k + 1) a) here under rest
        | inr other ↦ given_other (sums choice) c more k a other ∙ rest
      ]
    where
      nothing : (x y z : ℕ) → x ≡ 0 → y ≡ 0 → z ≡ 0 → (x + y) + z ≡ 0
      nothing x y z e f g = omega arith

  -- the chosen ones at a context and below it save at most the best total there
  at_most_best : (k : ℕ) (c : Context) (under below : ℕ) → slice_get contexts k ≡ Some c → under ≤ below → (choice k ≡ true → under ≡ 0)
      → sums choice k c under ≤ best limits (root_work contexts) c below
  at_most_best k c under below at le alone = elim (cases_Bool (choice k)) [
    | inl chosen ↦
        let found = is.passing k chosen in
        let pass : passes limits (root_work contexts) c ≡ true =
        subst (λ d. passes limits (root_work contexts) d ≡ true) (same_Some found.0 c (sym found.1 ∙ at)) found.2 in
        taken_here (saved choice k c) (saving c) (own limits (root_work contexts) c) under below (cond-true (choice k) (saving c) 0 chosen)
        (cond-true (passes limits (root_work contexts) c) (saving c) 0 pass) (alone chosen)
    | inr out ↦ left_here (saved choice k c) (own limits (root_work contexts) c) under below (cond-false (choice k) (saving c) 0 out) le
  ]
    where
      taken_here : (x s o u b : ℕ) → x ≡ s → o ≡ s → u ≡ 0 → x + u ≤ max o b
      taken_here x s o u b e f g = omega arith

      left_here : (x o u b : ℕ) → x ≡ 0 → u ≤ b → x + u ≤ max o b
      left_here x o u b e le = omega arith

  given_at_most : (more : List Context) (k a : ℕ) → Marked limits contexts k more
      → given (sums choice) more k a ≤ given (λ _. best limits (root_work contexts)) more k a
  given_at_most [] k a marked = omega arith
  given_at_most (c ∷ more) k a marked =
      let rest = given_at_most more (k + 1) a marked.1 in
      elim (cases_eq c.parent a) [
        | inl same ↦
            both _ _ _ _ _ _ (given_child (sums choice) c more k a same) (given_child (λ _. best limits (root_work contexts)) c more k a same)
            (at_most_best k c (given (sums choice) more (k + 1) k) (given (λ _. best limits (root_work contexts)) more (k + 1) k) marked.0.at
            (given_at_most more (k + 1) k marked.1) (λ chosen. nothing_below more (k + 1) k marked.1 (λ i h up. is.apart k i chosen h up)))
            rest
        | inr other ↦
            only _ _ _ _ (given_other (sums choice) c more k a other) (given_other (λ _. best limits (root_work contexts)) c more k a other) rest
      ]
    where
      both : (x y v w g h : ℕ) → x ≡ v + g → y ≡ w + h → v ≤ w → g ≤ h → x ≤ y
      both x y v w g h e f le more = omega arith

      only : (x y g h : ℕ) → x ≡ g → y ≡ h → g ≤ h → x ≤ y
      only x y g h e f le = omega arith

-- no choice saves more than the best total at the root
pub total_at_most : (limits : Limits) (root : Context) (inner : List Context) (choice : Choice) → CanPlan (root ∷ inner) → IsChoice limits (root ∷ inner) choice
    → total (root ∷ inner) choice ≤ best limits root.work root (given (λ _. best limits root.work) inner 1 0)
total_at_most limits root inner choice can is =
    let marked = all_marked limits root inner can.parents in
    subst (λ t. t ≤ best limits root.work root (given (λ _. best limits root.work) inner 1 0)) (sym (total_at_root choice root inner can.parents.1))
    (at_most_best limits (root ∷ inner) choice is 0 root (given (sums choice) inner 1 0) (given (λ _. best limits root.work) inner 1 0) refl
    (given_at_most limits (root ∷ inner) choice is inner 1 0 marked)
    (λ chosen. nothing_below limits (root ∷ inner) choice is inner 1 0 marked (λ i h up. is.apart 0 i chosen h up)))

module _ (limits : Limits) (root : ℕ) (contexts : List Context)
    (works : (k : ℕ) (c : Context) → slice_get contexts k ≡ Some c → works_under k (behind_root contexts) ≤ c.work) where
  -- what contexts give is at most their works together
  pub given_within : (more : List Context) (k a : ℕ) → Marked limits contexts k more
      → ((b : ℕ) → works_under b more ≤ works_under b (behind_root contexts)) → given (λ _. best limits root) more k a ≤ works_under a more
  given_within [] k a marked part = omega arith
  given_within (c ∷ more) k a marked part =
      let later : (b : ℕ) → works_under b more ≤ works_under b (behind_root contexts) = λ b. (let h = part b in omega arith) in
      let rest = given_within more (k + 1) a marked.1 later in
      elim (cases_eq c.parent a) [
        | inl same ↦
            let under : given (λ _. best limits root) more (k + 1) k ≤ c.work =
            through (given_within more (k + 1) k marked.1 later) (later k) (works k c marked.0.at) in
            both _ _ _ _ _ _ (given_child (λ _. best limits root) c more k a same) (work_child a c more same)
            (best_within (own limits root c) (given (λ _. best limits root) more (k + 1) k) c.work (own_within limits root c) under) rest
        | inr other ↦ only _ _ _ _ (given_other (λ _. best limits root) c more k a other) (work_other a c more other) rest
      ]
    where
      through : {x y z w : ℕ} → x ≤ y → y ≤ z → z ≤ w → x ≤ w
      through e f g = omega arith

      both : (x y v w g h : ℕ) → x ≡ v + g → y ≡ w + h → v ≤ w → g ≤ h → x ≤ y
      both x y v w g h e f le more = omega arith

      only : (x y g h : ℕ) → x ≡ g → y ≡ h → g ≤ h → x ≤ y
      only x y g h e f le = omega arith

      work_child : (a : ℕ) (c : Context) (more : List Context) → c.parent ≡ a → works_under a (c ∷ more) ≡ c.work + works_under a more
      work_child a c more same = ap (λ b. (if b then c.work else 0) + works_under a more) (eq-eqb c.parent a same)

      work_other : (a : ℕ) (c : Context) (more : List Context) → ¬ (c.parent ≡ a) → works_under a (c ∷ more) ≡ works_under a more
      work_other a c more other =
          let e : works_under a (c ∷ more) ≡ 0 + works_under a more = ap (λ b. (if b then c.work else 0) + works_under a more) (ne_eqb c.parent a other) in
          omega arith

-- the best total at the root is at most its work
pub best_at_root : (limits : Limits) (root : Context) (inner : List Context) → CanPlan (root ∷ inner)
    → best limits root.work root (given (λ _. best limits root.work) inner 1 0) ≤ root.work
best_at_root limits root inner can =
    best_within (own limits root.work root) (given (λ _. best limits root.work) inner 1 0) root.work (own_within limits root.work root)
    (both (given_within limits root.work (root ∷ inner) can.works inner 1 0 (all_marked limits root inner can.parents) (λ b. omega arith)) (can.works 0 root refl))
  where
    both : {x y z : ℕ} → x ≤ y → y ≤ z → x ≤ z
    both e f = omega arith
