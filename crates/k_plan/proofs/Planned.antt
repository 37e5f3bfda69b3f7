-- The contexts that are taken and have none above them that is are a plan.
use Rattle.std.proofs.Common.{◌≡◌, ℕ, zero, suc, ◌+◌, ◌<◌, ◌≤◌, ◌⊎◌, inl, inr, Bool, true, false, not, ◌&&◌, ◌||◌, List, [], ◌∷◌, ◌++◌, length, Option, Some, None, slice_get, refl, sym, ap, ◌∙◌, subst, arith, if◌then◌else◌, leb, length-append, append_assoc}
use Rattle.std.specs.Prelude.{◌==◌}
use Rattle.std.proofs.lemmas.Bool.{cases_Bool, cond-true, eq-eqb, eqb-true, and_parts, and_from, and_cases, leb-false, not-true, not_from_false, true≢false, or_left}
use Rattle.std.proofs.lemmas.Option.{slice_get_within, none-some, same_Some}
use Rattle.k_selfpar.specs.declared.context.Context.{Context}
use Rattle.k_plan.specs.declared.limits.Limits.{Limits}
use Rattle.k_plan.specs.Best.{best, best_below, best_choice, given, taken, takes, takes_some}
use Rattle.k_plan.specs.Choices.{Choice, IsAbove, IsChoice, IsPassing, total}
use Rattle.k_selfpar.specs.Contexts.{root_work}
use Rattle.k_plan.specs.Plan.{CanPlan, IsPlan}
use Rattle.k_plan.specs.Saving.{passes, saving}
use Rattle.k_plan.proofs.Above.{AreBehind, are_behind, covered, covered_from_above, covers}
use Rattle.k_plan.proofs.Attained.{attained, part_below, saved_below, total_of_best}
use Rattle.k_plan.proofs.Bounded.{best_at_root, total_at_most}
use Rattle.k_plan.proofs.Marks.{Marked, all_marked, cut_at, marked_behind, marked_part}
use Rattle.k_plan.proofs.Totals.{given_is_saved, sums}

module _ (limits : Limits) (contexts : List Context) (behind : AreBehind contexts) where
  abbrev t : ℕ → Bool
  t = taken limits contexts

  abbrev cov : ℕ → Bool
  cov = covered (taken limits contexts) contexts

  -- a context that is taken is a loop that passes
  taken_passes : (k : ℕ) → t k ≡ true → IsPassing limits contexts k
  taken_passes k is = by (slice_get contexts k) refl is
    where
      by : (o : Option Context) → slice_get contexts k ≡ o → takes_some limits (root_work contexts) (best_below limits contexts k) o ≡ true
          → IsPassing limits contexts k
      by None at h = absurd (true≢false (sym h))
      by (Some c) at h = (c, at, (and_parts (passes limits (root_work contexts) c) (leb (best_below limits contexts k) (saving c)) h).0)

  -- they are a choice
  pub best_is_choice : IsChoice limits contexts (best_choice limits contexts)
  best_is_choice = record {
    passing = λ k h. taken_passes k (and_parts (t k) (not (cov k)) h).0;
    apart = λ a k one other up.
        true≢false (sym (covered_from_above t contexts behind a k up (and_parts (t a) (not (cov a)) one).0) ∙ not-true (cov k) (and_parts (t k) (not (cov k)) other).1);
  }

  -- those of them that are below one context are a choice of contexts below it
  part_is_choice : (top : ℕ) → IsChoice limits contexts (part_below limits contexts behind (best_choice limits contexts) top)
  part_is_choice top =
      let is : IsChoice limits contexts (best_choice limits contexts) = best_is_choice in
      record {
        passing = λ k h. is.passing k (of_best k h);
        apart = λ a k one other up. is.apart a k (of_best a one) (of_best k other) up;
      }
    where
      of_best : (k : ℕ) → (best_choice limits contexts k && covered (λ a. a == top) contexts k) ≡ true → best_choice limits contexts k ≡ true
      of_best k h = (and_parts (best_choice limits contexts k) (covered (λ a. a == top) contexts k) h).0

  part_is_below : (top k : ℕ) → part_below limits contexts behind (best_choice limits contexts) top k ≡ true → IsAbove contexts top k
  part_is_below top k h =
      let parts = and_parts (best_choice limits contexts k) (covered (λ a. a == top) contexts k) h in
      let is : IsChoice limits contexts (best_choice limits contexts) = best_is_choice in
      let place = is.passing k parts.0 in
      let found = covers (λ a. a == top) contexts behind k k (omega arith) (slice_get_within contexts k place.0 place.1) parts.1 in
      subst (λ a. IsAbove contexts a k) (eqb-true found.0 top found.2) found.1

  -- a loop that passes, with no pick above it, and below which no choice saves more, is a pick
  module _ (before more : List Context) (k : ℕ) (c : Context) (cut : contexts ≡ (before ++ c ∷ []) ++ more) (place : length before ≡ k)
      (marked : Marked limits contexts (k + 1) more)
      (its : t k ≡ takes limits (root_work contexts) c (given (λ _. best limits (root_work contexts)) more (k + 1) k))
      (pass : passes limits (root_work contexts) c ≡ true) where
    -- a loop that passes and isn't taken saves less than some choice below it
    not_taken : t k ≡ false → cov k ≡ false
        → ((below : Choice) → IsChoice limits contexts below → ((b : ℕ) → below b ≡ true → IsAbove contexts k b) → total contexts below ≤ saving c) → ⊥
    not_taken out free most =
        let under : ℕ = given (λ _. best limits (root_work contexts)) more (k + 1) k in
        let less : saving c < under = by (and_cases (passes limits (root_work contexts) c) (leb under (saving c)) (sym its ∙ out)) in
        let part : Choice = part_below limits contexts behind (best_choice limits contexts) k in
        let is_more : given (sums part) more (k + 1) k ≤ total contexts part =
        subst (λ l. given (sums part) more (k + 1) k ≤ total l part) (sym cut)
        (given_is_saved part (before ++ c ∷ []) more (k + 1) k count (omega arith) (marked_behind limits contexts (k + 1) more marked)) in
        let same : given (sums part) more (k + 1) k ≡ under =
        saved_below limits contexts behind (best_choice limits contexts) k more (k + 1) k (omega arith) marked
        ∙ cond-true ((k == k) || covered (λ b. b == k) contexts k) (given (sums (best_choice limits contexts)) more (k + 1) k) 0
        (or_left (k == k) (covered (λ b. b == k) contexts k) (eq-eqb k k refl))
        ∙ attained limits contexts behind more (k + 1) k marked
        ∙ ap (λ b. if b || cov k then 0 else under) out
        ∙ ap (λ b. if b then 0 else under) free in
        let at_most : total contexts part ≤ saving c = most part (part_is_choice k) (part_is_below k) in
        contradiction (given (sums part) more (k + 1) k) (total contexts part) under (saving c) less is_more same at_most
      where
        by : (passes limits (root_work contexts) c ≡ false) ⊎ (leb (given (λ _. best limits (root_work contexts)) more (k + 1) k) (saving c) ≡ false)
            → saving c < given (λ _. best limits (root_work contexts)) more (k + 1) k
        by (inl fails) = absurd (true≢false (sym pass ∙ fails))
        by (inr h) = leb-false (given (λ _. best limits (root_work contexts)) more (k + 1) k) (saving c) h

        count : k + 1 ≡ length (before ++ c ∷ [])
        count = let e = length-append before (c ∷ []) in omega arith

        contradiction : (g t u s : ℕ) → s < u → g ≤ t → g ≡ u → t ≤ s → ⊥
        contradiction g t u s lt le e most = omega arith

    tie_here : ((a : ℕ) → best_choice limits contexts a ≡ true → ¬ IsAbove contexts a k)
        → ((below : Choice) → IsChoice limits contexts below → ((b : ℕ) → below b ≡ true → IsAbove contexts k b) → total contexts below ≤ saving c)
        → slice_get contexts k ≡ Some c → best_choice limits contexts k ≡ true
    tie_here alone most at = elim (cases_Bool (cov k)) [
      | inl up ↦
          let found = covers t contexts behind k k (omega arith) (slice_get_within contexts k c at) up in
          absurd (alone found.0 (and_from (t found.0) (not (cov found.0)) found.2 (not_from_false (cov found.0) found.3)) found.1)
      | inr free ↦ elim (cases_Bool (t k)) [
        | inl yes_taken ↦ and_from (t k) (not (cov k)) yes_taken (not_from_false (cov k) free)
        | inr out ↦ absurd (not_taken out free most)
      ]
    ]

join : (before more : List Context) (c : Context) → before ++ c ∷ more ≡ (before ++ c ∷ []) ++ more
join before more c = sym (append_assoc before (c ∷ []) more)

-- the tie rule at a context, wherever it stands
tie_at : (limits : Limits) (root : Context) (inner : List Context) → CanPlan (root ∷ inner) → (k : ℕ) (c : Context) → slice_get (root ∷ inner) k ≡ Some c
    → passes limits root.work c ≡ true → ((a : ℕ) → best_choice limits (root ∷ inner) a ≡ true → ¬ IsAbove (root ∷ inner) a k)
    → ((below : Choice) → IsChoice limits (root ∷ inner) below → ((b : ℕ) → below b ≡ true → IsAbove (root ∷ inner) k b) → total (root ∷ inner) below ≤ saving c)
    → best_choice limits (root ∷ inner) k ≡ true
tie_at limits root inner can zero c at pass alone most =
    tie_here limits (root ∷ inner) (are_behind (root ∷ inner) can.parents) [] inner 0 root refl refl (all_marked limits root inner can.parents) refl
    (subst (λ d. passes limits root.work d ≡ true) (sym (same_Some root c at)) pass) alone
    (λ below is lower. subst (λ d. total (root ∷ inner) below ≤ saving d) (sym (same_Some root c at)) (most below is lower)) refl
tie_at limits root inner can (suc k) c at pass alone most =
    let found = cut_at inner k c at in
    let count : length found.0 ≡ k = found.3 in
    let marked = all_marked limits root inner can.parents in
    let here : Marked limits (root ∷ inner) (suc k) (c ∷ found.1) =
    marked_part limits (root ∷ inner) found.0 (c ∷ found.1) 1 (suc k) (omega arith) (subst (λ l. Marked limits (root ∷ inner) 1 l) found.2 marked) in
    tie_here limits (root ∷ inner) (are_behind (root ∷ inner) can.parents) (root ∷ found.0) found.1 (suc k) c
    (ap (λ l. root ∷ l) (found.2 ∙ join found.0 found.1 c)) (ap suc count) here.1 here.0.its pass alone most at

pub best_is_plan : (limits : Limits) (contexts : List Context) → CanPlan contexts → IsPlan limits contexts (best_choice limits contexts)
best_is_plan limits [] can = record {
  choice = best_is_choice limits [] (are_behind [] tt);
  greatest = λ other is. omega arith;
  tie = λ k c at pass alone most. absurd (none-some c at);
}
best_is_plan limits (root ∷ inner) can = record {
  choice = best_is_choice limits (root ∷ inner) (are_behind (root ∷ inner) can.parents);
  greatest = λ other is. subst (λ t. total (root ∷ inner) other ≤ t) (sym (total_of_best limits root inner can)) (total_at_most limits root inner other can is);
  tie = tie_at limits root inner can;
}

-- no choice saves more than the root's work
pub saves_at_most_the_work : (limits : Limits) (contexts : List Context) (choice : Choice) → CanPlan contexts → IsChoice limits contexts choice
    → total contexts choice ≤ root_work contexts
saves_at_most_the_work limits [] choice can is = omega arith
saves_at_most_the_work limits (root ∷ inner) choice can is = through (total_at_most limits root inner choice can is) (best_at_root limits root inner can)
  where
    through : {x y z : ℕ} → x ≤ y → y ≤ z → x ≤ z
    through e f = omega arith
