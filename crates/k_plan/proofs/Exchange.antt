-- There is no other plan: a loop of one plan can be exchanged for what another choice picks below it.
use Rattle.std.proofs.Common.{◌≡◌, ℕ, zero, suc, ◌+◌, ◌<◌, ◌≤◌, ◌⊎◌, inl, inr, Bool, true, false, not, ◌&&◌, ◌||◌, List, [], ◌∷◌, Some, slice_get, refl, sym, ap, ◌∙◌, subst, arith, if◌then◌else◌}
use Rattle.std.specs.Prelude.{◌==◌}
use Rattle.std.proofs.lemmas.Bool.{eq-eqb, eqb-true, ne_eqb, and_parts, or_cases, not-true, true≢false}
use Rattle.std.proofs.lemmas.Option.{none-some, same_Some}
use Rattle.k_plan.specs.declared.advice.Advice.{Advice}
use Rattle.k_selfpar.specs.declared.context.Context.{Context}
use Rattle.k_plan.specs.declared.limits.Limits.{Limits}
use Rattle.k_plan.specs.Choices.{Choice, IsAbove, IsChoice, total, total_from}
use Rattle.k_plan.specs.Plan.{CanPlan, IsAdvice, IsPlan, picks_from}
use Rattle.k_plan.specs.Saving.{saving}
use Rattle.k_plan.proofs.Above.{AreBehind, are_behind, above_before, above_goes_on, above_in_line}
use Rattle.k_plan.proofs.Totals.{totals_add}

-- one context alone
abbrev only : ℕ → ℕ → Bool
only n k = k == n

only_before : (n : ℕ) (contexts : List Context) (k : ℕ) → n < k → total_from k (only n) contexts ≡ 0
only_before n [] k lt = refl
only_before n (c ∷ contexts) k lt =
    ap (λ b. (if b then saving c else 0) + total_from (k + 1) (only n) contexts) (ne_eqb k n (λ e. absurd (omega arith)))
    ∙ zero_before (total_from (k + 1) (only n) contexts) (only_before n contexts (k + 1) (omega arith))
  where
    zero_before : (x : ℕ) → x ≡ 0 → 0 + x ≡ 0
    zero_before x e = omega arith

-- what it saves
only_saves : (n : ℕ) (contexts : List Context) (k m : ℕ) (c : Context) → n ≡ k + m → slice_get contexts m ≡ Some c → total_from k (only n) contexts ≡ saving c
only_saves n [] k m c is at = absurd (none-some c at)
only_saves n (d ∷ contexts) k zero c is at =
    ap (λ b. (if b then saving d else 0) + total_from (k + 1) (only n) contexts) (eq-eqb k n (omega arith))
    ∙ alone (saving d) (total_from (k + 1) (only n) contexts) (only_before n contexts (k + 1) (omega arith))
    ∙ ap saving (same_Some d c at)
  where
    alone : (s x : ℕ) → x ≡ 0 → s + x ≡ s
    alone s x e = omega arith
only_saves n (d ∷ contexts) k (suc m) c is at =
    ap (λ b. (if b then saving d else 0) + total_from (k + 1) (only n) contexts) (ne_eqb k n (λ e. absurd (omega arith)))
    ∙ zero_before (total_from (k + 1) (only n) contexts)
    ∙ only_saves n contexts (k + 1) m c (omega arith) at
  where
    zero_before : (x : ℕ) → 0 + x ≡ x
    zero_before x = omega arith

-- a set without one context and with another set's
abbrev swapped : Choice → Choice → ℕ → ℕ → Bool
swapped one other n k = (one k && not (k == n)) || other k

swap_saved : (p o e : Bool) (v : ℕ) → (e ≡ true → p ≡ true) → (p ≡ true → o ≡ true → ⊥)
    → (if (p && not e) || o then v else 0) + (if e then v else 0) ≡ (if p then v else 0) + (if o then v else 0)
swap_saved true true e v has apart = absurd (apart refl refl)
swap_saved true false true v has apart = omega arith
swap_saved true false false v has apart = refl
swap_saved false o true v has apart = absurd (true≢false (sym (has refl)))
swap_saved false true false v has apart = omega arith
swap_saved false false false v has apart = refl

module _ (limits : Limits) (contexts : List Context) (behind : AreBehind contexts) where
  module _ (plan other : Choice) (n : ℕ) (is : IsChoice limits contexts plan) (also : IsChoice limits contexts other) (picked : plan n ≡ true)
      (below : (k : ℕ) → other k ≡ true → IsAbove contexts n k) where
    -- a context of the swapped set: of the plan, but not the one, or below the one
    swapped_cases : (k : ℕ) → swapped plan other n k ≡ true → ((plan k ≡ true) × (k ≡ n → ⊥)) ⊎ (other k ≡ true)
    swapped_cases k h = elim (or_cases (plan k && not (k == n)) (other k) h) [
      | inl kept ↦
          let parts = and_parts (plan k) (not (k == n)) kept in
          inl (parts.0, λ e. true≢false (sym (eq-eqb k n e) ∙ not-true (k == n) parts.1))
      | inr put ↦ inr put
    ]

    swapped_apart : (a k : ℕ) → ((plan a ≡ true) × (a ≡ n → ⊥)) ⊎ (other a ≡ true) → ((plan k ≡ true) × (k ≡ n → ⊥)) ⊎ (other k ≡ true) → IsAbove contexts a k → ⊥
    swapped_apart a k (inl one) (inl two) up = is.apart a k one.0 two.0 up
    swapped_apart a k (inr one) (inr two) up = also.apart a k one two up
    swapped_apart a k (inr one) (inl two) up = is.apart n k picked two.0 (above_goes_on contexts n a k (below a one) up)
    swapped_apart a k (inl one) (inr two) up = elim (above_in_line contexts a n k up (below k two)) [
      | inl same ↦ one.1 same
      | inr line ↦ elim line [
        | inl higher ↦ is.apart a n one.0 picked higher
        | inr lower ↦ is.apart n a picked one.0 lower
      ]
    ]

    swapped_is_choice : IsChoice limits contexts (swapped plan other n)
    swapped_is_choice = record {
      passing = λ k h. elim (swapped_cases k h) [ inl kept ↦ is.passing k kept.0 | inr put ↦ also.passing k put ];
      apart = λ a k one two up. swapped_apart a k (swapped_cases a one) (swapped_cases k two) up;
    }

    swapped_saves : total contexts (swapped plan other n) + total contexts (only n) ≡ total contexts plan + total contexts other
    swapped_saves =
        totals_add (swapped plan other n) (only n) plan other contexts 0 (λ k c. swap_saved (plan k) (other k) (k == n) (saving c)
        (λ e. subst (λ m. plan m ≡ true) (sym (eqb-true k n e)) picked) (λ one two. is.apart n k picked one (below k two)))

  -- below a loop of a plan no choice saves more than it does
  nothing_better : (plan other : Choice) (n : ℕ) (c : Context) → IsPlan limits contexts plan → IsChoice limits contexts other → plan n ≡ true
      → slice_get contexts n ≡ Some c → ((k : ℕ) → other k ≡ true → IsAbove contexts n k) → total contexts other ≤ saving c
  nothing_better plan other n c is also picked at below =
      compare (total contexts (swapped plan other n)) (total contexts (only n)) (total contexts plan) (total contexts other) (saving c)
      (swapped_saves plan other n is.choice also picked below) (only_saves n contexts 0 n c (omega arith) at)
      (is.greatest (swapped plan other n) (swapped_is_choice plan other n is.choice also picked below))
    where
      compare : (a b p o s : ℕ) → a + b ≡ p + o → b ≡ s → a ≤ p → o ≤ s
      compare a b p o s e f le = omega arith

  -- a loop of one plan is a loop of another, where the plans agree on the contexts before it
  goes_over : (one other : Choice) → IsPlan limits contexts one → IsPlan limits contexts other → (n : ℕ) → ((k : ℕ) → k < n → one k ≡ other k)
      → one n ≡ true → other n ≡ true
  goes_over one other is also n before picked =
      let found = is.choice.passing n picked in
      also.tie n found.0 found.1 found.2
      (λ a chosen up. is.choice.apart a n (before a (above_before contexts behind a n up) ∙ chosen) picked up)
      (λ set choice below. nothing_better one set n found.0 is choice picked found.1 below)

  both_true : (x y : Bool) → (x ≡ true → y ≡ true) → (y ≡ true → x ≡ true) → x ≡ y
  both_true true y one two = sym (one refl)
  both_true false true one two = two refl
  both_true false false one two = refl

  agree_below : (one other : Choice) → IsPlan limits contexts one → IsPlan limits contexts other → (n k : ℕ) → k < n → one k ≡ other k
  agree_below one other is also zero k lt = absurd (omega arith)
  agree_below one other is also (suc n) k lt =
      let before : (j : ℕ) → j < k → one j ≡ other j = λ j less. agree_below one other is also n j (omega arith) in
      both_true (one k) (other k) (goes_over one other is also k before) (goes_over other one also is k (λ j less. sym (before j less)))

  plans_agree : (one other : Choice) → IsPlan limits contexts one → IsPlan limits contexts other → (k : ℕ) → one k ≡ other k
  plans_agree one other is also k = agree_below one other is also (suc k) k (omega arith)

pub plan_is_unique : (limits : Limits) (contexts : List Context) (one other : Choice) → CanPlan contexts → IsPlan limits contexts one → IsPlan limits contexts other
    → (k : ℕ) → one k ≡ other k
plan_is_unique limits contexts one other can is also k = plans_agree limits contexts (are_behind contexts can.parents) one other is also k

pub advice_is_unique : (limits : Limits) (contexts : List Context) (one other : Advice) → CanPlan contexts → IsAdvice limits contexts one → IsAdvice limits contexts other
    → one ≡ other
advice_is_unique limits contexts one other can is also =
    let same : (k : ℕ) → is.plan k ≡ also.plan k = plan_is_unique limits contexts is.plan also.plan can is.is_plan also.is_plan in
    let plans : is.plan ≡ also.plan = λ i k. same k i in
    let picks : one.picks ≡ other.picks = is.picks ∙ ap (λ p. picks_from 0 p contexts) plans ∙ sym also.picks in
    let totals : one.total ≡ other.total = is.total ∙ ap (λ p. total contexts p) plans ∙ sym also.total in
    λ i. record { picks = picks i; total = totals i }
