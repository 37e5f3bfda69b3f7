-- The best totals so far, from the last context on.
use Rattle.std.proofs.Common.{◌≡◌, ℕ, suc, ◌+◌, ◌<◌, ◌≤◌, ◌^◌, inl, inr, List, [], ◌∷◌, ◌++◌, length, Some, slice_get, get_or, length-append, refl, sym, ap, ◌∙◌, subst, arith, append_assoc}
use Rattle.std.specs.Prelude.{replicate}
use Rattle.std.proofs.Math.ListN.{set}
use Rattle.std.proofs.lemmas.Bool.{cases_eq}
use Rattle.std.proofs.lemmas.List.{append-nil, get_or-set_same, get_or-set_other, length-set, get_or-replicate, length-replicate}
use Rattle.k_selfpar.specs.declared.context.Context.{Context}
use Rattle.k_plan.specs.declared.limits.Limits.{Limits}
use Rattle.k_plan.specs.Best.{AreBest, CanSum, best, given}
use Rattle.k_plan.specs.Plan.{StandBehindParents}
use Rattle.k_plan.proofs.Given.{given_child, given_other, given_part}

-- the contexts behind the first `rest` of them have given what they give
pub record Summed (limits : Limits) (root : ℕ) (inner rest : List Context) (below : List ℕ) : Type 0 where
  pub later : List Context
  pub parts : inner ≡ rest ++ later
  pub count : length below ≡ length inner + 1
  pub totals : (a : ℕ) → a < length inner + 1 → get_or below a 0 ≡ given (λ _. best limits root) later (length rest + 1) a

pub none_summed : (limits : Limits) (root : ℕ) (inner : List Context) (below : List ℕ) → below ≡ replicate (length inner + 1) 0 → Summed limits root inner inner below
none_summed limits root inner below is = record {
  later = [];
  parts = sym (append-nil inner);
  count = ap length is ∙ length-replicate (length inner + 1) 0;
  totals = λ a lt. ap (λ l. get_or l a 0) is ∙ get_or-replicate (length inner + 1) a 0 0 lt;
}

-- a list without items is empty
pub empty : {A : Type 0} (list : List A) → length list ≡ 0 → list ≡ []
empty [] none = refl
empty (x ∷ list) none = absurd (omega arith)

pub all_summed : (limits : Limits) (root : ℕ) (inner rest : List Context) (below : List ℕ) → rest ≡ [] → Summed limits root inner rest below
    → AreBest limits root inner below
all_summed limits root inner rest below is h = record {
  count = h.count;
  totals = λ a lt.
      h.totals a lt
      ∙ ap (λ (l : List Context). given (λ _. best limits root) h.later (length l + 1) a) is
      ∙ ap (λ l. given (λ _. best limits root) l 1 a) (sym (h.parts ∙ ap (λ l. l ++ h.later) is));
}

parent_before : (before later : List Context) (c : Context) (k : ℕ) → StandBehindParents k (before ++ c ∷ later) → c.parent < k + length before
parent_before [] later c k stand = let h : c.parent < k = stand.0 in omega arith
parent_before (b ∷ before) later c k stand = let h : c.parent < (k + 1) + length before = parent_before before later c (k + 1) stand.1 in omega arith

pub place_behind : (before later : List Context) (c : Context) → slice_get (before ++ c ∷ later) (length before) ≡ Some c
place_behind [] later c = refl
place_behind (b ∷ before) later c = place_behind before later c

module _ (limits : Limits) (root : ℕ) (inner rest before : List Context) (c : Context) (below : List ℕ) (h : Summed limits root inner rest below)
    (last : rest ≡ before ++ c ∷ []) (sum : CanSum limits root inner) where
  whole : inner ≡ before ++ c ∷ h.later
  whole = h.parts ∙ ap (λ l. l ++ h.later) last ∙ append_assoc before (c ∷ []) h.later

  length_rest : length rest ≡ length before + 1
  length_rest = ap length last ∙ length-append before (c ∷ [])

  length_inner : length inner ≡ length before + length (c ∷ h.later)
  length_inner = ap length whole ∙ length-append before (c ∷ h.later)

  number_within : length before + 1 < length below
  number_within = let e = length_inner in let count = h.count in let n : length (c ∷ h.later) ≡ suc (length h.later) = refl in omega arith

  parent_within : c.parent < length before + 1
  parent_within = let e = parent_before before h.later c 1 (subst (λ l. StandBehindParents 1 l) whole sum.parents) in omega arith

  pub parent_in_below : c.parent < length below
  parent_in_below = let number = number_within in let parent = parent_within in omega arith

  pub work_small : c.work < 2 ^ 50
  work_small = sum.small (length before) c (subst (λ l. slice_get l (length before) ≡ Some c) (sym whole) (place_behind before h.later c))

  -- what the contexts behind this one give to it and to those before it
  below_is : (a : ℕ) → a < length inner + 1 → get_or below a 0 ≡ given (λ _. best limits root) h.later ((length before + 1) + 1) a
  below_is a lt = h.totals a lt ∙ ap (λ n. given (λ _. best limits root) h.later (n + 1) a) length_rest

  module _ (total : ℕ) (is : total ≡ best limits root c (get_or below (length before + 1) 0)) where
    given_now : (a : ℕ) → a ≡ c.parent → given (λ _. best limits root) (c ∷ h.later) (length before + 1) a ≡ get_or below c.parent 0 + total
    given_now a same =
        let count = h.count in let in_number = number_within in let in_parent = parent_within in
        given_child (λ _. best limits root) c h.later (length before + 1) a (sym same)
        ∙ sums_up _ _ _ _
        (is ∙ ap (best limits root c) (below_is (length before + 1) (omega arith)))
        (ap (λ n. get_or below n 0) (sym same) ∙ below_is a (omega arith))
      where
        sums_up : (v g t b : ℕ) → t ≡ v → b ≡ g → v + g ≡ b + t
        sums_up v g t b e f = omega arith

    pub sum_fits : get_or below c.parent 0 + total < 2 ^ 64
    sum_fits =
        let count = h.count in let in_number = number_within in let in_parent = parent_within in
        fits _ _ _ (given_now c.parent refl)
        (subst (λ l. given (λ _. best limits root) (c ∷ h.later) (length before + 1) c.parent ≤ given (λ _. best limits root) l 1 c.parent) (sym whole)
        (given_part (λ _. best limits root) before (c ∷ h.later) 1 (length before + 1) c.parent (omega arith)))
        (sum.fits c.parent (omega arith))
      where
        fits : (g s w : ℕ) → g ≡ s → g ≤ w → w < 2 ^ 64 → s < 2 ^ 64
        fits g s w e le lt = omega arith

    pub more_summed : (new : List ℕ) → new ≡ set below c.parent (get_or below c.parent 0 + total) → Summed limits root inner before new
    more_summed new put = record {
      later = c ∷ h.later;
      parts = whole;
      count = ap length put ∙ length-set below c.parent (get_or below c.parent 0 + total) ∙ h.count;
      totals = λ a lt. elim (cases_eq c.parent a) [
        | inl same ↦
            let count = h.count in let in_number = number_within in let in_parent = parent_within in
            let within : c.parent < length below = omega arith in
            ap (λ l. get_or l a 0) put
            ∙ ap (λ n. get_or (set below n (get_or below c.parent 0 + total)) a 0) same
            ∙ get_or-set_same below a (get_or below c.parent 0 + total) 0 (subst (λ n. n < length below) same within)
            ∙ sym (given_now a (sym same))
        | inr other ↦
            ap (λ l. get_or l a 0) put
            ∙ get_or-set_other below c.parent a (get_or below c.parent 0 + total) 0 (λ e. other (sym e))
            ∙ below_is a lt
            ∙ sym (given_other (λ _. best limits root) c h.later (length before + 1) a other)
      ];
    }
