-- Which contexts stand above which.
use Rattle.std.proofs.Common.{◌≡◌, ℕ, zero, suc, ◌+◌, ◌<◌, ◌≤◌, ◌⊎◌, inl, inr, Bool, true, false, ◌||◌, List, [], ◌∷◌, length, Option, Some, None, slice_get, slice_index_or, refl, sym, ap, ◌∙◌, subst, arith, if◌then◌else◌}
use Rattle.std.proofs.lemmas.Bool.{cases_Bool, ne_eqb, or_cases, or_left, or_right, true≢false}
use Rattle.std.proofs.lemmas.Option.{none-some, same_Some, slice_get-get_or}
use Rattle.k_optab.specs.declared.region.RegionKind.TheVariants.{Func}
use Rattle.k_selfpar.specs.declared.context.Context.{Context}
use Rattle.k_plan.specs.Best.{any_above, parent_in}
use Rattle.k_plan.specs.Choices.{IsAbove, next, further}
use Rattle.k_plan.specs.Plan.{ParentsComeFirst, StandBehindParents}

-- each context but the first has its parent before it
abbrev pub AreBehind : List Context → Type 0
AreBehind contexts = (k : ℕ) (c : Context) → 0 < k → slice_get contexts k ≡ Some c → c.parent < k

stand_at : (contexts : List Context) (m k : ℕ) (c : Context) → StandBehindParents m contexts → slice_get contexts k ≡ Some c → c.parent < m + k
stand_at [] m k c stand at = absurd (none-some c at)
stand_at (d ∷ contexts) m zero c stand at =
    let h : d.parent < m = stand.0 in let e : d.parent ≡ c.parent = ap (λ (x : Context). x.parent) (same_Some d c at) in omega arith
stand_at (d ∷ contexts) m (suc k) c stand at = let h : c.parent < (m + 1) + k = stand_at contexts (m + 1) k c stand.1 at in omega arith

pub are_behind : (contexts : List Context) → ParentsComeFirst contexts → AreBehind contexts
are_behind [] first k c some at = absurd (none-some c at)
are_behind (root ∷ contexts) first zero c some at = absurd (omega arith)
are_behind (root ∷ contexts) first (suc k) c some at = let h : c.parent < 1 + k = stand_at contexts 1 k c first.1 at in omega arith

module _ (contexts : List Context) where
  -- standing above goes on
  pub above_goes_on : (a b k : ℕ) → IsAbove contexts a b → IsAbove contexts b k → IsAbove contexts a k
  above_goes_on a _ _ one (next b k c some at is) = further a k c some at (subst (λ n. IsAbove contexts a n) (sym is) one)
  above_goes_on a _ _ one (further b k c some at up) = further a k c some at (above_goes_on a b c.parent one up)

  -- what stands above stands before
  pub above_before : AreBehind contexts → (a k : ℕ) → IsAbove contexts a k → a < k
  above_before behind _ _ (next a k c some at is) = let h : c.parent < k = behind k c some at in omega arith
  above_before behind _ _ (further a k c some at up) =
      let h : c.parent < k = behind k c some at in let u : a < c.parent = above_before behind a c.parent up in omega arith

  -- the parent is the one, or the one stands above it
  pub above_parent : (a k : ℕ) (c : Context) → slice_get contexts k ≡ Some c → IsAbove contexts a k → (c.parent ≡ a) ⊎ IsAbove contexts a c.parent
  above_parent _ _ c here (next a k d some at is) = inl (ap (λ (x : Context). x.parent) (same_Some c d (sym here ∙ at)) ∙ is)
  above_parent _ _ c here (further a k d some at up) =
      inr (subst (λ n. IsAbove contexts a n) (ap (λ (x : Context). x.parent) (same_Some d c (sym at ∙ here))) up)

  -- of two that stand above one, one is the other or stands above it
  pub above_in_line : (a b k : ℕ) → IsAbove contexts a k → IsAbove contexts b k → (a ≡ b) ⊎ (IsAbove contexts a b ⊎ IsAbove contexts b a)
  above_in_line _ b _ (next a k c some at is) other = elim (above_parent b k c at other) [
    | inl same ↦ inl (sym is ∙ same)
    | inr up ↦ inr (inr (subst (λ n. IsAbove contexts b n) is up))
  ]
  above_in_line _ b _ (further a k c some at up) other = elim (above_parent b k c at other) [
    | inl same ↦ inr (inl (subst (λ n. IsAbove contexts a n) same up))
    | inr also ↦ above_in_line a b c.parent up also
  ]

-- the number of the parent of a context that is there
abbrev parent_at : List Context → ℕ → ℕ
parent_at contexts k = parent_in (slice_get contexts k)

parent_is_before : (contexts : List Context) → AreBehind contexts → (k : ℕ) → 0 < k → parent_at contexts k < k
parent_is_before contexts behind k some = by (slice_get contexts k) refl
  where
    by : (o : Option Context) → slice_get contexts k ≡ o → parent_in o < k
    by None at = some
    by (Some c) at = behind k c some at

module _ (test : ℕ → Bool) (contexts : List Context) where
  none_above_first : (steps : ℕ) → any_above test contexts steps 0 ≡ false
  unfolding any_above
  none_above_first zero = refl
  none_above_first (suc steps) = refl

  -- one step up
  one_step : (steps k : ℕ) → 0 < k → any_above test contexts (suc steps) k ≡ (test (parent_at contexts k) || any_above test contexts steps (parent_at contexts k))
  unfolding any_above
  one_step steps k some =
      ap (λ b. if b then false else (test (parent_at contexts k) || any_above test contexts steps (parent_at contexts k)))
      (ne_eqb k 0 (λ e. absurd (omega arith)))

  -- as many steps as a context's number are enough
  enough : AreBehind contexts → (f g k : ℕ) → k ≤ f → k ≤ g → any_above test contexts f k ≡ any_above test contexts g k
  enough behind f g zero one other = none_above_first f ∙ sym (none_above_first g)
  enough behind zero g (suc k) one other = absurd (omega arith)
  enough behind (suc f) zero (suc k) one other = absurd (omega arith)
  enough behind (suc f) (suc g) (suc k) one other =
      let p : ℕ = parent_at contexts (suc k) in let h : p < suc k = parent_is_before contexts behind (suc k) (omega arith) in
      one_step f (suc k) (omega arith)
      ∙ ap (λ b. test p || b) (enough behind f g p (omega arith) (omega arith))
      ∙ sym (one_step g (suc k) (omega arith))

  -- some context above this one passes, or none does
  abbrev pub covered : ℕ → Bool
  covered k = any_above test contexts k k

  pub first_is_free : covered 0 ≡ false
  first_is_free = none_above_first 0

  -- that is so where its parent passes, or one above its parent
  pub covered_by_parent : AreBehind contexts → (k : ℕ) (c : Context) → 0 < k → slice_get contexts k ≡ Some c → covered k ≡ (test c.parent || covered c.parent)
  covered_by_parent behind zero c some at = absurd (omega arith)
  covered_by_parent behind (suc k) c some at =
      let p : ℕ = parent_at contexts (suc k) in let h : p < suc k = parent_is_before contexts behind (suc k) (omega arith) in
      one_step k (suc k) (omega arith)
      ∙ ap (λ b. test p || b) (enough behind k p p (omega arith) (omega arith))
      ∙ ap (λ o. test (parent_in o) || covered (parent_in o)) at

  -- a context is covered by one above it that passes
  pub covered_from_above : AreBehind contexts → (a k : ℕ) → IsAbove contexts a k → test a ≡ true → covered k ≡ true
  covered_from_above behind _ _ (next a k c some at is) passed =
      covered_by_parent behind k c some at ∙ or_left (test c.parent) (covered c.parent) (ap test is ∙ passed)
  covered_from_above behind _ _ (further a k c some at up) passed =
      covered_by_parent behind k c some at ∙ or_right (test c.parent) (covered c.parent) (covered_from_above behind a c.parent up passed)

  -- a covered context has one above it that passes, and the first of these from the top has none above it that does
  pub covers : AreBehind contexts → (steps k : ℕ) → k ≤ steps → k < length contexts → covered k ≡ true
      → (a : ℕ) × IsAbove contexts a k × (test a ≡ true) × (covered a ≡ false)
  covers behind steps zero few within is = absurd (true≢false (sym is ∙ first_is_free))
  covers behind zero (suc k) few within is = absurd (omega arith)
  covers behind (suc steps) (suc k) few within is =
      let c : Context = slice_index_or contexts (suc k) none in
      let at : slice_get contexts (suc k) ≡ Some c = slice_get-get_or contexts (suc k) none within in
      let h : c.parent < suc k = behind (suc k) c (omega arith) at in
      elim (cases_Bool (covered c.parent)) [
        | inl up ↦
            let found = covers behind steps c.parent (omega arith) (omega arith) up in
            (found.0, further found.0 (suc k) c (omega arith) at found.1, found.2, found.3)
        | inr free ↦ (
          c.parent,
          next c.parent (suc k) c (omega arith) at refl,
          by_parent c (sym (covered_by_parent behind (suc k) c (omega arith) at) ∙ is) free,
          free,
        )
      ]
    where
      none : Context
      none = record { parent = 0; region = 0; kind = Func; instances = 0; turns = 0; work = 0; path = 0; sp = (0, 0) }

      by_parent : (c : Context) → (test c.parent || covered c.parent) ≡ true → covered c.parent ≡ false → test c.parent ≡ true
      by_parent c one free = elim (or_cases (test c.parent) (covered c.parent) one) [
        | inl passed ↦ passed
        | inr up ↦ absurd (true≢false (sym up ∙ free))
      ]
