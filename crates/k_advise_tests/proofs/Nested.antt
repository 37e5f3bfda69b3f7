-- A run of one loop, and of three loops one in the other, has a plan.
use Rattle.std.proofs.Common.{◌≡◌, ℕ, zero, suc, ◌+◌, ◌<◌, ◌≤◌, ◌^◌, List, [], ◌∷◌, ◌++◌, Some, slice_get, sym, ap, ◌∙◌, subst, arith, if◌then◌else◌}
use Rattle.std.specs.Prelude.{◌==◌}
use Rattle.std.proofs.lemmas.Option.{none-some, same_Some}
use Rattle.k_selfpar.specs.declared.context.Context.{Context}
use Rattle.k_plan.specs.Plan.{CanPlan, works_under}

-- what a context gives to another, by its parent
abbrev gives : ℕ → ℕ → ℕ → ℕ
gives k parent work = if parent == k then work else 0

module _ (r a b c d : Context) (of_r : r.parent ≡ 0) (of_a : a.parent ≡ 0) (of_b : b.parent ≡ 0) (of_c : c.parent ≡ 2) (of_d : d.parent ≡ 3)
    (small : r.work < 2 ^ 50) (within : a.work + b.work ≤ r.work) (outer : c.work ≤ b.work) (inner : d.work ≤ c.work) where
  abbrev all : List Context
  all = r ∷ a ∷ b ∷ c ∷ d ∷ []

  abbrev behind : List Context
  behind = a ∷ b ∷ c ∷ d ∷ []

  given : (k : ℕ) → works_under k behind ≡ gives k 0 a.work + (gives k 0 b.work + (gives k 2 c.work + (gives k 3 d.work + 0)))
  given k =
      ap (λ p. gives k p a.work + (gives k b.parent b.work + (gives k c.parent c.work + (gives k d.parent d.work + 0)))) of_a
      ∙ ap (λ p. gives k 0 a.work + (gives k p b.work + (gives k c.parent c.work + (gives k d.parent d.work + 0)))) of_b
      ∙ ap (λ p. gives k 0 a.work + (gives k 0 b.work + (gives k p c.work + (gives k d.parent d.work + 0)))) of_c
      ∙ ap (λ p. gives k 0 a.work + (gives k 0 b.work + (gives k 2 c.work + (gives k p d.work + 0)))) of_d

  small_at : (k : ℕ) (x : Context) → slice_get all k ≡ Some x → x.work < 2 ^ 50
  small_at zero x at = subst (λ (y : Context). y.work < 2 ^ 50) (same_Some r x at) small
  small_at (suc zero) x at = subst (λ (y : Context). y.work < 2 ^ 50) (same_Some a x at) (omega arith)
  small_at (suc (suc zero)) x at = subst (λ (y : Context). y.work < 2 ^ 50) (same_Some b x at) (omega arith)
  small_at (suc (suc (suc zero))) x at = subst (λ (y : Context). y.work < 2 ^ 50) (same_Some c x at) (omega arith)
  small_at (suc (suc (suc (suc zero)))) x at = subst (λ (y : Context). y.work < 2 ^ 50) (same_Some d x at) (omega arith)
  small_at (suc (suc (suc (suc (suc k))))) x at = absurd (none-some x at)

  works_at : (k : ℕ) (x : Context) → slice_get all k ≡ Some x → works_under k behind ≤ x.work
  works_at zero x at = subst (λ (y : Context). works_under 0 behind ≤ y.work) (same_Some r x at) (let e = given 0 in omega arith)
  works_at (suc zero) x at = subst (λ (y : Context). works_under 1 behind ≤ y.work) (same_Some a x at) (let e = given 1 in omega arith)
  works_at (suc (suc zero)) x at = subst (λ (y : Context). works_under 2 behind ≤ y.work) (same_Some b x at) (let e = given 2 in omega arith)
  works_at (suc (suc (suc zero))) x at = subst (λ (y : Context). works_under 3 behind ≤ y.work) (same_Some c x at) (let e = given 3 in omega arith)
  works_at (suc (suc (suc (suc zero)))) x at = subst (λ (y : Context). works_under 4 behind ≤ y.work) (same_Some d x at) (let e = given 4 in omega arith)
  works_at (suc (suc (suc (suc (suc k))))) x at = absurd (none-some x at)

  pub nest_can_plan : CanPlan (r ∷ a ∷ b ∷ c ∷ d ∷ [])
  nest_can_plan = record {
    few = omega arith;
    parents = (of_r, (omega arith, (omega arith, (omega arith, (omega arith, tt)))));
    small = small_at;
    works = works_at;
  }

-- what lists come to that grow by one context each
pushed : (one two three four five six : List Context) (r a b c d : Context) → one ≡ [] → two ≡ one ++ r ∷ [] → three ≡ two ++ a ∷ [] → four ≡ three ++ b ∷ []
    → five ≡ four ++ c ∷ [] → six ≡ five ++ d ∷ [] → six ≡ r ∷ a ∷ b ∷ c ∷ d ∷ []
pushed one two three four five six r a b c d e f g h i j =
    j ∙ ap (λ l. l ++ d ∷ []) (i ∙ ap (λ l. l ++ c ∷ []) (h ∙ ap (λ l. l ++ b ∷ []) (g ∙ ap (λ l. l ++ a ∷ []) (f ∙ ap (λ l. l ++ r ∷ []) e))))

-- works that are sums of numbers of 32 bits
pub record AddUp (run first outer middle inner : ℕ) : Type 0 where
  pub loops : ℕ
  pub inner_small : inner < 0 + 2 ^ 32
  pub own_middle : ℕ
  pub middle_is : middle ≡ inner + own_middle
  pub middle_small : middle < inner + 2 ^ 32
  pub own_outer : ℕ
  pub outer_is : outer ≡ middle + own_outer
  pub outer_small : outer < middle + 2 ^ 32
  pub own_first : ℕ
  pub first_is : first ≡ 0 + own_first
  pub loops_is : loops ≡ outer + own_first
  pub loops_small : loops < outer + 2 ^ 32
  pub own_run : ℕ
  pub run_is : run ≡ loops + own_run
  pub run_small : run < loops + 2 ^ 32

module _ (run first outer middle inner : ℕ) (h : AddUp run first outer middle inner) where
  run_within : run < 2 ^ 50
  run_within = let a = h.inner_small in let b = h.middle_small in let c = h.outer_small in let d = h.loops_small in let e = h.run_small in omega arith

  parts_within : first + outer ≤ run
  parts_within = let a = h.first_is in let b = h.loops_is in let c = h.run_is in omega arith

  middle_within : middle ≤ outer
  middle_within = let a = h.outer_is in omega arith

  inner_within : inner ≤ middle
  inner_within = let a = h.middle_is in omega arith

  pub made_can_plan : (one two three four five six : List Context) (r a b c d : Context) → one ≡ [] → two ≡ one ++ r ∷ [] → three ≡ two ++ a ∷ []
      → four ≡ three ++ b ∷ [] → five ≡ four ++ c ∷ [] → six ≡ five ++ d ∷ []
      → r.parent ≡ 0 → a.parent ≡ 0 → b.parent ≡ 0 → c.parent ≡ 2 → d.parent ≡ 3
      → r.work ≡ run → a.work ≡ first → b.work ≡ outer → c.work ≡ middle → d.work ≡ inner → CanPlan six
  made_can_plan one two three four five six r a b c d e f g k i j of_r of_a of_b of_c of_d r_is a_is b_is c_is d_is =
      subst CanPlan (sym (pushed one two three four five six r a b c d e f g k i j))
      (nest_can_plan r a b c d of_r of_a of_b of_c of_d
      (let w = run_within in omega arith) (let w = parts_within in omega arith) (let w = middle_within in omega arith) (let w = inner_within in omega arith))
