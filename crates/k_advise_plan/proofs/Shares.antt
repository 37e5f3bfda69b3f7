-- What is saved of shared work: the more, the more there is of it, the more share it, and the lower the price.
use Rattle.std.proofs.Common.{◌≡◌, ℕ, zero, suc, ◌+◌, ◌-◌, ◌*◌, ◌<◌, ◌≤◌, inl, inr, Bool, true, false, refl, sym, ap, ◌∙◌, subst, arith, if◌then◌else◌, leb, ltb}
use Rattle.std.proofs.Math.Nat.{mul-le-mul_left, mul-le-mul_right, le_of_mul-le-mul_right}
use Rattle.std.proofs.lemmas.Bool.{cases_Bool, cond-true, cond-false, leb-true, leb-false, ltb-false, le-ltb, lt-leb}
use Rattle.std.specs.Int.{div_ceil}
use Rattle.k_plan.proofs.Rounding.{rounds_up}
use Rattle.k_selfpar.specs.declared.context.Context.{Context}
use Rattle.k_plan.specs.Saving.{saving}
use Rattle.k_advise_plan.specs.declared.team.Team.{Team}
use Rattle.k_advise_plan.specs.Laws.{IsOuter, team_of}
use Rattle.k_advise_plan.specs.Saving.{lesser, saved_by, threaded_saving}

positive : (a n b : ℕ) → a < n * b → 0 < b
positive a n zero lt = absurd (omega arith)
positive a n (suc b) lt = omega arith

-- the lesser of a number and a ratio has a denominator
pub lesser_divides : (n : ℕ) (ratio : ℕ × ℕ) → 0 < (lesser n ratio).1
lesser_divides n ratio = by (leb (n * ratio.1) ratio.0) refl
  where
    by : (b : Bool) → leb (n * ratio.1) ratio.0 ≡ b → 0 < (if b then (n, 1) else ratio).1
    by true is = omega arith
    by false is = positive ratio.0 n ratio.1 (leb-false (n * ratio.1) ratio.0 is)

-- one ratio is no greater than another
abbrev NoGreater : ℕ × ℕ → ℕ × ℕ → Type 0
NoGreater r q = r.0 * q.1 ≤ q.0 * r.1

-- of a greater number the lesser is no less
lesser_grows : (n m : ℕ) (ratio : ℕ × ℕ) → n ≤ m → NoGreater (lesser n ratio) (lesser m ratio)
lesser_grows n m ratio le = by (leb (n * ratio.1) ratio.0) (leb (m * ratio.1) ratio.0) refl refl
  where
    over : (a b : ℕ) → n * b ≤ m * b → a < n * b → m * b ≤ a → ⊥
    over a b grows lt most = omega arith

    by : (b d : Bool) → leb (n * ratio.1) ratio.0 ≡ b → leb (m * ratio.1) ratio.0 ≡ d
        → NoGreater (if b then (n, 1) else ratio) (if d then (m, 1) else ratio)
    by true true is also = omega arith
    by true false is also = let h : n * ratio.1 ≤ ratio.0 = leb-true (n * ratio.1) ratio.0 is in omega arith
    by false true is also =
        absurd (over ratio.0 ratio.1 (mul-le-mul_right ratio.1 le) (leb-false (n * ratio.1) ratio.0 is) (leb-true (m * ratio.1) ratio.0 also))
    by false false is also = omega arith

-- some work leaves some share
pub share_some : (work num den : ℕ) → 0 < work → 0 < den → den ≤ num → 0 < div_ceil (work * den) num
share_some work num den some div le = by (div_ceil (work * den) num) refl
  where
    by : (d : ℕ) → div_ceil (work * den) num ≡ d → 0 < d
    by zero is =
        let none : div_ceil (work * den) num ≤ 0 = omega arith in
        let all : work * den ≤ 0 * num = (rounds_up (work * den) num 0 (omega arith)).0 none in
        let one : 1 * den ≤ work * den = mul-le-mul_right den some in
        absurd (omega arith)
    by (suc d) is = omega arith

-- a greater ratio leaves no greater share
less_share : (work : ℕ) (r q : ℕ × ℕ) → 0 < r.1 → 0 < r.0 → 0 < q.0 → NoGreater r q → div_ceil (work * q.1) q.0 ≤ div_ceil (work * r.1) r.0
less_share work r q div some also grows =
    (rounds_up (work * q.1) q.0 (div_ceil (work * r.1) r.0) also).1
    (le_of_mul-le-mul_right (joined (div_ceil (work * r.1) r.0) ((rounds_up (work * r.1) r.0 (div_ceil (work * r.1) r.0) some).0 (omega arith))) div)
  where
    joined : (n : ℕ) → work * r.1 ≤ n * r.0 → (work * q.1) * r.1 ≤ (n * q.0) * r.1
    joined n le =
        let one : (work * r.1) * q.1 ≤ (n * r.0) * q.1 = mul-le-mul_right q.1 le in
        let two : n * (r.0 * q.1) ≤ n * (q.0 * r.1) = mul-le-mul_left n grows in
        grind arith

-- of more work no less is left over
more_gained : (work more : ℕ) (r : ℕ × ℕ) → 0 < r.1 → r.1 ≤ r.0 → work ≤ more → work - div_ceil (work * r.1) r.0 ≤ more - div_ceil (more * r.1) r.0
more_gained work more r div le grows =
    let n : ℕ = div_ceil (work * r.1) r.0 in
    let share : div_ceil (more * r.1) r.0 ≤ n + (more - work) =
    (rounds_up (more * r.1) r.0 (n + (more - work)) (omega arith)).1
    (joined n (more - work) (omega arith) ((rounds_up (work * r.1) r.0 n (omega arith)).0 (omega arith))) in
    less n (div_ceil (more * r.1) r.0) share
  where
    joined : (n d : ℕ) → more ≡ work + d → work * r.1 ≤ n * r.0 → more * r.1 ≤ (n + d) * r.0
    joined n d is here =
        let there : d * r.1 ≤ d * r.0 = mul-le-mul_left d le in
        subst (λ m. m * r.1 ≤ (n + d) * r.0) (sym is) (grind arith)

    less : (n s : ℕ) → s ≤ n + (more - work) → work - n ≤ more - s
    less n s h = omega arith

-- what is saved where the ratio is 1 or more
saved_of : (r : ℕ × ℕ) (work price : ℕ) → r.1 ≤ r.0 → saved_by r work price ≡ (work - div_ceil (work * r.1) r.0) - price
saved_of r work price le =
    cond-false (ltb r.0 r.1) 0 ((work - div_ceil (work * r.1) r.0) - price) (le-ltb r.0 r.1 le)

-- a greater ratio, more work and a lower price save no less
pub saves_no_less : (r q : ℕ × ℕ) (work more price lower : ℕ) → 0 < r.1 → 0 < q.1 → NoGreater r q → work ≤ more → lower ≤ price
    → saved_by r work price ≤ saved_by q more lower
saves_no_less r q work more price lower div also grows le cheap = elim (cases_Bool (ltb r.0 r.1)) [
  | inl below ↦ nothing (saved_by r work price) (saved_by q more lower) (cond-true (ltb r.0 r.1) 0 ((work - div_ceil (work * r.1) r.0) - price) below)
  | inr fine ↦
      let one : r.1 ≤ r.0 = ltb-false r.0 r.1 fine in
      let two : q.1 ≤ q.0 = le_of_mul-le-mul_right (joined (mul-le-mul_right q.1 one) grows) div in
      through _ _ _ _ _ (saved_of r work price one) (saved_of q more lower two)
      (less_share work r q div (omega arith) (omega arith) grows)
      (more_gained work more q also two le)
]
  where
    nothing : (x y : ℕ) → x ≡ 0 → x ≤ y
    nothing x y e = omega arith

    joined : r.1 * q.1 ≤ r.0 * q.1 → r.0 * q.1 ≤ q.0 * r.1 → q.1 * r.1 ≤ q.0 * r.1
    joined e f = grind arith

    through : (x y n m s : ℕ) → x ≡ (work - n) - price → y ≡ (more - s) - lower → m ≤ n → work - m ≤ more - s → x ≤ y
    through x y n m s e f less gained = omega arith

-- a higher price of something saved leaves less
pub saves_more : (r : ℕ × ℕ) (work more price lower : ℕ) → 0 < r.1 → work ≤ more → lower < price → 0 < saved_by r more lower
    → saved_by r work price < saved_by r more lower
saves_more r work more price lower div le cheap some = elim (cases_Bool (ltb r.0 r.1)) [
  | inl below ↦ absurd (nothing (saved_by r more lower) (cond-true (ltb r.0 r.1) 0 ((more - div_ceil (more * r.1) r.0) - lower) below) some)
  | inr fine ↦
      let one : r.1 ≤ r.0 = ltb-false r.0 r.1 fine in
      less _ _ _ _ (saved_of r work price one) (saved_of r more lower one) (more_gained work more r div one le) some
]
  where
    nothing : (x : ℕ) → x ≡ 0 → 0 < x → ⊥
    nothing x e lt = omega arith

    less : (x y n s : ℕ) → x ≡ (work - n) - price → y ≡ (more - s) - lower → work - n ≤ more - s → 0 < y → x < y
    less x y n s e f gained lt = omega arith

-- no more is saved than there is
pub saves_within : (r : ℕ × ℕ) (work price : ℕ) → saved_by r work price ≤ work
saves_within r work price = by (ltb r.0 r.1)
  where
    by : (b : Bool) → (if b then 0 else (work - div_ceil (work * r.1) r.0) - price) ≤ work
    by true = omega arith
    by false = omega arith

-- and less, where there is some
pub saves_less : (r : ℕ × ℕ) (work price : ℕ) → 0 < r.1 → 0 < work → saved_by r work price < work
saves_less r work price div some = elim (cases_Bool (ltb r.0 r.1)) [
  | inl below ↦ nothing (saved_by r work price) (cond-true (ltb r.0 r.1) 0 ((work - div_ceil (work * r.1) r.0) - price) below)
  | inr fine ↦
      let one : r.1 ≤ r.0 = ltb-false r.0 r.1 fine in
      less (saved_by r work price) (div_ceil (work * r.1) r.0) (saved_of r work price one) (share_some work r.0 r.1 some div one)
]
  where
    nothing : (x : ℕ) → x ≡ 0 → x < work
    nothing x e = omega arith

    less : (x s : ℕ) → x ≡ (work - s) - price → 0 < s → x < work
    less x s e lt = omega arith

same : (r : ℕ × ℕ) → NoGreater r r
same r = omega arith

pub above_is_todays : (threads : ℕ) (c : Context) → c.sp.0 < threads * c.sp.1 → threaded_saving (team_of threads 0) c ≡ saving c
above_is_todays threads c above =
    ap (λ r. saved_by r c.work (c.instances * 0)) (cond-false (leb (threads * c.sp.1) c.sp.0) (threads, 1) c.sp (lt-leb (threads * c.sp.1) c.sp.0 above))
    ∙ free (ltb c.sp.0 c.sp.1) (c.work - div_ceil (c.work * c.sp.1) c.sp.0) (c.instances * 0) (omega arith)
  where
    free : (b : Bool) (gained price : ℕ) → price ≡ 0 → (if b then 0 else gained - price) ≡ (if b then 0 else gained)
    free true gained price e = refl
    free false gained price e = omega arith

pub more_start_saves_no_more : (threads less more : ℕ) (c : Context) → less ≤ more
    → threaded_saving (team_of threads more) c ≤ threaded_saving (team_of threads less) c
more_start_saves_no_more threads less more c le =
    saves_no_less (lesser threads c.sp) (lesser threads c.sp) c.work c.work (c.instances * more) (c.instances * less)
    (lesser_divides threads c.sp) (lesser_divides threads c.sp) (same (lesser threads c.sp)) (omega arith) (mul-le-mul_left c.instances le)

pub more_threads_save_no_less : (fewer more start : ℕ) (c : Context) → fewer ≤ more
    → threaded_saving (team_of fewer start) c ≤ threaded_saving (team_of more start) c
more_threads_save_no_less fewer more start c le =
    saves_no_less (lesser fewer c.sp) (lesser more c.sp) c.work c.work (c.instances * start) (c.instances * start)
    (lesser_divides fewer c.sp) (lesser_divides more c.sp) (lesser_grows fewer more c.sp le) (omega arith) (omega arith)

pub outer_saves_no_less : (team : Team) (outer inner : Context) → IsOuter outer inner → threaded_saving team inner ≤ threaded_saving team outer
outer_saves_no_less team outer inner is =
    subst (λ sp. saved_by (lesser team.threads sp) inner.work (inner.instances * team.start) ≤ threaded_saving team outer) (sym is.sp)
    (saves_no_less (lesser team.threads outer.sp) (lesser team.threads outer.sp) inner.work outer.work (inner.instances * team.start) (outer.instances * team.start)
    (lesser_divides team.threads outer.sp) (lesser_divides team.threads outer.sp) (same (lesser team.threads outer.sp)) is.work
    (mul-le-mul_right team.start is.instances))

pub outer_wins : (team : Team) (outer inner : Context) → IsOuter outer inner → 0 < team.start → outer.instances < inner.instances
    → 0 < threaded_saving team outer → threaded_saving team inner < threaded_saving team outer
outer_wins team outer inner is priced seldom some =
    subst (λ sp. saved_by (lesser team.threads sp) inner.work (inner.instances * team.start) < threaded_saving team outer) (sym is.sp)
    (saves_more (lesser team.threads outer.sp) inner.work outer.work (inner.instances * team.start) (outer.instances * team.start)
    (lesser_divides team.threads outer.sp) is.work (dearer outer.instances inner.instances seldom) some)
  where
    dearer : (n m : ℕ) → n < m → n * team.start < m * team.start
    dearer n m lt = let h : (n + 1) * team.start ≤ m * team.start = mul-le-mul_right team.start (let l : n + 1 ≤ m = omega arith in l) in grind arith
