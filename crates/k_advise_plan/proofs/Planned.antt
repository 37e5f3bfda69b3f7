-- There is one plan with a team: contexts can be recast, and what is recast has one plan.
use Rattle.std.proofs.Common.{◌≡◌, ℕ, zero, suc, ◌+◌, ◌-◌, ◌*◌, ◌<◌, ◌≤◌, ◌⊎◌, inl, inr, Bool, true, false, List, [], ◌∷◌, Some, slice_get, refl, sym, ap, ◌∙◌, subst, arith, if◌then◌else◌, ltb}
use Rattle.std.specs.Prelude.{nat_lt}
use Rattle.std.specs.Int.{div_ceil}
use Rattle.std.proofs.Math.Nat.{le_of_mul-le-mul_right, mul-le-mul_left, mul-le-mul_right, mul-pos}
use Rattle.std.proofs.lemmas.Bool.{and_parts, cases_Bool, cond-true, cond-false, ltb-true}
use Rattle.std.proofs.lemmas.Option.{same_Some}
use Rattle.k_optab.specs.declared.region.RegionKind.{RegionKind}
use Rattle.k_optab.specs.declared.region.RegionKind.TheVariants.{Loop, Body}
use Rattle.k_optab.specs.Regions.{is_loop}
use Rattle.k_optab.specs.Tree.{EachWith}
use Rattle.k_selfpar.specs.Contexts.{root_work}
use Rattle.k_selfpar.specs.Ratio.{IsRatio}
use Rattle.k_selfpar.specs.declared.context.Context.{Context}
use Rattle.k_plan.proofs.Exchange.{plan_is_unique}
use Rattle.k_plan.proofs.Planned.{best_is_plan, saves_at_most_the_work}
use Rattle.k_plan.proofs.Rounding.{rounds_up}
use Rattle.k_plan.specs.Best.{best_choice}
use Rattle.k_plan.specs.Choices as choices
use Rattle.k_plan.specs.Choices.{Choice}
use Rattle.k_plan.specs.Plan.{CanPlan}
use Rattle.k_advise_plan.specs.declared.team.Team.{Team}
use Rattle.k_advise_plan.specs.Plan.{IsThreadedChoice, IsThreadedPlan, total, total_from}
use Rattle.k_advise_plan.specs.Recast.{IsRecast}
use Rattle.k_advise_plan.specs.Saving.{lesser, passes, threaded_saving}
use Rattle.k_advise_plan.proofs.Recasting.{can_plan, choice_to, no_limits, plan_from, plan_to, same_root, same_total}
use Rattle.k_advise_plan.proofs.Shares.{lesser_divides, saves_less, saves_within}

-- a self-parallelism of the work over what is left saves what isn't left
pub saved_of_ratio : (work saves num den : ℕ) → saves ≤ work → 0 < num → num * (work - saves) ≡ work * den
    → (if nat_lt num den then 0 else work - div_ceil (work * den) num) ≡ saves
saved_of_ratio work saves num den le some is =
    let left : div_ceil (work * den) num ≡ work - saves = exact (work - saves) (omega arith) in
    by (cases_Bool (ltb num den)) left
  where
    exact : (n : ℕ) → num * n ≡ work * den → div_ceil (work * den) num ≡ n
    exact n e =
        let at_most : div_ceil (work * den) num ≤ n = (rounds_up (work * den) num n some).1 (grind arith) in
        let at_least : n ≤ div_ceil (work * den) num = enough n (div_ceil (work * den) num) e ((rounds_up (work * den) num (div_ceil (work * den) num) some).0 (omega arith)) in
        omega arith
      where
        enough : (m d : ℕ) → num * m ≡ work * den → work * den ≤ d * num → m ≤ d
        enough m d f g =
            let h : m * num ≤ d * num = grind arith in
            le_of_mul-le-mul_right h some

    by : (ltb num den ≡ true) ⊎ (ltb num den ≡ false) → div_ceil (work * den) num ≡ work - saves
        → (if nat_lt num den then 0 else work - div_ceil (work * den) num) ≡ saves
    by (inl less) left =
        let lt : num < den = ltb-true num den less in
        cond-true (ltb num den) 0 (work - div_ceil (work * den) num) less ∙ none (work - saves) (omega arith) lt is
      where
        small : (w m : ℕ) → m ≤ w → num < den → num * m ≡ w * den → w ≡ 0
        small w m under lt e =
            let one : num * m ≤ num * w = mul-le-mul_left num under in
            let two : (num + 1) * w ≤ den * w = mul-le-mul_right w (let l : num + 1 ≤ den = omega arith in l) in
            grind arith

        nothing : (w : ℕ) → w ≡ 0 → saves ≤ w → 0 ≡ saves
        nothing w z l = omega arith

        none : (n : ℕ) → n ≤ work → num < den → num * n ≡ work * den → 0 ≡ saves
        none n under lt e = nothing work (small work n under lt e) le
    by (inr fine) left = cond-false (ltb num den) 0 (work - div_ceil (work * den) num) fine ∙ ap (λ n. work - n) left ∙ back
      where
        back : work - (work - saves) ≡ saves
        back = omega arith

-- so does that ratio in lowest terms
pub saved_of_lowest : (work saves num den : ℕ) → saves ≤ work → (0 < work → saves < work) → IsRatio work (work - saves) num den
    → (if nat_lt num den then 0 else work - div_ceil (work * den) num) ≡ saves
saved_of_lowest work saves num den le less (inl whole) =
    saved_of_ratio work saves num den le (let e : num ≡ 1 = whole.1 in omega arith) (all num den whole.1 whole.2 (nothing whole.0))
  where
    nothing : work - saves ≡ 0 → work ≡ 0
    nothing e = by work refl
      where
        by : (w : ℕ) → work ≡ w → work ≡ 0
        by zero is = is
        by (suc w) is = let lt : saves < work = less (omega arith) in absurd (omega arith)

    all : (n d : ℕ) → n ≡ 1 → d ≡ 1 → work ≡ 0 → n * (work - saves) ≡ work * d
    all n d e f none = subst (λ w. n * (w - saves) ≡ w * d) (sym none) (grind arith)
saved_of_lowest work saves num den le less (inr part) = saved_of_ratio work saves num den le (some num part.2) part.2
  where
    some : (n : ℕ) → n * (work - saves) ≡ work * den → 0 < n
    some zero e =
        let positive : 0 < work * den = mul-pos (let b : 0 < work - saves = part.0 in let w : 0 < work = omega arith in w) part.1 in
        absurd (omega arith)
    some (suc n) e = omega arith

-- the work over what is left of it
abbrev ratio_of : ℕ → ℕ → ℕ × ℕ
ratio_of zero saves = (1, 1)
ratio_of (suc work) saves = (suc work, suc work - saves)

saved_of_work : (work saves : ℕ) → saves ≤ work
    → (if nat_lt (ratio_of work saves).0 (ratio_of work saves).1 then 0 else work - div_ceil (work * (ratio_of work saves).1) (ratio_of work saves).0) ≡ saves
saved_of_work zero saves le = saved_of_ratio 0 saves 1 1 le (omega arith) (omega arith)
saved_of_work (suc work) saves le = saved_of_ratio (suc work) saves (suc work) (suc work - saves) le (omega arith) refl

-- a kind is that of a loop or not
abbrev pub loop_or_body : Bool → RegionKind
loop_or_body true = Loop
loop_or_body false = Body

pub is_loop_of : (b : Bool) → is_loop (loop_or_body b) ≡ b
is_loop_of true = refl
is_loop_of false = refl

abbrev recast : Bool → ℕ → Context → Context
recast loop saves c = record {
  parent = c.parent;
  region = c.region;
  kind = loop_or_body loop;
  instances = c.instances;
  turns = c.turns;
  work = c.work;
  path = c.path;
  sp = ratio_of c.work saves;
}

abbrev recasts : (Context → Bool) → (Context → ℕ) → List Context → List Context
recasts test saves [] = []
recasts test saves (c ∷ contexts) = recast (test c) (saves c) c ∷ recasts test saves contexts

are_recasts : (test : Context → Bool) (saves : Context → ℕ) → ((c : Context) → saves c ≤ c.work) → (contexts : List Context)
    → EachWith (λ c d. IsRecast (test c) (saves c) c d) contexts (recasts test saves contexts)
are_recasts test saves within [] = tt
are_recasts test saves within (c ∷ contexts) = (
  record {
    parent = refl;
    work = refl;
    kind = is_loop_of (test c);
    saves = saved_of_work c.work (saves c) (within c);
  },
  are_recasts test saves within contexts,
)

module _ (team : Team) (carries : ℕ → Bool) (contexts : List Context) (can : CanPlan contexts) where
  abbrev test : Context → Bool
  test c = passes team carries (root_work contexts) c

  module _ (saves : Context → ℕ) (within : (c : Context) → saves c ≤ c.work) where
    abbrev made : List Context
    made = recasts test saves contexts

    are : EachWith (λ c d. IsRecast (passes team carries (root_work contexts) c) (saves c) c d) contexts made
    are = are_recasts test saves within contexts

    can_made : CanPlan made
    can_made = can_plan test saves contexts made are can

  saving_within : (c : Context) → threaded_saving team c ≤ c.work
  saving_within c = saves_within (lesser team.threads c.sp) c.work (c.instances * team.start)

  abbrev all : List Context
  all = made (threaded_saving team) saving_within

  pub plan_exists : (plan : Choice) × IsThreadedPlan team carries contexts plan
  plan_exists = (
    best_choice no_limits all,
    plan_from team carries (root_work contexts) contexts all (are (threaded_saving team) saving_within) refl (best_choice no_limits all)
        (best_is_plan no_limits all (can_made (threaded_saving team) saving_within)),
  )

  pub plan_unique : (one other : Choice) → IsThreadedPlan team carries contexts one → IsThreadedPlan team carries contexts other → (k : ℕ) → one k ≡ other k
  plan_unique one other is also =
      plan_is_unique no_limits all one other (can_made (threaded_saving team) saving_within)
      (plan_to team carries (root_work contexts) contexts all (are (threaded_saving team) saving_within) refl one is)
      (plan_to team carries (root_work contexts) contexts all (are (threaded_saving team) saving_within) refl other also)

  -- one more than is saved, where a loop passes
  abbrev more : Context → ℕ
  more c = if test c then suc (threaded_saving team c) else 0

  passing_saves : (c : Context) → test c ≡ true → 0 < threaded_saving team c
  passing_saves c is = ltb-true 0 (threaded_saving team c) (and_parts (nat_lt 0 (threaded_saving team c)) _ (and_parts (is_loop c.kind) _ is).1).0

  more_within : (c : Context) → more c ≤ c.work
  more_within c = by (test c) refl
    where
      by : (b : Bool) → test c ≡ b → (if b then suc (threaded_saving team c) else 0) ≤ c.work
      by true is =
          let some : 0 < threaded_saving team c = passing_saves c is in
          let within = saving_within c in
          let work : 0 < c.work = omega arith in
          saves_less (lesser team.threads c.sp) c.work (c.instances * team.start) (lesser_divides team.threads c.sp) work
      by false is = omega arith

  -- where chosen loops pass, one more for each comes to more
  comes_to_more : (choice : Choice) (part : List Context) (k : ℕ) → ((n : ℕ) (c : Context) → slice_get part n ≡ Some c → choice (k + n) ≡ true → test c ≡ true)
      → (total_from (threaded_saving team) k choice part ≡ 0) ⊎ (total_from (threaded_saving team) k choice part < total_from more k choice part)
  comes_to_more choice [] k pass = inl refl
  comes_to_more choice (c ∷ part) k pass =
      by (choice k) refl (comes_to_more choice part (k + 1) (λ n d at h. pass (suc n) d at (ap choice (one_on n) ∙ h)))
    where
      one_on : (n : ℕ) → k + suc n ≡ (k + 1) + n
      one_on n = omega arith

      first : k + 0 ≡ k
      first = omega arith

      taken : (s m x y : ℕ) → m ≡ suc s → (x ≡ 0) ⊎ (x < y) → s + x < m + y
      taken s m x y e (inl none) = omega arith
      taken s m x y e (inr less) = omega arith

      left : (x y : ℕ) → (x ≡ 0) ⊎ (x < y) → (0 + x ≡ 0) ⊎ (0 + x < 0 + y)
      left x y (inl none) = inl (omega arith)
      left x y (inr less) = inr (omega arith)

      by : (b : Bool) → choice k ≡ b
          → (total_from (threaded_saving team) (k + 1) choice part ≡ 0) ⊎ (total_from (threaded_saving team) (k + 1) choice part < total_from more (k + 1) choice part)
          → ((if b then threaded_saving team c else 0) + total_from (threaded_saving team) (k + 1) choice part ≡ 0)
          ⊎ ((if b then threaded_saving team c else 0) + total_from (threaded_saving team) (k + 1) choice part < (if b then more c else 0) + total_from more (k + 1) choice part)
      by true is rest =
          inr (taken (threaded_saving team c) (more c) (total_from (threaded_saving team) (k + 1) choice part) (total_from more (k + 1) choice part)
          (cond-true (test c) (suc (threaded_saving team c)) 0 (pass 0 c refl (ap choice first ∙ is))) rest)
      by false is rest = left (total_from (threaded_saving team) (k + 1) choice part) (total_from more (k + 1) choice part) rest

  pub saves_less_than_the_work : (choice : Choice) → IsThreadedChoice team carries contexts choice → 0 < root_work contexts → total team contexts choice < root_work contexts
  saves_less_than_the_work choice is some =
      under (total team contexts choice) (total_from more 0 choice contexts) (root_work contexts) some
      (subst (λ t. t ≤ root_work contexts) (same_total test more choice contexts (made more more_within) (are more more_within) 0)
      (subst (λ t. choices.total (made more more_within) choice ≤ t) (same_root test more contexts (made more more_within) (are more more_within))
      (saves_at_most_the_work no_limits (made more more_within) choice (can_made more more_within)
      (choice_to team carries (root_work contexts) more contexts (made more more_within) (are more more_within) refl choice is))))
      (comes_to_more choice contexts 0 (λ n c at chosen. passed n c at chosen))
    where
      under : (x y w : ℕ) → 0 < w → y ≤ w → (x ≡ 0) ⊎ (x < y) → x < w
      under x y w positive most (inl none) = omega arith
      under x y w positive most (inr less) = omega arith

      none_before : (n : ℕ) → 0 + n ≡ n
      none_before n = omega arith

      passed : (n : ℕ) (c : Context) → slice_get contexts n ≡ Some c → choice (0 + n) ≡ true → test c ≡ true
      passed n c at chosen =
          let found = is.passing n (ap choice (sym (none_before n)) ∙ chosen) in
          ap test (same_Some c found.0 (sym at ∙ found.1)) ∙ found.2
