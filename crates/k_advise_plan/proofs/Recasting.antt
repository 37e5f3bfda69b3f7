-- What holds of contexts and of those that are recast of them: the same stand above the same, and the same choices save the same.
use Rattle.std.proofs.Common.{◌≡◌, ℕ, zero, suc, ◌+◌, ◌*◌, ◌<◌, ◌≤◌, ◌^◌, Bool, true, false, ◌&&◌, List, [], ◌∷◌, length, Some, slice_get, refl, sym, ap, ◌∙◌, subst, arith, if◌then◌else◌, leb}
use Rattle.std.specs.Prelude.{◌==◌, map}
use Rattle.std.proofs.lemmas.Bool.{le-leb}
use Rattle.std.proofs.lemmas.Option.{none-some, same_Some}
use Rattle.k_optab.specs.Regions.{is_loop}
use Rattle.k_optab.specs.Tree.{EachWith}
use Rattle.k_selfpar.specs.Contexts.{root_work}
use Rattle.k_selfpar.specs.declared.context.Context.{Context}
use Rattle.k_plan.specs.declared.advice.Advice.{Advice}
use Rattle.k_plan.specs.declared.advice.Pick.{Pick}
use Rattle.k_plan.specs.declared.limits.Limits.{Limits}
use Rattle.k_plan.specs.Choices as choices
use Rattle.k_plan.specs.Choices.{Choice, IsAbove, next, further}
use Rattle.k_plan.specs.Plan as plans
use Rattle.k_plan.specs.Plan.{CanPlan, ParentsComeFirst, StandBehindParents, behind_root, works_under}
use Rattle.k_plan.specs.Saving as savings
use Rattle.k_advise_plan.specs.declared.plan.ThreadedPick.{ThreadedPick}
use Rattle.k_advise_plan.specs.declared.plan.ThreadedPlan.{ThreadedPlan}
use Rattle.k_advise_plan.specs.declared.team.Team.{Team}
use Rattle.k_advise_plan.specs.Plan.{IsPassing, IsThreadedChoice, IsThreadedPlan, TellsPlan, pick_with, picks_from, threaded_pick, total, total_from}
use Rattle.k_advise_plan.specs.Recast.{AreRecast, IsRecast, without_doall}
use Rattle.k_advise_plan.specs.Saving.{passes, threaded_saving}

-- the limits that each loop reaches
abbrev pub no_limits : Limits
no_limits = record { sp = 0; doall = 0; doacross = 0 }

-- so each loop passes, and nothing else
pub all_loops_pass : (work : ℕ) (d : Context) → savings.passes no_limits work d ≡ is_loop d.kind
all_loops_pass work d =
    ap (λ b. is_loop d.kind && (b && leb (work * savings.threshold no_limits d) (1000 * savings.saving d))) (le-leb (0 * d.sp.1) d.sp.0 (omega arith))
    ∙ ap (λ b. is_loop d.kind && b) (le-leb (work * savings.threshold no_limits d) (1000 * savings.saving d) (nothing (savings.threshold no_limits d) (none (savings.is_doall d))))
    ∙ alone (is_loop d.kind)
  where
    none : (b : Bool) → ◌≡◌ {A = ℕ} (if b then 0 else 0) 0
    none true = refl
    none false = refl

    nothing : (t : ℕ) → t ≡ 0 → work * t ≤ 1000 * savings.saving d
    nothing t e = subst (λ n. work * n ≤ 1000 * savings.saving d) (sym e) (omega arith)

    alone : (b : Bool) → (b && true) ≡ b
    alone true = refl
    alone false = refl

-- each of the others is a loop where one of these passes a test, and saves what that one does
module _ (test : Context → Bool) (saves : Context → ℕ) where
  abbrev R : Context → Context → Type 0
  R c d = IsRecast (test c) (saves c) c d

  abbrev Are : List Context → List Context → Type 0
  Are contexts recasts = EachWith (λ c d. IsRecast (test c) (saves c) c d) contexts recasts

  -- for each context there is one that is recast of it
  pub recast_at : (contexts recasts : List Context) → Are contexts recasts → (k : ℕ) (c : Context) → slice_get contexts k ≡ Some c
      → (d : Context) × (slice_get recasts k ≡ Some d) × R c d
  recast_at [] recasts are k c at = absurd (none-some c at)
  recast_at (x ∷ contexts) [] are k c at = absurd are
  recast_at (x ∷ contexts) (y ∷ recasts) are zero c at = (y, refl, subst (λ z. R z y) (same_Some x c at) are.0)
  recast_at (x ∷ contexts) (y ∷ recasts) are (suc k) c at = recast_at contexts recasts are.1 k c at

  -- and for each of those the one that it is recast of
  pub recast_of : (contexts recasts : List Context) → Are contexts recasts → (k : ℕ) (d : Context) → slice_get recasts k ≡ Some d
      → (c : Context) × (slice_get contexts k ≡ Some c) × R c d
  recast_of contexts [] are k d at = absurd (none-some d at)
  recast_of [] (y ∷ recasts) are k d at = absurd are
  recast_of (x ∷ contexts) (y ∷ recasts) are zero d at = (x, refl, subst (λ z. R x z) (same_Some y d at) are.0)
  recast_of (x ∷ contexts) (y ∷ recasts) are (suc k) d at = recast_of contexts recasts are.1 k d at

  pub same_length : (contexts recasts : List Context) → Are contexts recasts → length recasts ≡ length contexts
  same_length [] [] are = refl
  same_length [] (y ∷ recasts) are = absurd are
  same_length (x ∷ contexts) [] are = absurd are
  same_length (x ∷ contexts) (y ∷ recasts) are = ap suc (same_length contexts recasts are.1)

  stand_behind : (contexts recasts : List Context) → Are contexts recasts → (k : ℕ) → StandBehindParents k contexts → StandBehindParents k recasts
  stand_behind [] [] are k stand = tt
  stand_behind [] (y ∷ recasts) are k stand = absurd are
  stand_behind (x ∷ contexts) [] are k stand = absurd are
  stand_behind (x ∷ contexts) (y ∷ recasts) are k stand =
      (subst (λ n. n < k) (sym are.0.parent) stand.0, stand_behind contexts recasts are.1 (k + 1) stand.1)

  parents_first : (contexts recasts : List Context) → Are contexts recasts → ParentsComeFirst contexts → ParentsComeFirst recasts
  parents_first [] [] are first = tt
  parents_first [] (y ∷ recasts) are first = absurd are
  parents_first (x ∷ contexts) [] are first = absurd are
  parents_first (x ∷ contexts) (y ∷ recasts) are first = (are.0.parent ∙ first.0, stand_behind contexts recasts are.1 1 first.1)

  same_under : (contexts recasts : List Context) → Are contexts recasts → (a : ℕ) → works_under a recasts ≡ works_under a contexts
  same_under [] [] are a = refl
  same_under [] (y ∷ recasts) are a = absurd are
  same_under (x ∷ contexts) [] are a = absurd are
  same_under (x ∷ contexts) (y ∷ recasts) are a =
      ap (λ p. (if p == a then y.work else 0) + works_under a recasts) are.0.parent
      ∙ ap (λ w. (if x.parent == a then w else 0) + works_under a recasts) are.0.work
      ∙ ap (λ n. (if x.parent == a then x.work else 0) + n) (same_under contexts recasts are.1 a)

  same_behind_root : (contexts recasts : List Context) → Are contexts recasts → (a : ℕ)
      → works_under a (behind_root recasts) ≡ works_under a (behind_root contexts)
  same_behind_root [] [] are a = refl
  same_behind_root [] (y ∷ recasts) are a = absurd are
  same_behind_root (x ∷ contexts) [] are a = absurd are
  same_behind_root (x ∷ contexts) (y ∷ recasts) are a = same_under contexts recasts are.1 a

  pub same_root : (contexts recasts : List Context) → Are contexts recasts → root_work recasts ≡ root_work contexts
  same_root [] [] are = refl
  same_root [] (y ∷ recasts) are = absurd are
  same_root (x ∷ contexts) [] are = absurd are
  same_root (x ∷ contexts) (y ∷ recasts) are = are.0.work

  -- what is recast of contexts that have a plan has one
  pub can_plan : (contexts recasts : List Context) → Are contexts recasts → CanPlan contexts → CanPlan recasts
  can_plan contexts recasts are can = record {
    few = subst (λ n. n ≤ 65536) (sym (same_length contexts recasts are)) can.few;
    parents = parents_first contexts recasts are can.parents;
    small = λ k d at. let found = recast_of contexts recasts are k d at in subst (λ n. n < 2 ^ 50) (sym found.2.work) (can.small k found.0 found.1);
    works = λ k d at.
        let found = recast_of contexts recasts are k d at in
        subst (λ n. n ≤ d.work) (sym (same_behind_root contexts recasts are k))
        (subst (λ n. works_under k (behind_root contexts) ≤ n) (sym found.2.work) (can.works k found.0 found.1));
  }

  -- what a choice saves
  pub same_total : (choice : Choice) (contexts recasts : List Context) → Are contexts recasts → (k : ℕ)
      → choices.total_from k choice recasts ≡ total_from saves k choice contexts
  same_total choice [] [] are k = refl
  same_total choice [] (y ∷ recasts) are k = absurd are
  same_total choice (x ∷ contexts) [] are k = absurd are
  same_total choice (x ∷ contexts) (y ∷ recasts) are k =
      ap (λ n. (if choice k then n else 0) + choices.total_from (k + 1) choice recasts) are.0.saves
      ∙ ap (λ n. (if choice k then saves x else 0) + n) (same_total choice contexts recasts are.1 (k + 1))

  module _ (contexts recasts : List Context) (are : Are contexts recasts) where
    -- what stands above
    pub above_to : (a k : ℕ) → IsAbove contexts a k → IsAbove recasts a k
    above_to _ _ (next a k c some at is) = let found = recast_at contexts recasts are k c at in next a k found.0 some found.1 (found.2.parent ∙ is)
    above_to _ _ (further a k c some at up) =
        let found = recast_at contexts recasts are k c at in
        further a k found.0 some found.1 (subst (λ n. IsAbove recasts a n) (sym found.2.parent) (above_to a c.parent up))

    pub above_from : (a k : ℕ) → IsAbove recasts a k → IsAbove contexts a k
    above_from _ _ (next a k d some at is) = let found = recast_of contexts recasts are k d at in next a k found.0 some found.1 (sym found.2.parent ∙ is)
    above_from _ _ (further a k d some at up) =
        let found = recast_of contexts recasts are k d at in
        further a k found.0 some found.1 (subst (λ n. IsAbove contexts a n) found.2.parent (above_from a d.parent up))

module _ (team : Team) (carries : ℕ → Bool) (work : ℕ) (saves : Context → ℕ) (contexts recasts : List Context)
    (are : EachWith (λ c d. IsRecast (passes team carries work c) (saves c) c d) contexts recasts) (root : work ≡ root_work contexts) where
  -- which loops pass
  passing_to : (k : ℕ) → IsPassing team carries contexts k → choices.IsPassing no_limits recasts k
  passing_to k (c, at, pass) =
      let found = recast_at (passes team carries work) saves contexts recasts are k c at in (
        found.0,
        found.1,
        all_loops_pass (root_work recasts) found.0 ∙ found.2.kind ∙ ap (λ w. passes team carries w c) root ∙ pass,
      )

  passing_from : (k : ℕ) → choices.IsPassing no_limits recasts k → IsPassing team carries contexts k
  passing_from k (d, at, pass) =
      let found = recast_of (passes team carries work) saves contexts recasts are k d at in (
        found.0,
        found.1,
        ap (λ w. passes team carries w found.0) (sym root) ∙ sym found.2.kind ∙ sym (all_loops_pass (root_work recasts) d) ∙ pass,
      )

  -- the choices
  pub choice_to : (choice : Choice) → IsThreadedChoice team carries contexts choice → choices.IsChoice no_limits recasts choice
  choice_to choice is = record {
    passing = λ k h. passing_to k (is.passing k h);
    apart = λ a k one other up. is.apart a k one other (above_from (passes team carries work) saves contexts recasts are a k up);
  }

  pub choice_from : (choice : Choice) → choices.IsChoice no_limits recasts choice → IsThreadedChoice team carries contexts choice
  choice_from choice is = record {
    passing = λ k h. passing_from k (is.passing k h);
    apart = λ a k one other up. is.apart a k one other (above_to (passes team carries work) saves contexts recasts are a k up);
  }

-- the picks of a choice
same_picks : (team : Team) (carries : ℕ → Bool) (work : ℕ) (choice : Choice) (contexts recasts : List Context) → AreRecast team carries work contexts recasts → (k : ℕ)
    → map without_doall (plans.picks_from k choice recasts) ≡ picks_from team k choice contexts
same_picks team carries work choice [] [] are k = refl
same_picks team carries work choice [] (y ∷ recasts) are k = absurd are
same_picks team carries work choice (x ∷ contexts) [] are k = absurd are
same_picks team carries work choice (x ∷ contexts) (y ∷ recasts) are k =
    by (choice k) (plans.picks_from (k + 1) choice recasts) (picks_from team (k + 1) choice contexts) (same_picks team carries work choice contexts recasts are.1 (k + 1))
  where
    by : (b : Bool) (later : List Pick) (told : List ThreadedPick) → map without_doall later ≡ told
        → map without_doall (if b then plans.pick_of k y ∷ later else later)
        ≡ (if b then pick_with team k x ∷ told else told)
    by true later told e =
        ap (λ n. threaded_pick k n ∷ map without_doall later) are.0.saves
        ∙ ap (λ l. threaded_pick k (threaded_saving team x) ∷ l) e
    by false later told e = e

module _ (team : Team) (carries : ℕ → Bool) (work : ℕ) (contexts recasts : List Context) (are : AreRecast team carries work contexts recasts) (root : work ≡ root_work contexts) where
  -- no more is saved by the one choice than by the other
  total_from_recasts : (choice : Choice) (n : ℕ) → choices.total recasts choice ≤ n → total team contexts choice ≤ n
  total_from_recasts choice n le = subst (λ t. t ≤ n) (same_total (passes team carries work) (threaded_saving team) choice contexts recasts are 0) le

  total_to_recasts : (choice : Choice) (n : ℕ) → total team contexts choice ≤ n → choices.total recasts choice ≤ n
  total_to_recasts choice n le = subst (λ t. t ≤ n) (sym (same_total (passes team carries work) (threaded_saving team) choice contexts recasts are 0)) le

  -- a plan of what is recast is a plan with the team
  pub plan_from : (plan : Choice) → plans.IsPlan no_limits recasts plan → IsThreadedPlan team carries contexts plan
  plan_from plan is = record {
    choice = choice_from team carries work (threaded_saving team) contexts recasts are root plan is.choice;
    greatest = λ other also.
        total_from_recasts other (total team contexts plan)
        (subst (λ t. choices.total recasts other ≤ t) (same_total (passes team carries work) (threaded_saving team) plan contexts recasts are 0) (is.greatest other (choice_to team carries work (threaded_saving team) contexts recasts are root other also)));
    tie = λ k c at pass alone most.
        let found = recast_at (passes team carries work) (threaded_saving team) contexts recasts are k c at in
        is.tie k found.0 found.1
        (all_loops_pass (root_work recasts) found.0 ∙ found.2.kind ∙ ap (λ w. passes team carries w c) root ∙ pass)
        (λ a chosen up. alone a chosen (above_from (passes team carries work) (threaded_saving team) contexts recasts are a k up))
        (λ below also under.
        total_to_recasts below (savings.saving found.0)
        (subst (λ n. total team contexts below ≤ n) (sym found.2.saves)
        (most below (choice_from team carries work (threaded_saving team) contexts recasts are root below also) (λ b chosen. above_from (passes team carries work) (threaded_saving team) contexts recasts are k b (under b chosen)))));
  }

  -- and a plan with the team is one of what is recast
  pub plan_to : (plan : Choice) → IsThreadedPlan team carries contexts plan → plans.IsPlan no_limits recasts plan
  plan_to plan is = record {
    choice = choice_to team carries work (threaded_saving team) contexts recasts are root plan is.choice;
    greatest = λ other also.
        total_to_recasts other (choices.total recasts plan)
        (subst (λ t. total team contexts other ≤ t) (sym (same_total (passes team carries work) (threaded_saving team) plan contexts recasts are 0)) (is.greatest other (choice_from team carries work (threaded_saving team) contexts recasts are root other also)));
    tie = λ k d at pass alone most.
        let found = recast_of (passes team carries work) (threaded_saving team) contexts recasts are k d at in
        is.tie k found.0 found.1
        (ap (λ w. passes team carries w found.0) (sym root) ∙ sym found.2.kind ∙ sym (all_loops_pass (root_work recasts) d) ∙ pass)
        (λ a chosen up. alone a chosen (above_to (passes team carries work) (threaded_saving team) contexts recasts are a k up))
        (λ below also under.
        total_from_recasts below (threaded_saving team found.0)
        (subst (λ n. choices.total recasts below ≤ n) found.2.saves
        (most below (choice_to team carries work (threaded_saving team) contexts recasts are root below also) (λ b chosen. above_to (passes team carries work) (threaded_saving team) contexts recasts are k b (under b chosen)))));
  }

  -- an advice on what is recast tells a plan with the team
  pub told : (advice : Advice) (plan : ThreadedPlan) → plans.IsAdvice no_limits recasts advice → plan.picks ≡ map without_doall advice.picks
      → plan.total ≡ advice.total → TellsPlan team carries contexts plan
  told advice plan is picks sum = record {
    plan = is.plan;
    is_plan = plan_from is.plan is.is_plan;
    picks = picks ∙ ap (map without_doall) is.picks ∙ same_picks team carries work is.plan contexts recasts are 0;
    total = sum ∙ is.total ∙ same_total (passes team carries work) (threaded_saving team) is.plan contexts recasts are 0;
  }
