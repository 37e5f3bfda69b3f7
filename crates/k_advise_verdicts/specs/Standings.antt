-- Believed with a public law.
-- Where loops stand in a plan for a team, by the contexts of their regions.
use Rattle.std.specs.Prelude.{ℕ, ◌≡◌, ◌<◌, ◌⊎◌, ◌↔◌, IsTrue, List, Option, Some, None, slice_get}
use Rattle.k_selfpar.specs.declared.context.Context.{Context}
use Rattle.k_plan.specs.Choices.{Choice, IsAbove}
use Rattle.k_advise_plan.specs.declared.team.Team.{Team}
use Rattle.k_advise_plan.specs.Saving.{threaded_saving}
use Rattle.k_advise_verdicts.specs.declared.standing.Standing.{Standing}
use Rattle.k_advise_verdicts.specs.Told.{standing_at}

-- the context of this number is of this region
pub record IsContextOf (contexts : List Context) (region k : ℕ) : Type 0 where
  pub c : Context
  pub at : slice_get contexts k ≡ Some c
  pub of : c.region ≡ region

-- no context of a lower number is
pub record IsFirstOf (contexts : List Context) (region k : ℕ) : Type 0 where
  pub is : IsContextOf contexts region k
  pub none : (j : ℕ) → j < k → ¬ IsContextOf contexts region j

-- a pick is above the context of this number
pub record IsUnderPick (contexts : List Context) (plan : Choice) (k : ℕ) : Type 0 where
  pub pick : ℕ
  pub picked : IsTrue (plan pick)
  pub above : IsAbove contexts pick k

-- A PICK IS ABOVE each context of a region, and that above the first of them is of this region
pub record IsWithin (contexts : List Context) (plan : Choice) (region of : ℕ) : Type 0 where
  pub each : (k : ℕ) → IsContextOf contexts region k → IsUnderPick contexts plan k
  pub first : ℕ
  pub is_first : IsFirstOf contexts region first
  pub under : IsUnderPick contexts plan first
  pub pick_is : IsContextOf contexts of under.pick

-- the region of the pick above the first context, where a pick is above each
abbrev pub IsInside : List Context → Choice → ℕ → Option ℕ → Type 0
IsInside contexts plan region None = ((k : ℕ) × IsContextOf contexts region k × ¬ IsUnderPick contexts plan k) ⊎ ((k : ℕ) → ¬ IsContextOf contexts region k)
IsInside contexts plan region (Some of) = IsWithin contexts plan region of

-- WHERE A LOOP STANDS IN A PLAN, by its region
pub record IsStanding (team : Team) (contexts : List Context) (plan : Choice) (region : ℕ) (s : Standing) : Type 0 where
  pub picked : IsTrue s.picked ↔ ((k : ℕ) × IsTrue (plan k) × IsContextOf contexts region k)
  pub inside : IsInside contexts plan region s.inside
  pub saves : IsTrue s.saves ↔ ((k : ℕ) × (is : IsContextOf contexts region k) × (0 < threaded_saving team is.c))

-- where each loop does
abbrev pub AreStandings : Team → List Context → Choice → List Standing → Type 0
AreStandings team contexts plan standings = (region : ℕ) → IsStanding team contexts plan region (standing_at standings region)
