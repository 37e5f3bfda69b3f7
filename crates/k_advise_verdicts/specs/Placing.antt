-- For contracts between crates: nobody has to believe it.
-- Where each context stands in a plan, and what is told of the contexts of a region together.
use Rattle.std.specs.Prelude.{ℕ, ◌≡◌, ◌<◌, ◌||◌, nat_eq, nat_lt, Bool, true, false, List, [], ◌∷◌, length, Option, Some, None, slice_get, slice_index_or, if◌then◌else◌}
use Rattle.k_selfpar.specs.declared.context.Context.{Context}
use Rattle.k_plan.specs.Choices.{Choice}
use Rattle.k_advise_plan.specs.declared.plan.ThreadedPick.{ThreadedPick}
use Rattle.k_advise_plan.specs.declared.team.Team.{Team}
use Rattle.k_advise_plan.specs.Saving.{threaded_saving}
use Rattle.k_advise_verdicts.specs.declared.gathering.Gathered.{Gathered}
use Rattle.k_advise_verdicts.specs.declared.placing.Placed.{Placed}
use Rattle.k_advise_verdicts.specs.declared.standing.Standing.{Standing}
use Rattle.k_advise_verdicts.specs.Standings.{IsContextOf, IsUnderPick}

-- the first of these picks is of this context
abbrev pub is_first : List ThreadedPick → ℕ → Bool
is_first [] number = false
is_first (pick ∷ picks) number = nat_eq pick.context number

-- these picks without the first
abbrev pub later_picks : List ThreadedPick → List ThreadedPick
later_picks [] = []
later_picks (pick ∷ picks) = picks

-- the same, if that is taken
abbrev pub behind : Bool → List ThreadedPick → List ThreadedPick
behind taken picks = if taken then later_picks picks else picks

-- a context that is not in a plan
abbrev pub unplaced : Placed
unplaced = record { region = 0; picked = false; under = None; saves = false }

-- where the context of this number stands
abbrev pub placed_at : List Placed → ℕ → Placed
placed_at placed number = slice_index_or placed number unplaced

-- the region of the pick that is this context, or is above it
abbrev pub pick_of : Placed → Option ℕ
pick_of p = if p.picked then Some p.region else p.under

-- where a context stands, behind others of which it is known
abbrev pub placed_by : Team → Bool → Context → List Placed → Placed
placed_by team picked c placed =
    record { region = c.region; picked = picked; under = pick_of (placed_at placed c.parent); saves = nat_lt 0 (threaded_saving team c) }

-- the region of the pick above the context of this number, if there is one
abbrev pub IsUnder : List Context → Choice → ℕ → Option ℕ → Type 0
IsUnder contexts plan k None = ¬ IsUnderPick contexts plan k
IsUnder contexts plan k (Some of) = (u : IsUnderPick contexts plan k) × IsContextOf contexts of u.pick

-- where the context of this number stands
pub record IsPlaced (team : Team) (contexts : List Context) (plan : Choice) (k : ℕ) (p : Placed) : Type 0 where
  pub c : Context
  pub at : slice_get contexts k ≡ Some c
  pub region : p.region ≡ c.region
  pub picked : p.picked ≡ plan k
  pub under : IsUnder contexts plan k p.under
  pub saves : p.saves ≡ nat_lt 0 (threaded_saving team c)

-- where each stands
pub record ArePlaced (team : Team) (contexts : List Context) (plan : Choice) (placed : List Placed) : Type 0 where
  pub all : length placed ≡ length contexts
  pub each : (k : ℕ) (p : Placed) → slice_get placed k ≡ Some p → IsPlaced team contexts plan k p

-- nothing is told of a region without contexts
abbrev pub nothing : Gathered
nothing = record { picked = false; saves = false; apart = false; first = None }

-- what is told of the contexts of this region
abbrev pub gathered_at : List Gathered → ℕ → Gathered
gathered_at table region = slice_index_or table region nothing

-- there is none
abbrev pub is_missing : Option ℕ → Bool
is_missing None = true
is_missing (Some n) = false

-- what is told of others of a region, with one context before them
abbrev pub joined : Placed → Gathered → Gathered
joined p others =
    record { picked = p.picked || others.picked; saves = p.saves || others.saves; apart = is_missing p.under || others.apart; first = p.under }

-- the same, if the context is of the region
abbrev pub joined_if : Bool → Placed → Gathered → Gathered
joined_if of p others = if of then joined p others else others

-- what is told of the contexts of this region
abbrev pub gathered : ℕ → List Placed → Gathered
gathered region [] = nothing
gathered region (p ∷ placed) = joined_if (nat_eq p.region region) p (gathered region placed)

-- it is told of each region
abbrev pub AreGathered : List Placed → List Gathered → Type 0
AreGathered placed table = (region : ℕ) → gathered_at table region ≡ gathered region placed

-- a table in which this region has a place tells the same
pub record Reaches (region : ℕ) (old new : List Gathered) : Type 0 where
  pub place : region < length new
  pub same : (r : ℕ) → gathered_at new r ≡ gathered_at old r

-- a context is added to the others of its region
abbrev pub IsAdded : Placed → List Gathered → List Gathered → Type 0
IsAdded p old new = (region : ℕ) → gathered_at new region ≡ joined_if (nat_eq p.region region) p (gathered_at old region)

-- where a loop stands, by what is told of its contexts
abbrev pub standing_of : Gathered → Standing
standing_of g = record { picked = g.picked; inside = if g.apart then None else g.first; saves = g.saves }
