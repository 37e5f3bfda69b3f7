-- For contracts between crates: nobody has to believe it.
-- Where a run stands whose store, gathered pairs and places are kept.
use Rattle.std.specs.Prelude.{ℕ, ◌≡◌, ◌+◌, ◌*◌, ◌^◌, ◌<◌, ◌≤◌, Bool, true, List, length, Option, Some, None}
use Rattle.k_num.specs.declared.place.Place.{Place}
use Rattle.k_optab.specs.declared.event.Event.{Event}
use Rattle.k_optab.specs.Open.{open_after}
use Rattle.k_ending.specs.declared.ending.End.{End}
use Rattle.k_world.specs.Worlds.{World}
use Rattle.k_code.specs.Endings.{ahead}
use Rattle.k_code.specs.Runs.{run_of}
use Rattle.k_code.specs.Steps.{Going, Over}
use Rattle.k_code.specs.Valid.{IsValid}
use Rattle.k_hcpa_meaning.specs.Behind.{behind_all}
use Rattle.k_hcpa_store.specs.Kept.{Kept, configuration_of}
use Rattle.k_carry_pairs.specs.declared.pairs.CarriedPairs.{CarriedPairs}
use Rattle.k_carry_pairs.specs.Gathered.{Gathered, Gathers, loops_from}
use Rattle.k_carry.specs.declared.advance.Made.{Made}
use Rattle.k_carry.specs.declared.places.Places.{Places}
use Rattle.k_carry.specs.Sources.{ArePlaces, IsPlaceOf, Setting}

-- the code is valid, and at most 1,000,000,000 operations may be made
pub record IsSetting (s : Setting) : Type 0 where
  pub valid : IsValid s.code
  pub few : s.budget ≤ 1000000000

-- the run goes on, and this is its configuration but for what lies behind it, behind these events
pub record StandsBehind (s : Setting) (events : List Event) (k : Kept) : Type 0 where
  pub count : ℕ
  pub taken : List ℕ
  pub code : k.code ≡ s.code
  pub run : run_of s.code s.input s.budget count ≡ Going (behind_all events taken (configuration_of k))
  pub opened : length (open_after events) ≤ count + 1

-- the run goes on
abbrev pub Stands : Setting → Kept → Type 0
Stands s k = (events : List Event) × StandsBehind s events k

-- how far the end of the run can be: each step makes an operation or goes ahead
abbrev pub left_to_go : Kept → ℕ
left_to_go k = (configuration_of k).world.left * (2 ^ 29 + 1) + ahead k.code (configuration_of k)

-- the run has ended so, with these events
pub record HasEnded (s : Setting) (events : List Event) (end : End) : Type 0 where
  pub count : ℕ
  pub world : World
  pub run : run_of s.code s.input s.budget count ≡ Over end world
  pub events_are : world.events ≡ events

-- what is gathered is told of this program
pub record IsOfProgram (s : Setting) (g : Gathered) : Type 0 where
  pub regions : g.regions ≡ s.code.regions
  pub depth : g.depth ≡ s.depth

-- what is kept of a run that goes on
pub record IsKept (s : Setting) (k : Kept) (g : Gathered) (p : Places) : Type 0 where
  pub events : List Event
  pub stands : StandsBehind s events k
  pub gathers : Gathers events g
  pub of : IsOfProgram s g
  pub places : ArePlaces s p

-- what is gathered of a run that has ended so
abbrev pub IsGathered : Setting → Gathered → End → Type 0
IsGathered s g end = (events : List Event) × HasEnded s events end × Gathers events g × IsOfProgram s g

-- a step of the run: it goes on, nearer to its end, or has ended
abbrev pub Stepped : Setting → Kept → Option End → Kept → Gathered → Places → Type 0
Stepped s old None new g p = IsKept s new g p × (left_to_go new < left_to_go old)
Stepped s old (Some end) new g p = IsGathered s g end

-- where no operation is
abbrev pub nowhere : Place
nowhere = record { line = 0; column = 0 }

-- the place of an operation that was looked for: that of the operation that was made, if it was the one; none's where the run has ended
abbrev pub found_place : Bool → Option Made → Option End → Place → Option Place
found_place true (Some m) end place = Some place
found_place here operation (Some end) place = Some nowhere
found_place here operation None place = None

-- a search for the operation of a number: it goes on, nearer to the end of the run, or has the place
abbrev pub Searches : Setting → Kept → ℕ → Option Place → Kept → Type 0
Searches s old number None new = Stands s new × ((configuration_of new).world.made ≤ number) × (left_to_go new < left_to_go old)
Searches s old number (Some place) new = IsPlaceOf s number place

-- the end, and the loops of what was gathered
pub record IsToldOf (g : Gathered) (end : End) (c : CarriedPairs) : Type 0 where
  pub ends : c.end ≡ end
  pub loops : c.loops ≡ loops_from 0 g.seen g.found
