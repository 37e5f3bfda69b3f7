-- Believed with a public law.
-- Runs of flat code in which it is told what operations do.
use Rattle.std.specs.Prelude.{ℕ, ◌≡◌, false, List, []}
use Rattle.k_optab.specs.declared.event.Event.{Event}
use Rattle.k_ending.specs.declared.ending.End.{End}
use Rattle.k_world.specs.Deeds.{Deed}
use Rattle.k_world.specs.Worlds.{World, fresh_telling}
use Rattle.k_code.specs.declared.code.Code.{Code}
use Rattle.k_code.specs.Runs.{run_of, start_in, steps}
use Rattle.k_code.specs.Steps.{Run, Going, Over}

-- the configurations that a run of the program goes through where it is told what operations do
abbrev pub telling_of : Code → List ℕ → ℕ → ℕ → Run
telling_of code input budget n = steps code n (start_in code (fresh_telling budget input))

-- a world in which nothing is told
abbrev pub untold : World → World
untold w = record w { telling = false; deeds = [] }

-- a run in which nothing is told
abbrev pub untold_run : Run → Run
untold_run (Going c) = Going (record c { world = untold c.world })
untold_run (Over end w) = Over end (untold w)

-- TELLING CHANGES NOTHING: the run goes through the configurations that it goes through where nothing is told
abbrev pub TellingChangesNothing : Type 0
TellingChangesNothing = (code : Code) (input : List ℕ) (budget n : ℕ) → run_of code input budget n ≡ untold_run (telling_of code input budget n)

-- the outcome of a program's run in which it is told what operations do: that, its events, its output, and how it ends
pub record HasToldOutcome (code : Code) (input : List ℕ) (budget : ℕ) (deeds : List Deed) (events : List Event) (output : List ℕ) (end : End) : Type 0 where
  pub count : ℕ
  pub world : World
  pub is : telling_of code input budget count ≡ Over end world
  pub deeds_are : world.deeds ≡ deeds
  pub events_are : world.events ≡ events
  pub output_is : world.output ≡ output
