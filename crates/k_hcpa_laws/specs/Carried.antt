-- For contracts between crates: nobody has to believe it.
-- How it is known behind a step that a time is that of the heaviest path to a source.
use Rattle.std.specs.Prelude.{ℕ, ◌≡◌, ◌<◌, List, slice_get, Option, Some}
use Rattle.k_optab.specs.Events.{Operation}
use Rattle.k_optab.specs.Graph.{IsTime}
use Rattle.k_optab.specs.Open.{Open, open_after}
use Rattle.k_code.specs.declared.code.Code.{Code}
use Rattle.k_code.specs.Steps.{Configuration}
use Rattle.k_hcpa_meaning.specs.Locations.{source_at}
use Rattle.k_hcpa_meaning.specs.Timed.{live_levels}
use Rattle.k_hcpa_meaning.specs.Timings.{Location, Timing, time_of}

-- The time of what a location holds behind a step, at the level of an open instance, where these are the operations so far: it is that of its source
-- there; or before the step some location held what came from the same source, with that time at that level, where the same instance was open.
pub data IsCarried (code : Code) (depth : ℕ) (c : Configuration) (t : Timing) (ops : List Operation) (level : ℕ) (o : Open) (source : Option ℕ) (time : ℕ) : Type 0 where
  timed : IsTime ops o.start source time → IsCarried code depth c t ops level o source time
  kept : (at : Location) → level < live_levels depth c.world.events → slice_get (open_after c.world.events) level ≡ Some o
      → source_at code c at ≡ Some source → time_of t at level ≡ time → IsCarried code depth c t ops level o source time
