-- Believed with a public law.
-- What the times that a machine keeps mean: each is the weight of the heaviest path to the source of what its location holds, within the instance
-- that is open at its level.
use Rattle.std.specs.Prelude.{ℕ, ◌≡◌, ◌<◌, min, List, length, slice_get, slice_index_or, Option, Some, None}
use Rattle.k_optab.specs.declared.event.Event.{Event}
use Rattle.k_optab.specs.Events.{operations, SourcesAreEarlier}
use Rattle.k_optab.specs.Graph.{Heaviest, IsTime}
use Rattle.k_optab.specs.Open.{Open, open_after}
use Rattle.k_mem.specs.Memory.{IsLaidOut}
use Rattle.k_world.specs.Worlds.{HasOrigins}
use Rattle.k_code.specs.declared.code.Code.{Code}
use Rattle.k_code.specs.Reads.{open_regions}
use Rattle.k_code.specs.Steps.{Configuration}
use Rattle.k_hcpa_meaning.specs.Locations.{source_at, saved_in, frames_of}
use Rattle.k_hcpa_meaning.specs.Timings.{Location, Timing, HasLevels, time_of}

-- how many levels are live behind these events, where instances below a depth are tracked
abbrev pub live_levels : ℕ → List Event → ℕ
live_levels depth events = min depth (length (open_after events))

-- the weights of the heaviest paths of the open tracked instances so far, outermost first
pub record ArePaths (depth : ℕ) (events : List Event) (paths : List ℕ) : Type 0 where
  pub count : length paths ≡ live_levels depth events
  pub each : (level : ℕ) (o : Open) → level < length paths → slice_get (open_after events) level ≡ Some o
      → Heaviest (operations events) o.start (length (operations events)) (slice_index_or paths level 0)

-- TIMES ARE HEAVIEST PATHS: at each live level, the time of each location that holds something is that of the heaviest path to its source in the
-- instance that is open there, and 0 where it has no source
pub record IsTimed (code : Code) (depth : ℕ) (c : Configuration) (t : Timing) : Type 0 where
  pub shape : HasLevels (live_levels depth c.world.events) t
  pub saved : length t.saved ≡ length (saved_in (frames_of c))
  pub times : (level : ℕ) (o : Open) (at : Location) (source : Option ℕ) → level < live_levels depth c.world.events
      → slice_get (open_after c.world.events) level ≡ Some o → source_at code c at ≡ Some source
      → IsTime (operations c.world.events) o.start source (time_of t at level)
  pub paths : ArePaths depth c.world.events t.paths

-- what a location holds came from an operation that was made
abbrev pub CameEarlier : ℕ → Option (Option ℕ) → Type 0
CameEarlier made None = Unit {0}
CameEarlier made (Some None) = Unit {0}
CameEarlier made (Some (Some number)) = number < made

-- what each configuration of a run of valid code has, on which the times rest
pub record IsTraced (code : Code) (c : Configuration) : Type 0 where
  pub made : length (operations c.world.events) ≡ c.world.made
  pub earlier : SourcesAreEarlier (operations c.world.events)
  pub came : (at : Location) → CameEarlier c.world.made (source_at code c at)
  pub laid : IsLaidOut c.world.memory
  pub origins : HasOrigins c.world
  pub opened : length (open_after c.world.events) ≡ open_regions c
