-- For contracts between crates: nobody has to believe it.
-- An open instance that is tracked: what one operation more makes of it, and what it is once it is closed.
use Rattle.std.specs.Prelude.{ℕ, ◌+◌, ◌^◌, ◌<◌, max, List, [], ◌∷◌, ◌++◌, length}
use Rattle.k_optab.specs.declared.event.Src.{Src}
use Rattle.k_optab.specs.Events.{AreBefore}
use Rattle.k_optab.specs.GraphLaws.{greatest_of}
use Rattle.k_graph.specs.declared.level.Level.{Level}
use Rattle.k_graph.specs.declared.level.Measured.{Measured}
use Rattle.k_graph.specs.Times.{time_at}

-- the time of an operation with this latency and these sources
abbrev pub new_time : ℕ → List Src → Level → ℕ
new_time latency sources level = latency + greatest_of (time_at level.start level.times) sources

-- the level with that operation
abbrev pub added : ℕ → List Src → Level → Level
added latency sources level = record level {
  work = level.work + latency;
  path = max level.path (new_time latency sources level);
  times = level.times ++ new_time latency sources level ∷ [];
}

-- that operation comes next at the level, and its numbers are small enough
pub record CanAdd (latency : ℕ) (sources : List Src) (level : Level) : Type 0 where
  pub before : AreBefore (level.start + length level.times) sources
  pub time : new_time latency sources level < 2 ^ 64
  pub work : level.work + latency < 2 ^ 64

-- the instance, once its Exit stands at this place among the events, behind so many operations
abbrev pub measured : ℕ → ℕ → Level → Measured
measured exit end level = record {
  closed = record { region = level.region; depth = level.depth; enter = level.enter; exit = exit; start = level.start; end = end };
  work = level.work;
  path = level.path;
}
