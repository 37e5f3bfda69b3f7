-- Believed with the theorem on the top call.
-- The text of a replay.
use Rattle.std.specs.Prelude.{ℕ, ℤ, ◌≡◌, List, length}
use Rattle.k_optab.specs.declared.event.Event.{Event}
use Rattle.k_optab.specs.Events.{operations}
use Rattle.k_replay.specs.declared.rounds.Schedule.{Schedule}
use Rattle.k_replay_text.specs.Lines.{replay_text}
use Rattle.k_replay_laws.specs.Schedules.{IsScheduleOf}

-- THE TEXT of the replay of a run with these events, which wrote this output and from which main returned this: the output, how many operations there are,
-- and the schedule by which so many workers fire them
pub record IsReplayText (workers seed : ℕ) (exit : ℤ) (output : List ℕ) (events : List Event) (text : List ℕ) : Type 0 where
  pub schedule : Schedule
  pub is_schedule : IsScheduleOf (operations events) workers seed schedule
  pub is : text ≡ replay_text output (length (operations events)) exit schedule
