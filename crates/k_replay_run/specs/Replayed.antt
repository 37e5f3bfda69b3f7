-- For contracts between crates: nobody has to believe it.
-- What the replay of a program's run comes to.
use Rattle.std.specs.Prelude.{ℕ, ℤ, ◌≡◌, List, [], length}
use Rattle.k_ending.specs.declared.ending.End.{End}
use Rattle.k_ending.specs.declared.ending.End.TheVariants.{OutOfSteps, Returned, Trapped}
use Rattle.k_evaluation.specs.Runs.{Run}
use Rattle.k_replay_record.specs.declared.record.Record.{Record}
use Rattle.k_replay.specs.declared.rounds.Schedule.{Schedule}
use Rattle.k_replay.specs.Plays.{Play, started}
use Rattle.k_replay.specs.Rounds.{IsSchedule}
use Rattle.k_replay_text.specs.Lines.{replay_text}
use Rattle.k_replay_laws.specs.Texts.{IsReplayText}
use Rattle.k_replay_run.specs.declared.replay.Replay.{Replay}

-- the text of a record: its output, and the counts of *Rounds* over its steps
pub record TextOfRecord (seed workers : ℕ) (tape : Record) (exit : ℤ) (text : List ℕ) : Type 0 where
  pub after : Play
  pub schedule : Schedule
  pub rounds : IsSchedule seed workers (started tape workers) after schedule
  pub is : text ≡ replay_text tape.output (length tape.steps) exit schedule

-- the text of a record of a run that ended so: there is none unless main returned
abbrev pub TextBehind : ℕ → ℕ → Record → End → List ℕ → Type 0
TextBehind seed workers tape (Returned exit) text = TextOfRecord seed workers tape exit text
TextBehind seed workers tape (Trapped trap place) text = text ≡ []
TextBehind seed workers tape OutOfSteps text = text ≡ []

-- the replay of a record
pub record ReplaysRecord (seed workers : ℕ) (tape : Record) (r : Replay) : Type 0 where
  pub end : r.end ≡ tape.end
  pub text : TextBehind seed workers tape tape.end r.text

-- the text of a run that ended so: there is none unless main returned
abbrev pub TextAtEnd : ℕ → ℕ → Run → End → List ℕ → Type 0
TextAtEnd workers seed ran (Returned exit) text = IsReplayText workers seed exit ran.output ran.events text
TextAtEnd workers seed ran (Trapped trap place) text = text ≡ []
TextAtEnd workers seed ran OutOfSteps text = text ≡ []

-- THE REPLAY of a run by so many workers, whose rounds follow from this seed
pub record IsReplayOf (ran : Run) (workers seed : ℕ) (r : Replay) : Type 0 where
  pub end : r.end ≡ ran.end
  pub text : TextAtEnd workers seed ran ran.end r.text
