-- For contracts between crates: nobody has to believe it.
-- The record of a program's run, in terms of *Run*.
use Rattle.std.specs.Prelude.{ℕ, ◌≡◌, List, length, map}
use Rattle.k_optab.specs.Events.{operations}
use Rattle.k_evaluation.specs.Deeds.{deeds, telling_run}
use Rattle.k_evaluation.specs.Runs.{ended, run}
use Rattle.k_evaluation.specs.States.{Program}
use Rattle.k_replay_code.specs.Recorded.{source_numbers, step_for, step_numbers, value_for}
use Rattle.k_replay_record.specs.declared.record.Record.{Record}
use Rattle.k_replay_record.specs.Records.{IsRecord}
use Rattle.k_replay_record.specs.Serial.{serial, serial_bytes}

-- A RECORD OF THE RUN of this program on this input, of at most so many operations
pub record IsRecordOfRun (program : Program) (input : List ℕ) (budget : ℕ) (tape : Record) : Type 0 where
  -- the steps are those of the run's operations, in order: each has its operation's act and operands
  pub steps : tape.steps ≡ map step_for (deeds program input budget)
  -- each gives what its operation gave
  pub values : serial tape.steps ≡ map value_for (deeds program input budget)
  -- and the run of which that is told is the run
  pub told : ended (telling_run program input budget) ≡ run program input budget
  -- one step for each operation of the run
  pub count : length tape.steps ≡ length (operations (run program input budget).events)
  -- the operands of each that come from operations are the sources of the run's operation, in order, broken ones too
  pub sources : step_numbers tape.steps ≡ source_numbers (run program input budget).events
  -- the output and the end are the run's
  pub output : tape.output ≡ (run program input budget).output
  pub end : tape.end ≡ (run program input budget).end
  -- the bytes that the steps write in order are the run's output
  pub written : serial_bytes tape.steps ≡ (run program input budget).output
  -- and all is as the core that replays it needs it
  pub fits : IsRecord tape
