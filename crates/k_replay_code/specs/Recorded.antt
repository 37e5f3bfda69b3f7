-- For contracts between crates: nobody has to believe it.
-- The record of a run of flat code: a step for each operation, its value, and its sources.
use Rattle.std.specs.Prelude.{ℕ, ◌≡◌, List, map}
use Rattle.k_optab.specs.declared.event.Event.{Event}
use Rattle.k_optab.specs.declared.event.Src.{Src}
use Rattle.k_optab.specs.Events.{Operation, operations}
use Rattle.k_world.specs.declared.act.Act.{Act}
use Rattle.k_world.specs.declared.act.Act.TheVariants as does
use Rattle.k_world.specs.declared.value.Value.{Value}
use Rattle.k_world.specs.Deeds.{Deed}
use Rattle.k_world.specs.Worlds.{World}
use Rattle.k_code.specs.declared.code.Code.{Code}
use Rattle.k_code.specs.Runs.{EndsAfter}
use Rattle.k_replay_record.specs.declared.record.Datum.{Datum}
use Rattle.k_replay_record.specs.declared.record.Datum.TheVariants as datum
use Rattle.k_replay_record.specs.declared.record.Record.{Record}
use Rattle.k_replay_record.specs.declared.record.Step.{Step}
use Rattle.k_replay_record.specs.Records.{IsRecord}
use Rattle.k_replay_record.specs.Serial.{serial, serial_bytes}
use Rattle.k_replay_recording.specs.Laws.{from_numbers}
use Rattle.k_replay_recording.specs.Steps.{datum_of, step_of}
use Rattle.k_replay_code.specs.Performed.{performed}

-- the step of an operation
abbrev pub step_for : Deed → Step
step_for p = step_of p.what p.reads p.hidden p.control p.value

-- the value that a record has of an operation: a call gives none
unfoldable pub recorded_value : Act → Value → Datum
recorded_value does.Call v = datum.Nothing
recorded_value what v = datum_of v

-- the value that a record has of an operation that was performed
abbrev pub value_for : Deed → Datum
value_for p = recorded_value p.what p.value

-- the numbers of sources, broken ones too, in order
abbrev pub numbers : List Src → List ℕ
numbers sources = map (λ (s : Src). s.number) sources

-- those of each operation among events
abbrev pub source_numbers : List Event → List (List ℕ)
source_numbers events = map (λ (op : Operation). numbers op.sources) (operations events)

-- the operations that the operands of each step come from, in order
abbrev pub step_numbers : List Step → List (List ℕ)
step_numbers steps = map (λ (s : Step). from_numbers s.operands) steps

-- THE RECORD OF A RUN of this code on this input, of at most so many operations
pub record IsRecordOf (code : Code) (input : List ℕ) (budget : ℕ) (tape : Record) : Type 0 where
  pub count : ℕ
  pub world : World
  -- the run ends as the record says
  pub ends : EndsAfter code input budget count tape.end world
  -- one step for each operation of the run, in order, with its act and its operands
  pub steps : tape.steps ≡ map step_for (performed code input budget count)
  -- each step gives what its operation gave
  pub values : serial tape.steps ≡ map value_for (performed code input budget count)
  -- the operands that come from operations are the sources of the run's operations, broken ones too
  pub sources : step_numbers tape.steps ≡ source_numbers world.events
  -- the output is the run's
  pub output : tape.output ≡ world.output
  -- so are the bytes that the steps write in order
  pub written : serial_bytes tape.steps ≡ world.output
  -- and all is as the core that replays it needs it
  pub fits : IsRecord tape
