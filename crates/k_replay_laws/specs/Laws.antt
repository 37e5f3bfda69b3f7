-- Believed with a public law.
-- Operations have one schedule, and so has each record of them.
use Rattle.std.specs.Prelude.{ℕ, ℤ, ◌≡◌, ◌≤◌, List, map}
use Rattle.k_optab.specs.declared.event.Event.{Event}
use Rattle.k_optab.specs.declared.event.Src.{Src}
use Rattle.k_optab.specs.Events.{Operation, SourcesAreEarlier, operations}
use Rattle.k_replay_record.specs.declared.record.Record.{Record}
use Rattle.k_replay_record.specs.declared.record.Step.{Step}
use Rattle.k_replay_recording.specs.Laws.{from_numbers}
use Rattle.k_replay.specs.declared.rounds.Schedule.{Schedule}
use Rattle.k_replay.specs.Plays.{Play, started}
use Rattle.k_replay.specs.Rounds.{IsSchedule}
use Rattle.k_replay_laws.specs.Schedules.{IsScheduleOf}
use Rattle.k_replay_laws.specs.Texts.{IsReplayText}

-- the steps have the sources of these operations, broken ones too, in order
abbrev pub HaveSources : List Step → List Operation → Type 0
HaveSources steps ops = map (λ (s : Step). from_numbers s.operands) steps ≡ map (λ (op : Operation). map (λ (s : Src). s.number) op.sources) ops

-- the calls of workers by which the steps of a record are fired in rounds make the schedule of its operations, whatever the steps do
abbrev pub RecordsHaveSchedule : Type 0
RecordsHaveSchedule =
    (tape : Record) (ops : List Operation) (workers seed : ℕ) (after : Play) (s : Schedule)
    → HaveSources tape.steps ops
    → IsSchedule seed workers (started tape workers) after s
    → IsScheduleOf ops workers seed s

-- no two schedules are one of the same operations
abbrev pub OneSchedule : Type 0
OneSchedule =
    (ops : List Operation) (workers seed : ℕ) (s t : Schedule) → IsScheduleOf ops workers seed s → IsScheduleOf ops workers seed t → s ≡ t

-- so no two texts are
abbrev pub OneReplayText : Type 0
OneReplayText =
    (workers seed : ℕ) (exit : ℤ) (output : List ℕ) (events : List Event) (a b : List ℕ)
    → IsReplayText workers seed exit output events a
    → IsReplayText workers seed exit output events b
    → a ≡ b

-- operations whose sources are earlier ones have a schedule of 1 to 16 workers
abbrev pub SchedulesExist : Type 0
SchedulesExist =
    (ops : List Operation) (workers seed : ℕ)
    → SourcesAreEarlier ops
    → 1 ≤ workers
    → workers ≤ 16
    → (s : Schedule) × IsScheduleOf ops workers seed s

-- and so a text
abbrev pub ReplayTextsExist : Type 0
ReplayTextsExist =
    (workers seed : ℕ) (exit : ℤ) (output : List ℕ) (events : List Event)
    → SourcesAreEarlier (operations events)
    → 1 ≤ workers
    → workers ≤ 16
    → (text : List ℕ) × IsReplayText workers seed exit output events text
