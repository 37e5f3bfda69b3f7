-- For contracts between crates: nobody has to believe it.
-- What one instruction of a run comes to while it is recorded.
use Rattle.std.specs.Prelude.{ℕ, ◌≡◌, is_some, true, pos, List, [], ◌∷◌, ◌++◌, map, Option, Some, None}
use Rattle.k_optab.specs.declared.event.Event.{Event}
use Rattle.k_ending.specs.declared.ending.End.{End}
use Rattle.k_world.specs.declared.act.Act.TheVariants as does
use Rattle.k_world.specs.declared.value.Held.{Held}
use Rattle.k_world.specs.declared.value.Read.{Read}
use Rattle.k_world.specs.declared.value.Value.TheVariants as value
use Rattle.k_world.specs.Deeds.{Deed}
use Rattle.k_world.specs.Worlds.{World}
use Rattle.k_code.specs.declared.instruction.Arg.{Arg}
use Rattle.k_code.specs.declared.instruction.Do.{Do}
use Rattle.k_code.specs.declared.instruction.Do.TheVariants as act
use Rattle.k_code.specs.Steps.{Going, Over}
use Rattle.k_hcpa_meaning.specs.Behind.{behind_all, world_behind}
use Rattle.k_hcpa_store.specs.Kept.{Kept, configuration_of}
use Rattle.k_hcpa_store.specs.Leads.{GoesOn, StepsTo, alone_events, goes_alone, goes_by}
use Rattle.k_replay_record.specs.Recorded.{IsRecorded, Recorded}
use Rattle.k_replay_record.specs.Serial.{serial}
use Rattle.k_replay_code.specs.declared.kind.Kind.{Kind}
use Rattle.k_replay_code.specs.declared.kind.Kind.TheVariants as kind
use Rattle.k_replay_code.specs.Performed.{performed_next}
use Rattle.k_replay_code.specs.Recorded.{source_numbers, step_for, step_numbers, value_for}

-- the kind of an instruction
abbrev pub IsKind : Do → Kind → Type 0
IsKind what kind.Operation = is_some (goes_by what) ≡ true
IsKind what kind.Alone = (goes_alone what ≡ true) × (alone_events what ≡ [])
IsKind what kind.Enter = (region : ℕ) × (what ≡ act.Enter region)
IsKind what kind.Exit = what ≡ act.Exit
IsKind what kind.Call = (func : ℕ) × ((args : List Arg) × ((to : Option ℕ) × (what ≡ act.Call func args to)))
IsKind what kind.Return = (value : Option Arg) × (what ≡ act.Return value)

-- the record so far has these operations
pub record IsTaped (ps : List Deed) (r : Recorded) : Type 0 where
  pub steps : r.steps ≡ map step_for ps
  pub values : serial r.steps ≡ map value_for ps
  pub fits : IsRecorded r

-- these operations come behind those that the record had
abbrev pub Adds : List Deed → Recorded → Recorded → Type 0
Adds ps old new = (all : List Deed) → IsTaped all old → IsTaped (all ++ ps) new

-- a call that was made with these operands
abbrev pub called_by : List Read → Option ℕ → Deed
called_by reads control = record { what = does.Call; reads = reads; hidden = None; control = control; value = value.Number (pos 0) }

-- what the only operand read, if there is one
abbrev pub held_alone : List Read → Option Held
held_alone (r ∷ []) = r.slot
held_alone reads = None

-- what was read is moved under this control source, if it is there
abbrev pub moved_by : List Read → Option ℕ → Option Held → List Deed
moved_by reads control None = []
moved_by reads control (Some held) = record { what = does.Move; reads = reads; hidden = None; control = control; value = held.value } ∷ []

-- the operation of a return, by what its operands read
abbrev pub moved_of : List Read → Option ℕ → List Deed
moved_of reads control = moved_by reads control (held_alone reads)

-- the run goes on behind these events, or ends with what was written
abbrev pub GoesOrEnds : Kept → List Event → Option End → Kept → Type 0
GoesOrEnds old more None new = GoesOn old more new
GoesOrEnds old more (Some end) new =
    (w : World) × (w.output ≡ (configuration_of new).world.output) × StepsTo old (λ events taken. Over end (world_behind (events ++ more) taken w))

-- these are the operations of the next step, whatever lies behind
abbrev pub IsPerformed : Kept → List Deed → Type 0
IsPerformed old ps = (events : List Event) (taken : List ℕ) → performed_next old.code (Going (behind_all events taken (configuration_of old))) ≡ ps

-- an instruction did this, and its operation was recorded
pub record Advanced (old : Kept) (end : Option End) (new : Kept) (before after : Recorded) : Type 0 where
  pub made : List Deed
  pub more : List Event
  pub goes : GoesOrEnds old more end new
  pub performs : IsPerformed old made
  pub sources : step_numbers (map step_for made) ≡ source_numbers more
  pub adds : Adds made before after
