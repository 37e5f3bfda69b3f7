-- For contracts between crates: nobody has to believe it.
-- What a call begins with.
use Rattle.std.specs.Prelude.{ℕ, zero, suc, ◌≡◌, ◌+◌, ◌-◌, nat_eq, true, false, if◌then◌else◌, List, [], ◌∷◌, ◌++◌, length, map, take, slice_get, Option, Some, None, Result, Ok, Err}
use Rattle.k_num.specs.declared.place.Place.{Place}
use Rattle.k_optab.specs.declared.class.Class.{Class}
use Rattle.k_ending.specs.declared.ending.End.{End}
use Rattle.k_ending.specs.declared.ending.End.TheVariants.{Returned, Trapped, OutOfSteps}
use Rattle.k_ending.specs.declared.ending.Trap.TheVariants.{StackOverflow, Uninit}
use Rattle.k_world.specs.declared.act.Act.TheVariants as does
use Rattle.k_world.specs.declared.answer.Done.{Done}
use Rattle.k_world.specs.declared.answer.Stop.{Stop}
use Rattle.k_world.specs.declared.answer.Stop.TheVariants as stop
use Rattle.k_world.specs.Answers.{Makes}
use Rattle.k_world.specs.Changes.{objects_kept}
use Rattle.k_world.specs.Operands.{is_set}
use Rattle.k_world.specs.Values.{exit_of}
use Rattle.k_code.specs.declared.code.Code.{Code}
use Rattle.k_code.specs.declared.instruction.Arg.{Arg}
use Rattle.k_code.specs.Steps.{no_value, overflows, parameters, read_of, size_of}
use Rattle.k_hcpa_store.specs.declared.answer.Calling.{Calling}
use Rattle.k_hcpa_store.specs.declared.answer.Calling.TheVariants as calling
use Rattle.k_hcpa_store.specs.declared.call.Call.{Call}
use Rattle.k_hcpa_store.specs.declared.call.Caller.{Caller}
use Rattle.k_hcpa_store.specs.Parts.{reads_in, set_and_on}
use Rattle.k_world.specs.declared.value.Held.{Held}
use Rattle.k_world.specs.declared.value.Read.{Read}
use Rattle.k_world.specs.Worlds.{World}
use Rattle.k_code.specs.declared.code.CodeFunc.{CodeFunc}
use Rattle.k_hcpa_store.specs.Kept.{Kept, window}

-- what operands hold, as they were read
abbrev pub slots_of : List Read → List (Option Held)
slots_of reads = map (λ (r : Read). r.slot) reads

-- so many registers, each holding what its number gives
unfoldable pub held_up_to : ℕ → (ℕ → Option Held) → List (Option Held)
held_up_to zero held = []
held_up_to (suc n) held = held_up_to n held ++ held n ∷ []

-- a function was called, with these registers of all calls, and in this world
abbrev pub called : CodeFunc → ℕ → Option ℕ → List (Option Held) → World → Kept → Kept
called f func to registers w s = record s {
  pc = f.entry;
  call = record { func = func; first = length s.registers; saved = length s.saved; regions = 0; base = length w.memory.live };
  waiting = record { call = s.call; back = s.pc + 1; to = to } ∷ s.waiting;
  registers = registers;
  world = record w { calls = w.calls + 1; size = w.size + f.size };
}

-- the operation of a call was made, and its function entered: it passes no limit
pub record IsEntered (place : Place) (f : CodeFunc) (func : ℕ) (args : List Arg) (to : Option ℕ) (old new : Kept) : Type 0 where
  pub done : Done
  pub world : World
  pub made : (class : Class) (latency : ℕ) → Makes class latency place does.Call (reads_in old args) old.world (Ok done) world
  pub few : overflows world f.size ≡ false
  pub is : new ≡ called f func to (old.registers ++ held_up_to f.registers (parameters f.params (slots_of (reads_in old args)))) world old

-- it was made, and a call more would pass a limit
pub record IsOver (place : Place) (f : CodeFunc) (args : List Arg) (old new : Kept) (end : End) : Type 0 where
  pub done : Done
  pub made : (class : Class) (latency : ℕ) → Makes class latency place does.Call (reads_in old args) old.world (Ok done) new.world
  pub many : overflows new.world f.size ≡ true
  pub ends : end ≡ Trapped StackOverflow place
  pub is : new ≡ record old { world = new.world }

-- how a call of a function goes
abbrev pub CallsTo : Place → CodeFunc → ℕ → List Arg → Option ℕ → Kept → Result Calling Stop → Kept → Type 0
CallsTo place f func args to old (Ok calling.Entered) new = IsEntered place f func args to old new
CallsTo place f func args to old (Ok (calling.Overflowed end)) new = IsOver place f args old new end
CallsTo place f func args to old (Err (stop.Ended end)) new =
    ((class : Class) (latency : ℕ) → Makes class latency place does.Call (reads_in old args) old.world (Err (stop.Ended end)) new.world) × (new ≡ record old { world = new.world })
CallsTo place f func args to old (Err stop.Memory) new = new ≡ old

-- why the operation of a return is not made that moves what was read, if it is not
abbrev pub move_fault : ℕ → Read → Place → Option End
move_fault left r place = if nat_eq left 0 then Some OutOfSteps else if is_set r.slot then None else Some (Trapped Uninit place)

-- why a return of this value is not made, if it is not
abbrev pub value_fault : Kept → Place → Option Arg → Option End
value_fault s place None = None
value_fault s place (Some a) = move_fault s.world.left (read_of (window s.registers s.call.first) a) place

-- what a return of this value gives: its operation was made, or there is none
abbrev pub Gives : Option Arg → Kept → Option Held → Kept → Type 0
Gives None old slot new = (slot ≡ no_value (nat_eq old.call.func old.code.main)) × (new ≡ old)
Gives (Some a) old slot new =
    (done : Done) × (((class : Class) (latency : ℕ) (place : Place) → Makes class latency place does.Move (reads_in old (a ∷ [])) old.world (Ok done) new.world)
    × (slot ≡ Some done.held) × (new ≡ record old { world = new.world }))

-- the world behind a call, but for its events
abbrev pub counted_out : Code → Call → World → World
counted_out code call w = record (objects_kept w call.base) { calls = w.calls - 1; size = w.size - size_of (slice_get code.funcs call.func) }

-- the newest call is no more
abbrev pub dropped : Kept → Kept
dropped s = record s {
  registers = take s.call.first s.registers;
  saved = take s.call.saved s.saved;
  world = counted_out s.code s.call s.world;
}

-- a call that waited goes on with what was returned
abbrev pub resumed : Caller → Option Held → Kept → Kept
resumed w slot s = set_and_on w.to slot w.back (record s { call = w.call })

-- A return of this value: what it gives goes to the caller, or the run is over.
abbrev pub LeavesBy : Option Arg → Kept → Option End → Kept → Type 0
LeavesBy value old None new =
    (slot : Option Held) × ((moved : Kept) × ((w : Caller) × ((rest : List Caller) × (Gives value old slot moved × (moved.waiting ≡ w ∷ rest)
    × (new ≡ resumed w slot (dropped (record moved { waiting = rest })))))))
LeavesBy value old (Some end) new =
    (slot : Option Held) × (Gives value old slot new × (new.waiting ≡ []) × (end ≡ Returned (exit_of slot)))
