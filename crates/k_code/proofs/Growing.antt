-- A step only adds events and output.
use Rattle.std.proofs.Common.{◌≡◌, ℕ, ◌+◌, List, [], ◌∷◌, ◌++◌, map, Option, Some, None, Result, Ok, Err, Bool, true, false, ℤ, refl, sym, ◌∙◌, ap}
use Rattle.std.specs.Prelude.{if◌then◌else◌, slice_get, replicate}
use Rattle.std.proofs.lemmas.List.{append_assoc, append-nil}
use Rattle.k_num.specs.declared.initial.Initial.{Initial}
use Rattle.k_num.specs.declared.place.Place.{Place}
use Rattle.k_optab.specs.declared.class.Class.{Class}
use Rattle.k_optab.specs.declared.event.Event.{Event}
use Rattle.k_optab.specs.declared.event.Event.TheVariants as event
use Rattle.k_ending.specs.declared.ending.End.TheVariants.{Trapped}
use Rattle.k_ending.specs.declared.ending.Trap.TheVariants.{StackOverflow}
use Rattle.k_ending.specs.declared.ending.Trap.{Trap}
use Rattle.k_mem.specs.declared.pointer.Pointer.{Pointer}
use Rattle.k_mem.specs.declared.start.Start.TheVariants.{Unset}
use Rattle.k_mem.specs.Memory.{Memory}
use Rattle.k_mem.specs.Calls.{push_of}
use Rattle.k_world.specs.declared.act.Act.{Act}
use Rattle.k_world.specs.declared.act.Act.TheVariants as does
use Rattle.k_world.specs.declared.value.Held.{Held}
use Rattle.k_world.specs.declared.value.Read.{Read}
use Rattle.k_world.specs.declared.value.Value.{Value}
use Rattle.k_world.specs.Acts.{effect, store_effect, output_effect, written, pointer_and_number}
use Rattle.k_world.specs.Changes.{with_elements}
use Rattle.k_world.specs.Operands.{values_of}
use Rattle.k_world.specs.Operations.{Made, Gives, Ends, operation, counted, event_of}
use Rattle.k_world.specs.Worlds.{World}
use Rattle.k_world.proofs.Sound.{operation_cases}
use Rattle.k_code.specs.declared.code.Code.{Code}
use Rattle.k_code.specs.declared.code.CodeFunc.{CodeFunc}
use Rattle.k_code.specs.declared.instruction.Do.{Do}
use Rattle.k_code.specs.declared.instruction.Do.TheVariants as act
use Rattle.k_code.specs.declared.instruction.Home.TheVariants.{Local}
use Rattle.k_code.specs.declared.instruction.Instr.{Instr}
use Rattle.k_code.specs.Budgets.{Begins}
use Rattle.k_code.specs.Runs.{world_of}
use Rattle.k_code.specs.Steps.{Configuration, Waiting, Run, Going, Over, step, at_instruction, by_kind, by_operation, behind, alone, called, entered, overflows, no_value, returned, handed_back, left_by, opened, filled_with, object_at, operation_of, is_in_main, reads_of}

-- events and output go on
pub record Grows (before after : World) : Type 0 where
  pub events : Begins before.events after.events
  pub output : Begins before.output after.output

same_begins : {X : Type 0} (xs : List X) → Begins xs xs
same_begins xs = ([], sym (append-nil xs))

more_begins : {X : Type 0} (xs ys : List X) → Begins xs (xs ++ ys)
more_begins xs ys = (ys, refl)

begins_on : {X : Type 0} (xs ys zs : List X) → Begins xs ys → Begins ys zs → Begins xs zs
begins_on xs ys zs one two = (one.0 ++ two.0, two.1 ∙ (ap (λ l. l ++ two.0) one.1 ∙ append_assoc xs one.0 two.0))

pub grows_not : (w : World) → Grows w w
grows_not w = record { events = same_begins w.events; output = same_begins w.output }

pub grows_on : (u v w : World) → Grows u v → Grows v w → Grows u w
grows_on u v w one two = record { events = begins_on u.events v.events w.events one.events two.events; output = begins_on u.output v.output w.output one.output two.output }

-- a world with the same events and output
pub grows_same : (before after : World) → after.events ≡ before.events → after.output ≡ before.output → Grows before after
grows_same before after e o = record { events = ([], e ∙ sym (append-nil before.events)); output = ([], o ∙ sym (append-nil before.output)) }

-- and with an event more
pub grows_event : (e : Event) (w after : World) → after.events ≡ w.events ++ e ∷ [] → after.output ≡ w.output → Grows w after
grows_event e w after is o = record { events = (e ∷ [], is); output = ([], o ∙ sym (append-nil w.output)) }

store_grows : (number : ℕ) (s : Option (Pointer × ℤ)) (w : World) → Grows w (store_effect number s w)
store_grows number None w = grows_not w
store_grows number (Some s) w = grows_same w (store_effect number (Some s) w) refl refl

output_grows : (number : ℕ) (bytes : Result (List ℕ) Trap) (w : World) → Grows w (output_effect number bytes w)
output_grows number (Ok bytes) w = record { events = same_begins w.events; output = more_begins w.output bytes }
output_grows number (Err t) w = grows_not w

effect_grows : (what : Act) (number : ℕ) (values : List Value) (w : World) → Grows w (effect what number values w)
unfolding effect
effect_grows (does.Binary op kind) number values w = grows_not w
effect_grows (does.Unary op kind) number values w = grows_not w
effect_grows (does.Convert kind) number values w = grows_not w
effect_grows does.Move number values w = grows_not w
effect_grows (does.Offset minus scale) number values w = grows_not w
effect_grows (does.PtrCompare op) number values w = grows_not w
effect_grows (does.PtrDistance scale) number values w = grows_not w
effect_grows does.Load number values w = grows_not w
effect_grows does.Store number values w = store_grows number (pointer_and_number values) w
effect_grows does.Input number values w = grows_same w (effect does.Input number values w) refl refl
effect_grows (does.Output what) number values w = output_grows number (written what values) w
effect_grows does.Test number values w = grows_same w (effect does.Test number values w) refl refl
effect_grows does.Call number values w = grows_not w

-- the world that an operation leaves
abbrev pub made_world : Made → World
made_world (Gives held w) = w
made_world (Ends end w) = w

pub operation_grows : (class : Class) (latency : ℕ) (place : Place) (what : Act) (reads : List Read) (w : World)
    → Grows w (made_world (operation class latency place what reads w))
operation_grows class latency place what reads w =
    operation_cases (λ m. Grows w (made_world m)) class latency place what reads w
    (λ end early. grows_not w)
    (λ some v. grows_on w (counted class latency place what reads w) (effect what w.made (values_of reads) (counted class latency place what reads w))
    (grows_event (event_of class latency place what reads w) w (counted class latency place what reads w) refl refl)
    (effect_grows what w.made (values_of reads) (counted class latency place what reads w)))

handed_grows : (w v : World) (waiting : List Waiting) (slot : Option Held) → Grows w v → Grows w (world_of (handed_back waiting slot v))
handed_grows w v [] slot g = g
handed_grows w v (x ∷ waiting) slot g = g

returned_grows : (code : Code) (slot : Option Held) (c : Configuration) → Grows c.world (world_of (returned code slot c))
returned_grows code slot c =
    handed_grows c.world (left_by code c.frame c.world) c.waiting slot
    (record { events = more_begins c.world.events (replicate (c.frame.regions + 1) event.Exit); output = same_begins c.world.output })

entered_grows : (f : CodeFunc) (func : ℕ) (slots : List (Option Held)) (waiting : List Waiting) (w : World) → Grows w (world_of (entered f func slots waiting w))
entered_grows f func slots waiting w = record { events = more_begins w.events (event.Enter f.region ∷ []); output = same_begins w.output }

-- where a test decides
either_grows : (w : World) (b : Bool) (x y : Run) → Grows w (world_of x) → Grows w (world_of y) → Grows w (world_of (if b then x else y))
either_grows w true x y one two = one
either_grows w false x y one two = two

called_grows : (f : Option CodeFunc) (func : ℕ) (slots : List (Option Held)) (to : Option ℕ) (place : Place) (c : Configuration) → Grows c.world (world_of (called f func slots to place c))
called_grows None func slots to place c = grows_not c.world
called_grows (Some f) func slots to place c =
    let waiting : List Waiting = record { frame = c.frame; back = c.pc + 1; to = to } ∷ c.waiting in
    either_grows c.world (overflows c.world f.size) (Over (Trapped StackOverflow place) c.world) (entered f func slots waiting c.world)
    (grows_not c.world) (entered_grows f func slots waiting c.world)

-- what comes behind an operation
pub behind_grows : (code : Code) (place : Place) (what : Do) (held : Held) (c : Configuration) → Grows c.world (world_of (behind code place what held c))
unfolding behind
behind_grows code place (act.Test a taken other to class) held c = grows_not c.world
behind_grows code place (act.Call func args to) held c =
    called_grows (slice_get code.funcs func) func (map (λ (r : Read). r.slot) (reads_of c (act.Call func args to))) to place c
behind_grows code place (act.Return value) held c = returned_grows code (Some held) c
behind_grows code place what held c = grows_not c.world

opened_grows : (place : Place) (c : Configuration) (elements : ℕ) (m : Option Memory) → Grows c.world (world_of (opened place c (with_elements elements c.world m)))
opened_grows place c elements None = grows_not c.world
opened_grows place c elements (Some m) = record { events = same_begins c.world.events; output = same_begins c.world.output }

filled_grows : (values : List Initial) (n : Option ℕ) (w : World) → Grows w (filled_with values n w)
filled_grows values None w = grows_not w
filled_grows values (Some n) w = record { events = same_begins w.events; output = same_begins w.output }

-- what makes no operation
alone_grows : (code : Code) (place : Place) (what : Do) (c : Configuration) → Grows c.world (world_of (alone code place what c))
unfolding alone
alone_grows code place (act.Enter region) c = record { events = more_begins c.world.events (event.Enter region ∷ []); output = same_begins c.world.output }
alone_grows code place act.Exit c = record { events = more_begins c.world.events (event.Exit ∷ []); output = same_begins c.world.output }
alone_grows code place (act.ObjectOpen elements) c = opened_grows place c elements (push_of c.world.memory Unset elements)
alone_grows code place (act.ObjectsClose count) c = record { events = same_begins c.world.events; output = same_begins c.world.output }
alone_grows code place (act.Fill local values) c = filled_grows values (object_at (Local local) c) c.world
alone_grows code place (act.Return value) c = returned_grows code (no_value (is_in_main code c)) c
alone_grows code place act.Back c = record { events = same_begins c.world.events; output = same_begins c.world.output }
alone_grows code place act.Restore c = record { events = same_begins c.world.events; output = same_begins c.world.output }
alone_grows code place what c = grows_not c.world

pub by_operation_grows : (code : Code) (i : Instr) (c : Configuration) (m : Made) → Grows c.world (made_world m) → Grows c.world (world_of (by_operation code i c m))
by_operation_grows code i c (Gives held w) g = grows_on c.world w (world_of (behind code i.place i.act held (record c { world = w }))) g (behind_grows code i.place i.act held (record c { world = w }))
by_operation_grows code i c (Ends end w) g = g

kind_grows : (code : Code) (i : Instr) (c : Configuration) (o : Option (Class × Act)) → Grows c.world (world_of (by_kind code i c o))
kind_grows code i c None = alone_grows code i.place i.act c
kind_grows code i c (Some o) =
    by_operation_grows code i c (operation o.0 i.latency i.place o.1 (reads_of c i.act) c.world) (operation_grows o.0 i.latency i.place o.1 (reads_of c i.act) c.world)

instruction_grows : (code : Code) (c : Configuration) (i : Option Instr) → Grows c.world (world_of (at_instruction code c i))
instruction_grows code c None = grows_not c.world
instruction_grows code c (Some i) = kind_grows code i c (operation_of i.act)

pub step_grows : (code : Code) (r : Run) → Grows (world_of r) (world_of (step code r))
unfolding step
step_grows code (Going c) = instruction_grows code c (slice_get code.instrs c.pc)
step_grows code (Over end w) = grows_not w
