-- What a step adds to the events: an operation or none, and then an Enter, Exits, or neither; and what it adds where it ends the run by a return.
use Rattle.std.proofs.Common.{◌≡◌, ℕ, ◌+◌, ◌<◌, ◌≤◌, List, [], ◌∷◌, ◌++◌, map, Option, Some, None, Bool, true, false, refl, sym, ap, subst, arith}
use Rattle.std.specs.Prelude.{if◌then◌else◌, length, replicate, slice_get}
use Rattle.std.proofs.lemmas.Bool.{ltb-true}
use Rattle.std.proofs.lemmas.List.{append-nil}
use Rattle.k_num.specs.declared.initial.Initial.{Initial}
use Rattle.k_num.specs.declared.place.Place.{Place}
use Rattle.k_optab.specs.declared.class.Class.{Class}
use Rattle.k_optab.specs.declared.event.Event.{Event}
use Rattle.k_optab.specs.declared.event.Event.TheVariants as event
use Rattle.k_optab.specs.declared.event.Src.{Src}
use Rattle.k_ending.specs.declared.ending.End.{End}
use Rattle.k_ending.specs.declared.ending.End.TheVariants.{OutOfSteps, Returned, Trapped}
use Rattle.k_mem.specs.declared.start.Start.TheVariants.{Unset}
use Rattle.k_mem.specs.Calls.{push_of}
use Rattle.k_mem.specs.Memory.{Memory}
use Rattle.k_world.specs.declared.act.Act.{Act}
use Rattle.k_world.specs.declared.value.Held.{Held}
use Rattle.k_world.specs.declared.value.Read.{Read}
use Rattle.k_world.specs.Acts.{hidden}
use Rattle.k_world.specs.Changes.{with_elements}
use Rattle.k_world.specs.Operands.{sources, values_of}
use Rattle.k_world.specs.Operations.{Made, Gives, Ends, operation, counted}
use Rattle.k_world.specs.WorldLaws.{IsEarly}
use Rattle.k_world.specs.Worlds.{World}
use Rattle.k_world.proofs.Effects.{effect_frame}
use Rattle.k_world.proofs.Sound.{operation_cases}
use Rattle.k_code.specs.declared.code.Code.{Code}
use Rattle.k_code.specs.declared.code.CodeFunc.{CodeFunc}
use Rattle.k_code.specs.declared.instruction.Do.{Do}
use Rattle.k_code.specs.declared.instruction.Do.TheVariants as act
use Rattle.k_code.specs.declared.instruction.Home.TheVariants.{Local}
use Rattle.k_code.specs.declared.instruction.Instr.{Instr}
use Rattle.k_code.specs.Named.{is_there}
use Rattle.k_code.specs.Reads.{open_regions}
use Rattle.k_code.specs.Steps.{Configuration, Waiting, Run, Going, Over, alone, at_instruction, behind, by_kind, by_operation, called, entered, filled_with, handed_back, is_in_main, left_by, no_value, object_at, opened, operation_of, overflows, reads_of, step}
use Rattle.k_code.specs.Valid.{IsValid}

-- these events, or an operation behind them
pub data Behind (events : List Event) : List Event → Type 0 where
  same : Behind events events
  more : (class : Class) (latency : ℕ) (sources : List Src) (place : Place) → Behind events (events ++ event.Op class latency sources place ∷ [])

-- an instance of one of so many regions is entered, or so many at most are left, or neither
pub data Tail (regions most : ℕ) : List Event → Type 0 where
  none : Tail regions most []
  enters : (region : ℕ) → region < regions → Tail regions most (event.Enter region ∷ [])
  exits : (n : ℕ) → n ≤ most → Tail regions most (replicate n event.Exit)

pub record Adds (regions most : ℕ) (events after : List Event) : Type 0 where
  pub before : List Event
  pub first : Behind events before
  pub tail : List Event
  pub last : Tail regions most tail
  pub is : after ≡ before ++ tail

-- the oldest call was left, with all of its regions
pub record LeavesAll (c : Configuration) (after : List Event) : Type 0 where
  pub oldest : c.waiting ≡ []
  pub before : List Event
  pub first : Behind c.world.events before
  pub is : after ≡ before ++ replicate (c.frame.regions + 1) event.Exit

module _ (code : Code) (valid : IsValid code) where
  abbrev pub Moves : Configuration → Run → Type 0
  Moves c (Going d) = Adds (length code.regions) (open_regions c) c.world.events d.world.events
  Moves c (Over (Returned exit) w) = LeavesAll c w.events
  Moves c (Over end w) = Unit {0}

  -- nothing behind an operation, if one was made
  stays : (c : Configuration) (after : List Event) → Behind c.world.events after → Adds (length code.regions) (open_regions c) c.world.events after
  stays c after first = record { before = after; first = first; tail = []; last = none; is = sym (append-nil after) }

  handed_moves : (c : Configuration) (w : World) (slot : Option Held) → Behind c.world.events w.events → (waiting : List Waiting) → c.waiting ≡ waiting
      → Moves c (handed_back waiting slot (left_by code c.frame w))
  handed_moves c w slot first [] is = record { oldest = is; before = w.events; first = first; is = refl }
  handed_moves c w slot first (caller ∷ waiting) is =
      record { before = w.events; first = first; tail = replicate (c.frame.regions + 1) event.Exit; last = exits (c.frame.regions + 1) (omega arith); is = refl }

  either_moves : (c : Configuration) (b : Bool) (x y : Run) → Moves c x → Moves c y → Moves c (if b then x else y)
  either_moves c true x y one two = one
  either_moves c false x y one two = two

  called_moves : (c d : Configuration) → Behind c.world.events d.world.events → (func : ℕ) (f : Option CodeFunc) → slice_get code.funcs func ≡ f
      → (slots : List (Option Held)) (to : Option ℕ) (place : Place) → Moves c (called f func slots to place d)
  called_moves c d first func None is slots to place = stays c d.world.events first
  called_moves c d first func (Some f) is slots to place =
      let waiting : List Waiting = record { frame = d.frame; back = d.pc + 1; to = to } ∷ d.waiting in
      either_moves c (overflows d.world f.size) (Over (Trapped _ place) d.world) (entered f func slots waiting d.world) tt
      (record { before = d.world.events; first = first; tail = event.Enter f.region ∷ []; last = enters f.region (valid.funcs func f is).region; is = refl })

  behind_moves : (place : Place) (what : Do) (held : Held) (c : Configuration) (w : World) → Behind c.world.events w.events
      → Moves c (behind code place what held (record c { world = w }))
  unfolding behind
  behind_moves place (act.Test a taken other to class) held c w first = stays c w.events first
  behind_moves place (act.Call func args to) held c w first =
      let d : Configuration = record c { world = w } in
      called_moves c d first func (slice_get code.funcs func) refl (map (λ (r : Read). r.slot) (reads_of d (act.Call func args to))) to place
  behind_moves place (act.Return value) held c w first = handed_moves c w (Some held) first c.waiting refl
  behind_moves place what held c w first = stays c w.events first

  opened_moves : (place : Place) (c : Configuration) (elements : ℕ) (m : Option Memory) → Moves c (opened place c (with_elements elements c.world m))
  opened_moves place c elements None = tt
  opened_moves place c elements (Some m) = stays c c.world.events same

  filled_same : (values : List Initial) (n : Option ℕ) (w : World) → (let v : World = filled_with values n w in v.events) ≡ w.events
  filled_same values None w = refl
  filled_same values (Some n) w = refl

  alone_moves : (place : Place) (what : Do) (c : Configuration) → is_there code what ≡ true → Moves c (alone code place what c)
  unfolding alone is_there
  alone_moves place (act.Enter region) c names =
      record { before = c.world.events; first = same; tail = event.Enter region ∷ []; last = enters region (ltb-true region (length code.regions) names); is = refl }
  alone_moves place act.Exit c names =
      record { before = c.world.events; first = same; tail = event.Exit ∷ []; last = exits 1 (omega arith); is = refl }
  alone_moves place (act.ObjectOpen elements) c names = opened_moves place c elements (push_of c.world.memory Unset elements)
  alone_moves place (act.ObjectsClose count) c names = stays c c.world.events same
  alone_moves place (act.Fill local values) c names =
      subst (λ (es : List Event). Adds (length code.regions) (open_regions c) c.world.events es)
      (sym (filled_same values (object_at (Local local) c) c.world)) (stays c c.world.events same)
  alone_moves place (act.Return value) c names = handed_moves c c.world (no_value (is_in_main code c)) same c.waiting refl
  alone_moves place act.Back c names = stays c c.world.events same
  alone_moves place act.Restore c names = stays c c.world.events same
  alone_moves place act.FallOff c names = tt
  alone_moves place what c names = stays c c.world.events same

  -- an operation is one event, and ends no run by a return
  abbrev IsMade : World → Made → Type 0
  IsMade w (Gives held v) = Behind w.events v.events
  IsMade w (Ends end v) = IsEarly end

  operation_made : (class : Class) (latency : ℕ) (place : Place) (what : Act) (reads : List Read) (w : World) → IsMade w (operation class latency place what reads w)
  operation_made class latency place what reads w =
      operation_cases (IsMade w) class latency place what reads w (λ end early. early)
      (λ some v.
      subst (Behind w.events)
      (sym (ap (λ (x : World). x.events) (effect_frame what w.made (values_of reads) (counted class latency place what reads w))))
      (more class latency (sources reads (hidden what (values_of reads) w) w.control) place))

  early_moves : (c : Configuration) (end : End) (w : World) → IsEarly end → Moves c (Over end w)
  early_moves c (Returned exit) w early = absurd early
  early_moves c (Trapped trap place) w early = tt
  early_moves c OutOfSteps w early = tt

  by_operation_moves : (i : Instr) (c : Configuration) (m : Made) → IsMade c.world m → Moves c (by_operation code i c m)
  by_operation_moves i c (Gives held w) first = behind_moves i.place i.act held c w first
  by_operation_moves i c (Ends end w) early = early_moves c end w early

  kind_moves : (i : Instr) (c : Configuration) (o : Option (Class × Act)) → is_there code i.act ≡ true → Moves c (by_kind code i c o)
  kind_moves i c None names = alone_moves i.place i.act c names
  kind_moves i c (Some o) names =
      by_operation_moves i c (operation o.0 i.latency i.place o.1 (reads_of c i.act) c.world)
      (operation_made o.0 i.latency i.place o.1 (reads_of c i.act) c.world)

  -- what a step adds by an instruction that finds what it names
  pub step_moves : (c : Configuration) (i : Instr) → slice_get code.instrs c.pc ≡ Some i → is_there code i.act ≡ true → Moves c (step code (Going c))
  unfolding step
  step_moves c i is names =
      subst (λ (o : Option Instr). Moves c (at_instruction code c o)) (sym is) (kind_moves i c (operation_of i.act) names)
