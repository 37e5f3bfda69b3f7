-- Whether the operation of a next step is made, by how the step goes.
use Rattle.std.proofs.Common.{◌≡◌, ℕ, ◌+◌, List, [], ◌∷◌, ◌++◌, length, Option, Some, None, Bool, true, false, nat_eq, arith, refl, sym, ◌∙◌, ap, subst}
use Rattle.std.specs.Prelude.{◌&&◌, slice_get}
use Rattle.std.proofs.lemmas.List.{length-append}
use Rattle.k_num.specs.declared.place.Place.{Place}
use Rattle.k_optab.specs.declared.class.Class.{Class}
use Rattle.k_optab.specs.declared.class.Class.TheVariants as class
use Rattle.k_optab.specs.declared.event.Event.{Event}
use Rattle.k_ending.specs.declared.ending.End.{End}
use Rattle.k_ending.specs.declared.ending.End.TheVariants.{Trapped, OutOfSteps}
use Rattle.k_ending.specs.declared.ending.Trap.TheVariants.{Uninit}
use Rattle.k_world.specs.declared.act.Act.{Act}
use Rattle.k_world.specs.declared.act.Act.TheVariants as does
use Rattle.k_world.specs.declared.value.Held.{Held}
use Rattle.k_world.specs.declared.value.Read.{Read}
use Rattle.k_world.specs.declared.value.Value.{Value}
use Rattle.k_world.specs.Acts.{effect, hidden, work}
use Rattle.k_world.specs.Deeds.{Deed}
use Rattle.k_world.specs.Operands.{are_set, is_set, value_before, values_of}
use Rattle.k_world.specs.Operations.{Made, Gives, Ends, acted, counted, event_of, operation}
use Rattle.k_world.specs.Worlds.{World}
use Rattle.k_world.proofs.Effects.{effect_frame}
use Rattle.k_world.proofs.Operations.{operation_acts, operation_out, operation_unset}
use Rattle.k_world.proofs.Sound.{operation_cases}
use Rattle.k_code.specs.declared.code.Code.{Code}
use Rattle.k_code.specs.declared.instruction.Instr.{Instr}
use Rattle.k_code.specs.Budgets.{Begins}
use Rattle.k_code.specs.Runs.{world_of}
use Rattle.k_code.specs.Steps.{Configuration, Run, Going, Over, by_operation, operation_of, reads_of, step}
use Rattle.k_code.proofs.Growing.{Grows, behind_grows}
use Rattle.k_hcpa_store.proofs.Stepping.{step_by}
use Rattle.k_replay_code.specs.Performed.{if_made, performed_at, performed_by, performed_next}
use Rattle.k_replay_code.specs.Steps.{called_by, moved_by}

-- what an operation leaves behind an event; where it ends the run, nothing has changed
abbrev pub LeavesBehind : Event → World → Made → Type 0
LeavesBehind e w (Gives held v) = v.events ≡ w.events ++ e ∷ []
LeavesBehind e w (Ends end v) = v ≡ w

pub operation_leaves : (class : Class) (latency : ℕ) (place : Place) (what : Act) (reads : List Read) (w : World)
    → LeavesBehind (event_of class latency place what reads w) w (operation class latency place what reads w)
operation_leaves class latency place what reads w =
    operation_cases (LeavesBehind (event_of class latency place what reads w) w) class latency place what reads w (λ end early. refl)
    (λ some v. ap (λ (x : World). x.events) (effect_frame what w.made (values_of reads) (counted class latency place what reads w)))

longer : (xs ys : List Event) (e : Event) → xs ≡ (xs ++ e ∷ []) ++ ys → ⊥
longer xs ys e is =
    let all : length ((xs ++ e ∷ []) ++ ys) ≡ length (xs ++ e ∷ []) + length ys = length-append (xs ++ e ∷ []) ys in
    let one : length (xs ++ e ∷ []) ≡ length xs + 1 = length-append xs (e ∷ []) in
    let same : length xs ≡ length ((xs ++ e ∷ []) ++ ys) = ap length is in
    omega (arith, all, one, same)

more : (xs ys : List Event) (e : Event) → xs ≡ xs ++ e ∷ ys → ⊥
more xs ys e is =
    let all : length (xs ++ e ∷ ys) ≡ length xs + length (e ∷ ys) = length-append xs (e ∷ ys) in
    let same : length xs ≡ length (xs ++ e ∷ ys) = ap length is in
    omega (arith, all, same)

module _ (code : Code) (c : Configuration) (i : Instr) (is : slice_get code.instrs c.pc ≡ Some i) where
  pub next_by : performed_next code (Going c) ≡ performed_by i c (operation_of i.act)
  unfolding performed_next
  next_by = ap (performed_at c) is

  -- an instruction makes no operation
  pub next_none : operation_of i.act ≡ None → performed_next code (Going c) ≡ []
  next_none none = next_by ∙ ap (performed_by i c) none

  module _ (o : Class × Act) (makes : operation_of i.act ≡ Some o) where
    abbrev made : Made
    made = operation o.0 i.latency i.place o.1 (reads_of c i.act) c.world

    pub next_made : performed_next code (Going c) ≡ if_made o.1 (reads_of c i.act) c.world made
    next_made = next_by ∙ ap (performed_by i c) makes

    goes : step code (Going c) ≡ by_operation code i c made
    goes = step_by code c i is o makes

    -- the run ends where nothing has changed: the operation is not made
    pub next_ended : (end : End) → step code (Going c) ≡ Over end c.world → performed_next code (Going c) ≡ []
    next_ended end over = next_made ∙ not_made made (operation_leaves o.0 i.latency i.place o.1 (reads_of c i.act) c.world) (sym goes ∙ over)
      where
        not_made : (m : Made) → LeavesBehind (event_of o.0 i.latency i.place o.1 (reads_of c i.act) c.world) c.world m → by_operation code i c m ≡ Over end c.world
            → if_made o.1 (reads_of c i.act) c.world m ≡ []
        not_made (Ends why v) left same = refl
        not_made (Gives held v) left same =
            let grows : Grows v (world_of (by_operation code i c (Gives held v))) = behind_grows code i.place i.act held (record c { world = v }) in
            let begins : Begins v.events (world_of (by_operation code i c (Gives held v))).events = grows.events in
            absurd (longer c.world.events begins.0 (event_of o.0 i.latency i.place o.1 (reads_of c i.act) c.world)
            (sym (ap (λ (r : Run). (world_of r).events) same) ∙ begins.1 ∙ ap (λ (es : List Event). es ++ begins.0) left))

    -- an event is behind the step: the run was not ended by the operation
    not_ended : (end : End) (e : Event) (es : List Event) → made ≡ Ends end c.world → (world_of (step code (Going c))).events ≡ c.world.events ++ e ∷ es → ⊥
    not_ended end e es ends events =
        more c.world.events es e (sym (ap (λ (r : Run). (world_of r).events) (goes ∙ ap (by_operation code i c) ends)) ∙ events)

-- a call gives 0, and has no hidden operand
call_gives : (class : Class) (latency : ℕ) (place : Place) (reads : List Read) (w : World)
    → if_made does.Call reads w (acted class latency place does.Call reads w (work does.Call (values_of reads) w)) ≡ called_by reads w.control ∷ []
unfolding work hidden
call_gives class latency place reads w = refl

pub called : (code : Code) (c : Configuration) (i : Instr) → slice_get code.instrs c.pc ≡ Some i → operation_of i.act ≡ Some (class.Call, does.Call)
    → (e : Event) (es : List Event) → (world_of (step code (Going c))).events ≡ c.world.events ++ e ∷ es
    → performed_next code (Going c) ≡ called_by (reads_of c i.act) c.world.control ∷ []
called code c i is makes e es events = next_made code c i is o makes ∙ by (nat_eq c.world.left 0) (are_set reads) refl refl
  where
    o : Class × Act
    o = (class.Call, does.Call)

    reads : List Read
    reads = reads_of c i.act

    by : (x y : Bool) → nat_eq c.world.left 0 ≡ x → are_set reads ≡ y
        → if_made does.Call reads c.world (operation class.Call i.latency i.place does.Call reads c.world) ≡ called_by reads c.world.control ∷ []
    by true y out set = absurd (not_ended code c i is o makes OutOfSteps e es (operation_out class.Call i.latency i.place does.Call reads c.world out) events)
    by false false left set =
        absurd (not_ended code c i is o makes (Trapped Uninit i.place) e es (operation_unset class.Call i.latency i.place does.Call reads c.world left set) events)
    by false true left set =
        ap (if_made does.Call reads c.world) (operation_acts class.Call i.latency i.place does.Call reads c.world left set)
        ∙ call_gives class.Call i.latency i.place reads c.world

-- a move gives what was read
move_gives : (class : Class) (latency : ℕ) (place : Place) (r : Read) (held : Held) (w : World)
    → if_made does.Move (r ∷ []) w (acted class latency place does.Move (r ∷ []) w (work does.Move (held.value ∷ []) w)) ≡ moved_by (r ∷ []) w.control (Some held)
unfolding work hidden
move_gives class latency place r held w = refl

pub moved : (class : Class) (latency : ℕ) (place : Place) (w : World) (r : Read) (slot : Option Held) → r.slot ≡ slot → nat_eq w.left 0 ≡ false → is_set slot ≡ true
    → if_made does.Move (r ∷ []) w (operation class latency place does.Move (r ∷ []) w) ≡ moved_by (r ∷ []) w.control slot
moved class latency place w r None at left set = absurd (cc set)
moved class latency place w r (Some held) at left set =
    let there : are_set (r ∷ []) ≡ true = ap (λ (s : Option Held). is_set s && true) at in
    let values : values_of (r ∷ []) ≡ held.value ∷ [] = ap (λ (s : Option Held). value_before s []) at in
    ap (if_made does.Move (r ∷ []) w) (operation_acts class latency place does.Move (r ∷ []) w left there)
    ∙ ap (λ (vs : List Value). if_made does.Move (r ∷ []) w (acted class latency place does.Move (r ∷ []) w (work does.Move vs w))) values
    ∙ move_gives class latency place r held w
