-- The times behind an instruction that makes an operation and is neither a call nor a return.
use Rattle.std.proofs.Common.{ℕ, ◌≡◌, ◌+◌, ◌-◌, ◌^◌, ◌<◌, ◌≤◌, nat_eq, true, false, List, [], ◌∷◌, ◌++◌, slice_get, Option, Some, Result, Ok, Err, arith, refl, sym, subst, ap, inl, inr, ◌∙◌}
use Rattle.std.specs.Prelude.{if◌then◌else◌}
use Rattle.std.proofs.lemmas.Bool.{cases_Bool}
use Rattle.std.proofs.lemmas.List.{append_assoc}
use Rattle.k_num.specs.declared.place.Place.{Place}
use Rattle.k_optab.specs.declared.class.Class.{Class}
use Rattle.k_optab.specs.declared.event.Event.{Event}
use Rattle.k_optab.specs.Events.{Operation, operations, total_latency}
use Rattle.k_ending.specs.declared.ending.Trap.{Trap}
use Rattle.k_world.specs.declared.act.Act.{Act}
use Rattle.k_world.specs.declared.value.Held.{Held}
use Rattle.k_world.specs.declared.value.Read.{Read}
use Rattle.k_world.specs.declared.value.Value.{Value}
use Rattle.k_world.specs.Acts.{effect, hidden, work}
use Rattle.k_world.specs.Operands.{are_set, sources, source_before, values_of}
use Rattle.k_world.specs.Operations.{Made, Gives, Ends, acted, counted, event_of, operation}
use Rattle.k_world.specs.Values.{is_true}
use Rattle.k_world.specs.Worlds.{World}
use Rattle.k_world.proofs.Effects.{effect_frame, work_framed}
use Rattle.k_world.proofs.Operations.{operation_acts, operation_out, operation_unset}
use Rattle.k_code.specs.declared.code.Code.{Code}
use Rattle.k_code.specs.declared.instruction.Do.{Do}
use Rattle.k_code.specs.declared.instruction.Do.TheVariants as act
use Rattle.k_code.specs.declared.instruction.Instr.{Instr}
use Rattle.k_code.specs.Finds.{Finds}
use Rattle.k_code.specs.Named.{operands, register_set, registers_needed, up_to_operands}
use Rattle.k_code.specs.Steps.{Configuration, Frame, Waiting, Going, at_instruction, behind, by_kind, by_operation, reads_of, step, with_register}
use Rattle.k_hcpa_meaning.specs.Locations.{depends_on, effect_locations, element_touched, first_register, held_in, hidden_locations, operand_locations, register_location, registers_of, source_at, width}
use Rattle.k_hcpa_meaning.specs.Timed.{IsTimed, IsTraced}
use Rattle.k_hcpa_meaning.specs.Timings.{Location, Register, Element, InCell, OutCell, Control, Saved, Timing, given_to, given_to_all, operated}
use Rattle.k_hcpa_laws.specs.Depends.{DependsOn, nothing}
use Rattle.k_hcpa_laws.specs.Laws.{OperationsKeepTimes, StaysInCall}
use Rattle.k_hcpa_laws.proofs.Effects.{depends_hidden, effect_gives, one_depends, register_gives}
use Rattle.k_hcpa_laws.proofs.Making.{HasSame, IsMaking, making, retimed}
use Rattle.k_hcpa_laws.proofs.Opened.{one_more}
use Rattle.k_hcpa_laws.proofs.Registers.{depends_operands}

-- an operation that gave something: its operands were set, its act had a value, and this world is behind it
pub record HasGiven (class : Class) (latency : ℕ) (place : Place) (what : Act) (reads : List Read) (w : World) (held : Held) (after : World) : Type 0 where
  pub value : Value
  pub set : are_set reads ≡ true
  pub works : work what (values_of reads) w ≡ Ok value
  pub held_is : held ≡ record { value = value; source = Some w.made }
  pub after_is : after ≡ effect what w.made (values_of reads) (counted class latency place what reads w)

module _ (class : Class) (latency : ℕ) (place : Place) (what : Act) (reads : List Read) (w : World) (held : Held) (after : World) where
  given_by_act : (r : Result Value Trap) → work what (values_of reads) w ≡ r → are_set reads ≡ true → acted class latency place what reads w r ≡ Gives held after
      → HasGiven class latency place what reads w held after
  given_by_act (Ok v) works set is =
      let both : Gives (record { value = v; source = Some w.made }) (effect what w.made (values_of reads) (counted class latency place what reads w)) ≡ Gives held after = is in
      record { value = v; set = set; works = works; held_is = cc both; after_is = cc both }
  given_by_act (Err e) works set is = absurd (cc is)

  pub operation_given : operation class latency place what reads w ≡ Gives held after → HasGiven class latency place what reads w held after
  operation_given is = elim (cases_Bool (nat_eq w.left 0)) [
    | inl none ↦ (let ends = sym (operation_out class latency place what reads w none) ∙ is in absurd (cc ends))
    | inr some ↦ elim (cases_Bool (are_set reads)) [
      | inl set ↦ given_by_act (work what (values_of reads) w) refl set (sym (operation_acts class latency place what reads w some set) ∙ is)
      | inr unset ↦ (let ends = sym (operation_unset class latency place what reads w some unset) ∙ is in absurd (cc ends))
    ]
  ]

-- the sources of an operation are those of what it depends on
pub depends_all : (code : Code) (c : Configuration) (what : Do) (does : Act) (v : Value) → IsTraced code c → up_to_operands (operands what) ≤ width code c.frame.func
    → are_set (reads_of c what) ≡ true → work does (values_of (reads_of c what)) c.world ≡ Ok v
    → DependsOn code c (sources (reads_of c what) (hidden does (values_of (reads_of c what)) c.world) c.world.control)
    (depends_on (first_register code c) what does (element_touched c what does) ++ Control ∷ [])
unfolding source_at
depends_all code c what does v traced few set works =
    let control : DependsOn code c (source_before c.world.control false []) (Control ∷ []) =
    one_depends code c Control c.world.control [] [] refl nothing in
    let hid = depends_hidden code c (values_of (reads_of c what)) v does (source_before c.world.control false []) (Control ∷ []) traced.laid traced.origins works control in
    let all = depends_operands code c (operands what)
    (source_before (hidden does (values_of (reads_of c what)) c.world) false (source_before c.world.control false []))
    (hidden_locations does (element_touched c what does) ++ Control ∷ []) traced.came few set hid in
    subst (λ (locations : List Location). DependsOn code c (sources (reads_of c what) (hidden does (values_of (reads_of c what)) c.world) c.world.control) locations)
    (sym (append_assoc (operand_locations (first_register code c) (operands what)) (hidden_locations does (element_touched c what does)) (Control ∷ []))) all

-- the operation that an instruction makes
abbrev pub operation_made : Configuration → Do → Class → ℕ → Place → Act → Operation
operation_made c what class latency place does = record {
  class = class;
  latency = latency;
  sources = sources (reads_of c what) (hidden does (values_of (reads_of c what)) c.world) c.world.control;
  place = place;
}

-- where a configuration's world was counted on, each location holds what it held
counted_same : (code : Code) (c : Configuration) (class : Class) (latency : ℕ) (place : Place) (does : Act) (reads : List Read)
    → HasSame code c (record c { world = counted class latency place does reads c.world })
unfolding source_at
counted_same code c class latency place does reads = record { sources = same; saved = refl }
  where
    same : (at : Location) → source_at code (record c { world = counted class latency place does reads c.world }) at ≡ source_at code c at
    same (Register r) = refl
    same (Element e) = refl
    same InCell = refl
    same OutCell = refl
    same Control = refl
    same (Saved n) = refl

-- times where an operation was made and counted, and holds nowhere yet
pub operation_making : (code : Code) (depth : ℕ) (c : Configuration) (t : Timing) (what : Do) (class : Class) (latency : ℕ) (place : Place) (does : Act) (v : Value)
    → IsTraced code c → IsTimed code depth c t → up_to_operands (operands what) ≤ width code c.frame.func
    → are_set (reads_of c what) ≡ true → work does (values_of (reads_of c what)) c.world ≡ Ok v
    → total_latency (operations c.world.events ++ operation_made c what class latency place does ∷ []) < 2 ^ 64
    → IsMaking code depth (record c { world = counted class latency place does (reads_of c what) c.world }) c.world.made
    (operated (depends_on (first_register code c) what does (element_touched c what does)) latency t)
operation_making code depth c t what class latency place does v traced is few set works short =
    subst (λ (number : ℕ). IsMaking code depth (record c { world = counted class latency place does (reads_of c what) c.world }) number
    (operated (depends_on (first_register code c) what does (element_touched c what does)) latency t)) traced.made
    (making code depth c (record c { world = counted class latency place does (reads_of c what) c.world }) t (operation_made c what class latency place does)
    (depends_on (first_register code c) what does (element_touched c what does)) traced is (depends_all code c what does v traced few set works) short
    (one_more c.world.events class latency (sources (reads_of c what) (hidden does (values_of (reads_of c what)) c.world) c.world.control) place)
    (counted_same code c class latency place does (reads_of c what)))

-- the instruction that is next is no matter
pub elsewhere : (code : Code) (c : Configuration) (pc : ℕ) → HasSame code c (record c { pc = pc })
unfolding source_at
elsewhere code c pc = record { sources = same; saved = refl }
  where
    same : (at : Location) → source_at code (record c { pc = pc }) at ≡ source_at code c at
    same (Register r) = refl
    same (Element e) = refl
    same InCell = refl
    same OutCell = refl
    same Control = refl
    same (Saved n) = refl

-- a configuration with this frame, these calls that wait and this world
pub record Lands (frame : Frame) (waiting : List Waiting) (world : World) (c' : Configuration) : Type 0 where
  pub frame_is : c'.frame ≡ frame
  pub waiting_is : c'.waiting ≡ waiting
  pub world_is : c'.world ≡ world

pub landed : (a c' : Configuration) → Going a ≡ Going c' → Lands a.frame a.waiting a.world c'
landed a c' is =
    let same : a ≡ c' = cc is in
    record {
      frame_is = sym (ap (λ (c : Configuration). c.frame) same);
      waiting_is = sym (ap (λ (c : Configuration). c.waiting) same);
      world_is = sym (ap (λ (c : Configuration). c.world) same);
    }

-- times of a configuration are those of each that is it but for the next instruction
pub landed_times : (code : Code) (depth : ℕ) (c c' : Configuration) (t : Timing) → IsTimed code depth c t → Lands c.frame c.waiting c.world c' → IsTimed code depth c' t
landed_times code depth c c' t is lands =
    let same : record c { pc = c'.pc } ≡ c' =
    (λ i. record { pc = c'.pc; frame = sym lands.frame_is i; waiting = sym lands.waiting_is i; world = sym lands.world_is i }) in
    subst (λ (x : Configuration). IsTimed code depth x t) same (retimed code depth c (record c { pc = c'.pc }) t is (elsewhere code c c'.pc) refl)

-- behind an operation that is neither a call nor a return the call has the register set, and no more
behind_is : (code : Code) (place : Place) (what : Do) (held : Held) (c c' : Configuration) → StaysInCall what → behind code place what held c ≡ Going c'
    → Lands (with_register (register_set what) (Some held) c.frame) c.waiting c.world c'
unfolding behind register_set
behind_is code place (act.Test a taken other to class) held c c' stays is =
    landed (record c { pc = if is_true held.value then taken else other; frame = with_register to (Some held) c.frame }) c' is
behind_is code place (act.Call func args to) held c c' stays is = absurd stays
behind_is code place (act.Return value) held c c' stays is = absurd stays
behind_is code place what held c c' stays is = landed (record c { pc = c.pc + 1; frame = with_register (register_set what) (Some held) c.frame }) c' is

-- what was given to some locations and then to others
given_in_turn : (locations others : List Location) (t : Timing) → given_to_all (locations ++ others) t ≡ given_to_all others (given_to_all locations t)
given_in_turn [] others t = refl
given_in_turn (at ∷ locations) others t = given_in_turn locations others (given_to at t)

-- how an instruction goes whose operation gave something
made_is : (code : Code) (i : Instr) (c c' : Configuration) (m : Made) → by_operation code i c m ≡ Going c'
    → (held : Held) × ((w : World) × (m ≡ Gives held w) × (behind code i.place i.act held (record c { world = w }) ≡ Going c'))
made_is code i c c' (Gives held w) is = (held, (w, refl, is))
made_is code i c c' (Ends end w) is = absurd (cc is)

-- the registers that an instruction names are those of its function
pub registers_there : (code : Code) (c : Configuration) (i : Instr) → Finds code c → slice_get code.instrs c.pc ≡ Some i
    → registers_needed i.act ≤ width code c.frame.func
registers_there code c i finds there =
    let same : Some finds.instr ≡ Some i = sym finds.is ∙ there in
    let instr : finds.instr ≡ i = cc same in
    let needed : registers_needed finds.instr.act ≡ registers_needed i.act = ap (λ (x : Instr). registers_needed x.act) instr in
    let wide : width code c.frame.func ≡ finds.func.registers = ap registers_of finds.of in
    omega (arith, finds.registers, needed, wide)

pub operands_there : (what : Do) (count : ℕ) → registers_needed what ≤ count → up_to_operands (operands what) ≤ count
unfolding registers_needed
operands_there what count few = omega (arith, few)

-- the events behind an operation
pub given_events : (class : Class) (latency : ℕ) (place : Place) (what : Act) (reads : List Read) (w : World) (held : Held) (after : World)
    → HasGiven class latency place what reads w held after → after.events ≡ w.events ++ event_of class latency place what reads w ∷ []
given_events class latency place what reads w held after gave =
    ap (λ (x : World). x.events) gave.after_is
    ∙ ap (λ (x : World). x.events) (effect_frame what w.made (values_of reads) (counted class latency place what reads w))

module _ (code : Code) (depth : ℕ) (c c' : Configuration) (t : Timing) (what : Do) (class : Class) (latency : ℕ) (place : Place) (does : Act) (held : Held) (w : World)
    (traced : IsTraced code c) (is : IsTimed code depth c t) (few : up_to_operands (operands what) ≤ width code c.frame.func)
    (gave : HasGiven class latency place does (reads_of c what) c.world held w) where
  -- the world behind the operation, in which it was counted alone
  abbrev counted_world : World
  counted_world = counted class latency place does (reads_of c what) c.world

  -- the world behind its effect
  abbrev effect_world : World
  effect_world = effect does c.world.made (values_of (reads_of c what)) counted_world

  -- the times of the operation
  abbrev times_made : Timing
  times_made = operated (depends_on (first_register code c) what does (element_touched c what does)) latency t

  -- the operations behind it are short, where those of its world are
  pub given_short : total_latency (operations w.events) < 2 ^ 64
      → total_latency (operations c.world.events ++ operation_made c what class latency place does ∷ []) < 2 ^ 64
  given_short short =
      let events : operations w.events ≡ operations c.world.events ++ operation_made c what class latency place does ∷ [] =
      ap (λ (all : List Event). operations all) (given_events class latency place does (reads_of c what) c.world held w gave)
      ∙ (one_more c.world.events class latency (sources (reads_of c what) (hidden does (values_of (reads_of c what)) c.world) c.world.control) place).operations in
      subst (λ (all : List Operation). total_latency all < 2 ^ 64) events short

  -- times where it was made, counted and took effect
  pub given_making : total_latency (operations w.events) < 2 ^ 64
      → IsMaking code depth (record c { world = effect_world }) c.world.made (given_to_all (effect_locations does (element_touched c what does)) times_made)
  given_making short =
      effect_gives code depth (record c { world = counted_world }) c.world.made times_made (values_of (reads_of c what)) gave.value does
      (operation_making code depth c t what class latency place does gave.value traced is few gave.set gave.works (given_short short))
      traced.laid
      (work_framed (c.world.events ++ event_of class latency place does (reads_of c what) c.world ∷ []) (c.world.made + 1) (c.world.left - 1) c.world.calls c.world.size
      c.world.telling counted_world.deeds c.world does (values_of (reads_of c what)) ∙ gave.works)

  -- and where a register holds it
  pub given_times : total_latency (operations w.events) < 2 ^ 64 → Lands (with_register (register_set what) (Some held) c.frame) c.waiting w c'
      → IsTimed code depth c' (given_to_all (held_in (first_register code c) what does (element_touched c what does)) times_made)
  given_times short lands =
      let from : held.source ≡ Some c.world.made = ap (λ (x : Held). x.source) gave.held_is in
      let last = register_gives code depth (record c { world = effect_world }) c.world.made
      (given_to_all (effect_locations does (element_touched c what does)) times_made) (register_set what) held (given_making short) from in
      let turn = given_in_turn (effect_locations does (element_touched c what does)) (register_location (first_register code c) (register_set what)) times_made in
      let behind_it : Configuration = record c { frame = with_register (register_set what) (Some held) c.frame; world = effect_world } in
      landed_times code depth behind_it c' (given_to_all (held_in (first_register code c) what does (element_touched c what does)) times_made)
      (subst (λ (s : Timing). IsTimed code depth behind_it s) (sym turn) last.timed)
      (record { frame_is = lands.frame_is; waiting_is = lands.waiting_is; world_is = lands.world_is ∙ gave.after_is })

pub operations_keep_times : OperationsKeepTimes
unfolding step
operations_keep_times code depth c c' t i o goes makes stays short is =
    let stepped : by_kind code i c (Some o) ≡ Going c' =
    ap (λ (found : Option (Class × Act)). by_kind code i c found) (sym makes)
    ∙ ap (λ (found : Option Instr). at_instruction code c found) (sym goes.there) ∙ goes.step in
    let made = made_is code i c c' (operation o.0 i.latency i.place o.1 (reads_of c i.act) c.world) stepped in
    let lands = behind_is code i.place i.act made.0 (record c { world = made.1.0 }) c' stays made.1.2 in
    given_times code depth c c' t i.act o.0 i.latency i.place o.1 made.0 made.1.0 goes.traced is
    (operands_there i.act (width code c.frame.func) (registers_there code c i goes.finds goes.there))
    (operation_given o.0 i.latency i.place o.1 (reads_of c i.act) c.world made.0 made.1.0 made.1.1)
    (subst (λ (w : World). total_latency (operations w.events) < 2 ^ 64) lands.world_is short) lands
