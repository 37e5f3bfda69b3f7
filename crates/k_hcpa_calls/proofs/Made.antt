-- The operation of a call or of a return is made: times are heaviest paths behind it, and the row is that to the operation.
use Rattle.std.proofs.Common.{◌≡◌, ℕ, ◌<◌, ◌≤◌, ◌^◌, List, [], ◌∷◌, ◌++◌, length, Option, Some, refl, sym, ◌∙◌, ap, arith, subst}
use Rattle.std.specs.Prelude.{slice_get}
use Rattle.std.proofs.lemmas.List.{append-nil, length-append}
use Rattle.k_num.specs.declared.place.Place.{Place}
use Rattle.k_optab.specs.declared.class.Class.{Class}
use Rattle.k_optab.specs.declared.event.Event.{Event}
use Rattle.k_optab.specs.Events.{Operation, operations, total_latency}
use Rattle.k_optab.specs.Open.{open_after}
use Rattle.k_optab.proofs.Opening.{operations_keep}
use Rattle.k_optab.proofs.Trees.{operations-append}
use Rattle.k_world.specs.declared.act.Act.{Act}
use Rattle.k_world.specs.declared.act.Act.TheVariants as does
use Rattle.k_world.specs.declared.value.Held.{Held}
use Rattle.k_world.specs.declared.value.Read.{Read}
use Rattle.k_world.specs.Acts.{effect, hidden}
use Rattle.k_world.specs.Operands.{sources, values_of}
use Rattle.k_world.specs.Operations.{Gives, operation, counted, event_of}
use Rattle.k_world.specs.Worlds.{World}
use Rattle.k_code.specs.declared.code.Code.{Code}
use Rattle.k_code.specs.declared.instruction.Arg.{Arg}
use Rattle.k_code.specs.declared.instruction.Do.{Do}
use Rattle.k_code.specs.declared.instruction.Do.TheVariants.{Call, Return}
use Rattle.k_code.specs.declared.instruction.Instr.{Instr}
use Rattle.k_code.specs.Finds.{Finds}
use Rattle.k_code.specs.Named.{operands, registers_needed, up_to_operands}
use Rattle.k_code.specs.Steps.{Configuration, reads_of}
use Rattle.k_hcpa_meaning.specs.Locations.{depends_on, effect_locations, element_touched, first_register, hidden_locations, operand_locations, source_at, width}
use Rattle.k_hcpa_meaning.specs.Timed.{IsTimed, IsTraced}
use Rattle.k_hcpa_meaning.specs.Timings.{Location, Register, Element, InCell, OutCell, Control, Saved, Timing, given_to_all, operated}
use Rattle.k_hcpa_laws.proofs.Making.{IsMaking}
use Rattle.k_hcpa_laws.proofs.Operations.{HasGiven, given_events, given_making, operation_given, registers_there}

-- An instruction has these operands, and its act reads and writes nothing else.
pub record IsQuiet (what : Do) (does : Act) (args : List Arg) : Type 0 where
  pub operands : operands what ≡ args
  pub hides : (element : Option ℕ) → hidden_locations does element ≡ []
  pub gives : (element : Option ℕ) → effect_locations does element ≡ []

pub call_quiet : (func : ℕ) (args : List Arg) (to : Option ℕ) → IsQuiet (Call func args to) does.Call args
unfolding operands hidden_locations effect_locations
call_quiet func args to = record { operands = refl; hides = λ element. refl; gives = λ element. refl }

pub move_quiet : (a : Arg) → IsQuiet (Return (Some a)) does.Move (a ∷ [])
unfolding operands hidden_locations effect_locations
move_quiet a = record { operands = refl; hides = λ element. refl; gives = λ element. refl }

-- the newest call has the registers of the operands
pub operands_few : (code : Code) (c : Configuration) (i : Instr) → Finds code c → slice_get code.instrs c.pc ≡ Some i → up_to_operands (operands i.act) ≤ width code c.frame.func
unfolding registers_needed
operands_few code c i finds there = omega (arith, registers_there code c i finds there)

module _ (code : Code) (depth : ℕ) (c : Configuration) (t : Timing) (class : Class) (i : Instr) (does : Act) (args : List Arg) (held : Held) (w : World)
    (quiet : IsQuiet i.act does args) (gives : operation class i.latency i.place does (reads_of c i.act) c.world ≡ Gives held w) where
  gave : HasGiven class i.latency i.place does (reads_of c i.act) c.world held w
  gave = operation_given class i.latency i.place does (reads_of c i.act) c.world held w gives

  -- what it gives comes from itself
  pub gives_new : held.source ≡ Some c.world.made
  gives_new = ap (λ (x : Held). x.source) gave.held_is

  -- the same instances are open
  pub same_open : open_after w.events ≡ open_after c.world.events
  same_open =
      ap (λ (events : List Event). open_after events) (given_events class i.latency i.place does (reads_of c i.act) c.world held w gave)
      ∙ (operations_keep c.world.events class i.latency (sources (reads_of c i.act) (hidden does (values_of (reads_of c i.act)) c.world) c.world.control) i.place).0

  -- and no fewer operations are among the events
  pub more_operations : length (operations c.world.events) ≤ length (operations w.events)
  more_operations =
      let event : Event = event_of class i.latency i.place does (reads_of c i.act) c.world in
      let is : operations w.events ≡ operations c.world.events ++ operations (event ∷ []) =
      ap (λ (events : List Event). operations events) (given_events class i.latency i.place does (reads_of c i.act) c.world held w gave)
      ∙ operations-append c.world.events (event ∷ []) in
      let all : length (operations w.events) ≡ length (operations c.world.events ++ operations (event ∷ [])) = ap (λ (ops : List Operation). length ops) is in
      let sum = length-append (operations c.world.events) (operations (event ∷ [])) in
      omega (arith, all, sum)

  -- times are heaviest paths behind it
  pub operation_timed : slice_get code.instrs c.pc ≡ Some i → IsTraced code c → Finds code c → IsTimed code depth c t → total_latency (operations w.events) < 2 ^ 64
      → IsMaking code depth (record c { world = w }) c.world.made (operated (operand_locations (first_register code c) args) i.latency t)
  operation_timed there traced finds is short =
      let element : Option ℕ = element_touched c i.act does in
      let first : ℕ = first_register code c in
      let depends : depends_on first i.act does element ≡ operand_locations first args =
      ap (λ (locations : List Location). operand_locations first (operands i.act) ++ locations) (quiet.hides element)
      ∙ (append-nil (operand_locations first (operands i.act)) ∙ ap (operand_locations first) quiet.operands) in
      let times : given_to_all (effect_locations does element) (operated (depends_on first i.act does element) i.latency t) ≡ operated (operand_locations first args) i.latency t =
      ap (λ (locations : List Location). given_to_all locations (operated (depends_on first i.act does element) i.latency t)) (quiet.gives element)
      ∙ ap (λ (locations : List Location). operated locations i.latency t) depends in
      subst (λ (s : Timing). IsMaking code depth (record c { world = w }) c.world.made s) times
      (subst (λ (x : World). IsMaking code depth (record c { world = x }) c.world.made
      (given_to_all (effect_locations does element) (operated (depends_on first i.act does element) i.latency t))) (sym gave.after_is)
      (given_making code depth c c t i.act class i.latency i.place does held w traced is (operands_few code c i finds there) gave short))

-- behind a call's operation all is held that was
counted_source : (code : Code) (c : Configuration) (class : Class) (latency : ℕ) (place : Place) (what : Act) (reads : List Read) (at : Location)
    → source_at code (record c { world = counted class latency place what reads c.world }) at ≡ source_at code c at
unfolding source_at
counted_source code c class latency place what reads (Register r) = refl
counted_source code c class latency place what reads (Element e) = refl
counted_source code c class latency place what reads InCell = refl
counted_source code c class latency place what reads OutCell = refl
counted_source code c class latency place what reads Control = refl
counted_source code c class latency place what reads (Saved n) = refl

-- a call's operation was counted, and nothing else has changed
pub called_source : (code : Code) (c : Configuration) (class : Class) (latency : ℕ) (place : Place) (reads : List Read) (held : Held) (w : World)
    → operation class latency place does.Call reads c.world ≡ Gives held w → (at : Location) → source_at code (record c { world = w }) at ≡ source_at code c at
unfolding effect
called_source code c class latency place reads held w gives at =
    let world : w ≡ counted class latency place does.Call reads c.world = (operation_given class latency place does.Call reads c.world held w gives).after_is in
    ap (λ (v : World). source_at code (record c { world = v }) at) world ∙ counted_source code c class latency place does.Call reads at
