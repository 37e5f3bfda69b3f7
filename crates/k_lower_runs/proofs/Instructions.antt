-- One instruction does what one operation of *Evaluation* does: it reads the same, so whatever the operation comes to is the same.
use Rattle.std.proofs.Common.{ℕ, suc, zero, ◌≡◌, ◌+◌, ◌≤◌, if◌then◌else◌, List, [], ◌∷◌, map, slice_get, Option, Some, None, refl, sym, ap, ◌∙◌, arith}
use Rattle.std.proofs.lemmas.Bool.{eq-eqb, ne_eqb}
use Rattle.k_num.specs.declared.place.Place.{Place}
use Rattle.k_optab.specs.declared.class.Class.{Class}
use Rattle.k_optab.specs.Latencies.{latency}
use Rattle.k_world.specs.declared.act.Act.{Act}
use Rattle.k_world.specs.declared.value.Held.{Held}
use Rattle.k_world.specs.Operations.{Made, Gives, Ends, operation}
use Rattle.k_world.specs.Worlds.{World}
use Rattle.k_code.specs.declared.code.Code.{Code}
use Rattle.k_code.specs.declared.instruction.Do.{Do}
use Rattle.k_code.specs.declared.instruction.Instr.{Instr}
use Rattle.k_code.specs.Named.{operands}
use Rattle.k_code.specs.Steps.{Configuration, Going, step, at_instruction, by_kind, by_operation, alone, behind, onward, operation_of, read_of, with_register, with_slot}
use Rattle.k_evaluation.specs.declared.operand.Operand.{Operand}
use Rattle.k_evaluation.specs.States.{Program, State, gives, read, made, makes}
use Rattle.k_lower_code.specs.Pieces.{does, instruction, latency_by}
use Rattle.k_lower_runs.proofs.Leads.{Registers, Site, at, Agrees, Keeps, keeps_itself, goes_itself, goes_by_operation, HasAt, Leads, Follows, ends_at, Moves, operation_moves}
use Rattle.k_world.specs.WorldLaws.{WhereMade}

-- the register that was set holds this, and others are as before
pub slot_here : (to : ℕ) (slot : Option Held) (registers : Registers) → with_slot to slot registers to ≡ slot
slot_here to slot registers = ap (λ b. if b then slot else registers to) (eq-eqb to to refl)

pub slot_there : (to : ℕ) (slot : Option Held) (registers : Registers) (k : ℕ) → (k ≡ to → ⊥) → with_slot to slot registers k ≡ registers k
slot_there to slot registers k differs = ap (λ b. if b then slot else registers k) (ne_eqb k to differs)

module _ (code : Code) where
  step_is : (c : Configuration) (i : Instr) → slice_get code.instrs c.pc ≡ Some i → step code (Going c) ≡ by_kind code i c (operation_of i.act)
  unfolding step
  step_is c i has = ap (at_instruction code c) has

  -- the step of an instruction that makes an operation: it makes the one that *Evaluation* makes
  pub operation_steps : (site : Site) (first : ℕ) (s : State) (registers : Registers) (program : Program) (place : Place) (class : Class) (what : Act)
      (read_here : List Operand) (act : Do) → HasAt code first (instruction program place act ∷ []) → operation_of act ≡ Some (class, what)
      → map (read s) read_here ≡ map (read_of registers) (operands act)
      → step code (Going (at site first registers s.world))
      ≡ by_operation code (instruction program place act) (at site first registers s.world) (operation class (latency program.latencies class) place what (map (read s) read_here) s.world)
  operation_steps site first s registers program place class what read_here act has of reads =
      step_is (at site first registers s.world) (instruction program place act) has.0
      ∙ ap (by_kind code (instruction program place act) (at site first registers s.world)) of
      ∙ ap (λ l. by_operation code (instruction program place act) (at site first registers s.world) (operation class l place what (map (read_of registers) (operands act)) s.world)) (ap (latency_by program.latencies) of)
      ∙ ap (λ reads. by_operation code (instruction program place act) (at site first registers s.world) (operation class (latency program.latencies class) place what reads s.world)) (sym reads)

  -- the step of an instruction that makes none
  pub alone_steps : (site : Site) (first : ℕ) (w : World) (registers : Registers) (program : Program) (place : Place) (act : Do)
      → HasAt code first (instruction program place act ∷ []) → operation_of act ≡ None
      → step code (Going (at site first registers w)) ≡ alone code place act (at site first registers w)
  alone_steps site first w registers program place act has of =
      step_is (at site first registers w) (instruction program place act) has.0 ∙ ap (by_kind code (instruction program place act) (at site first registers w)) of

  module _ (deep count : ℕ) where
    -- a register behind the variables is set: they agree as before
    pub agrees_behind : (s : State) (w : World) (registers : Registers) (to : ℕ) (slot : Option Held) → count ≤ to → Agrees count s registers
        → Agrees count (record s { world = w }) (with_slot to slot registers)
    agrees_behind s w registers to slot low agrees = record {
      length_is = agrees.length_is;
      hold = λ k below. slot_there to slot registers k (λ same. omega (arith, same, below, low)) ∙ agrees.hold k below;
    }

    -- a temporary is set: those below it are as before
    pub keeps_below : (r to : ℕ) (slot : Option Held) (registers : Registers) → r ≤ to → Keeps count r registers (with_slot to slot registers)
    keeps_below r to slot registers low k at_least below = slot_there to slot registers k (λ same. omega (arith, same, below, low))

    -- AN OPERATION WHOSE VALUE GOES TO A TEMPORARY
    pub operation_follows : (r to : ℕ) (P : Registers → Type 0) (program : Program) (place : Place) (class : Class) (what : Act) (read_here : List Operand) (act : Do)
        → operation_of act ≡ Some (class, what)
        → ((s : State) (registers : Registers) → Agrees count s registers → P registers → map (read s) read_here ≡ map (read_of registers) (operands act))
        → ((held : Held) (c : Configuration) → behind code place act held c ≡ onward c (with_register (Some to) (Some held) c.frame) c.world)
        → count ≤ to → r ≤ to
        → Follows code deep count r P (makes program class place what read_here) (does program place act) (λ held done new. new to ≡ Some held)
    operation_follows r to P program place class what read_here act of reads sets low low_too site first s registers has agrees p =
        lands (operation class (latency program.latencies class) place what (map (read s) read_here) s.world)
        (operation_moves class (latency program.latencies class) place what (map (read s) read_here) s.world)
        (operation_steps site first s registers program place class what read_here act has of (reads s registers agrees.0 p)) where
          lands : (m : Made) → WhereMade Moves s.world m → step code (Going (at site first registers s.world)) ≡ by_operation code (instruction program place act) (at site first registers s.world) m
              → Leads code deep count site (Going (at site first registers s.world)) (first + 1) r registers (λ held new. new to ≡ Some held) (made s m)
          lands (Gives held w) made_it steps_to = (
            with_slot to (Some held) registers,
            (suc zero, steps_to ∙ sets held (at site first registers w)),
            agrees_behind s w registers to (Some held) low agrees.0,
            keeps_below r to (Some held) registers low_too,
            slot_here to (Some held) registers,
            goes_by_operation s.world w made_it,
          )
          lands (Ends end w) made_it steps_to = ends_at code (Going (at site first registers s.world)) end w (suc zero, steps_to)

    -- the same, beside what a change of that temporary leaves so
    pub operation_beside : (r to : ℕ) (P Q : Registers → Type 0) (program : Program) (place : Place) (class : Class) (what : Act) (read_here : List Operand) (act : Do)
        → operation_of act ≡ Some (class, what)
        → ((s : State) (registers : Registers) → Agrees count s registers → P registers → map (read s) read_here ≡ map (read_of registers) (operands act))
        → ((held : Held) (c : Configuration) → behind code place act held c ≡ onward c (with_register (Some to) (Some held) c.frame) c.world)
        → count ≤ to → r ≤ to → ((registers : Registers) (slot : Option Held) → P registers → Q (with_slot to slot registers))
        → Follows code deep count r P (makes program class place what read_here) (does program place act) (λ held done new. (new to ≡ Some held) × Q new)
    operation_beside r to P Q program place class what read_here act of reads sets low low_too stays site first s registers has agrees p =
        lands (operation class (latency program.latencies class) place what (map (read s) read_here) s.world)
        (operation_moves class (latency program.latencies class) place what (map (read s) read_here) s.world)
        (operation_steps site first s registers program place class what read_here act has of (reads s registers agrees.0 p)) where
          lands : (m : Made) → WhereMade Moves s.world m → step code (Going (at site first registers s.world)) ≡ by_operation code (instruction program place act) (at site first registers s.world) m
              → Leads code deep count site (Going (at site first registers s.world)) (first + 1) r registers (λ held new. (new to ≡ Some held) × Q new) (made s m)
          lands (Gives held w) made_it steps_to = (
            with_slot to (Some held) registers,
            (suc zero, steps_to ∙ sets held (at site first registers w)),
            agrees_behind s w registers to (Some held) low agrees.0,
            keeps_below r to (Some held) registers low_too,
            (slot_here to (Some held) registers, stays registers (Some held) p),
            goes_by_operation s.world w made_it,
          )
          lands (Ends end w) made_it steps_to = ends_at code (Going (at site first registers s.world)) end w (suc zero, steps_to)

    -- AN OPERATION WHOSE VALUE IS DROPPED
    pub operation_dropped : (r : ℕ) (P : Registers → Type 0) (program : Program) (place : Place) (class : Class) (what : Act) (read_here : List Operand) (act : Do)
        → operation_of act ≡ Some (class, what)
        → ((s : State) (registers : Registers) → Agrees count s registers → P registers → map (read s) read_here ≡ map (read_of registers) (operands act))
        → ((held : Held) (c : Configuration) → behind code place act held c ≡ onward c c.frame c.world)
        → Follows code deep count r P (makes program class place what read_here) (does program place act) (λ held done new. P new)
    operation_dropped r P program place class what read_here act of reads drops site first s registers has agrees p =
        lands (operation class (latency program.latencies class) place what (map (read s) read_here) s.world)
        (operation_moves class (latency program.latencies class) place what (map (read s) read_here) s.world)
        (operation_steps site first s registers program place class what read_here act has of (reads s registers agrees.0 p)) where
          lands : (m : Made) → WhereMade Moves s.world m → step code (Going (at site first registers s.world)) ≡ by_operation code (instruction program place act) (at site first registers s.world) m
              → Leads code deep count site (Going (at site first registers s.world)) (first + 1) r registers (λ held new. P new) (made s m)
          lands (Gives held w) made_it steps_to = (
            registers,
            (suc zero, steps_to ∙ drops held (at site first registers w)),
            record { length_is = agrees.0.length_is; hold = agrees.0.hold },
            keeps_itself count r registers,
            p,
            goes_by_operation s.world w made_it,
          )
          lands (Ends end w) made_it steps_to = ends_at code (Going (at site first registers s.world)) end w (suc zero, steps_to)

    -- AN INSTRUCTION THAT SETS A TEMPORARY without an operation
    pub alone_follows : (r : ℕ) (P : Registers → Type 0) (program : Program) (place : Place) (act : Do) (slot : Held)
        → operation_of act ≡ None
        → ((site : Site) (first : ℕ) (registers : Registers) (w : World) → P registers → alone code place act (at site first registers w)
        ≡ Going (at site (first + 1) (with_slot r (Some slot) registers) w))
        → count ≤ r
        → Follows code deep count r P (gives {A = Unit {0}} tt) (does program place act) (λ u done new. new r ≡ Some slot)
    alone_follows r P program place act slot of sets low site first s registers has agrees p = (
      with_slot r (Some slot) registers,
      (suc zero, alone_steps site first s.world registers program place act has of ∙ sets site first registers s.world p),
      agrees_behind s s.world registers r (Some slot) low agrees.0,
      keeps_below r r (Some slot) registers (omega arith),
      slot_here r (Some slot) registers,
      goes_itself s.world,
    )
