-- Each step keeps that what is held came from operations that were made.
use Rattle.std.proofs.Common.{◌≡◌, ℕ, ◌+◌, ◌-◌, ◌≤◌, List, [], ◌∷◌, length, map, replicate, Option, Some, None, Bool, true, false, refl, sym, subst}
use Rattle.std.specs.Prelude.{if◌then◌else◌, slice_get, option_map}
use Rattle.k_num.specs.declared.initial.Initial.{Initial}
use Rattle.k_num.specs.declared.place.Place.{Place}
use Rattle.k_optab.specs.declared.class.Class.{Class}
use Rattle.k_optab.specs.declared.event.Event.TheVariants as event
use Rattle.k_ending.specs.declared.ending.End.TheVariants.{Trapped}
use Rattle.k_ending.specs.declared.ending.Trap.TheVariants.{StackOverflow}
use Rattle.k_mem.specs.declared.start.Start.TheVariants.{Unset}
use Rattle.k_world.specs.declared.act.Act.{Act}
use Rattle.k_world.specs.declared.value.Held.{Held}
use Rattle.k_world.specs.declared.value.Read.{Read}
use Rattle.k_world.specs.Changes.{object_made, objects_kept}
use Rattle.k_world.specs.Operands.{source_in}
use Rattle.k_world.specs.Operations.{Made, Gives, Ends, operation}
use Rattle.k_world.specs.Values.{pointer_to}
use Rattle.k_world.specs.WorldLaws.{IsMade, AllComeFrom, IsSound}
use Rattle.k_world.specs.Worlds.{World}
use Rattle.k_code.specs.declared.code.Code.{Code}
use Rattle.k_code.specs.declared.code.CodeFunc.{CodeFunc}
use Rattle.k_code.specs.declared.instruction.Do.{Do}
use Rattle.k_code.specs.declared.instruction.Do.TheVariants as act
use Rattle.k_code.specs.declared.instruction.Home.TheVariants.{Local}
use Rattle.k_code.specs.declared.instruction.Instr.{Instr}
use Rattle.k_code.specs.Named.{operands, register_set}
use Rattle.k_code.specs.Steps.{Frame, Waiting, Configuration, Run, Going, Over, step, at_instruction, by_kind, by_operation, behind, alone, called, entered, overflows, size_of, left_by, handed_back, returned, no_value, opened, filled_with, object_at, newest, operation_of, is_in_main, reads_of}
use Rattle.k_hcpa_meaning.specs.Locations.{waiting_frames, frames_of}
use Rattle.k_hcpa_traced.proofs.Coming.{AllCome, comes_later, set_comes, reads_come, parameters_come, newest_made, older_made}
use Rattle.k_hcpa_traced.proofs.Worlds.{Good, LeavesGood, good_events, good_control, good_kept, good_filled, good_object, good_operation, exits_none, IfGood}

-- what these calls and this world hold came from operations that were made
pub record Kept (budget : ℕ) (w : World) (frames : List Frame) : Type 0 where
  pub good : Good budget w
  pub come : AllCome w.made frames

-- so it is in a run that goes on; where it is over its world is sound
abbrev pub Keeps : ℕ → Run → Type 0
Keeps budget (Going c) = Kept budget c.world (frames_of c)
Keeps budget (Over end w) = IsSound budget 10000 w

-- a pointer that no operation gave
pointer_comes : (made offset : ℕ) (o : Option ℕ) → IsMade made (source_in (option_map (λ n. pointer_to n offset) o))
pointer_comes made offset None = tt
pointer_comes made offset (Some n) = tt

-- what main gives without a value
none_comes : (made : ℕ) (main : Bool) → IsMade made (source_in (no_value main))
none_comes made true = tt
none_comes made false = tt

either : (P : Run → Type 0) (b : Bool) (x y : Run) → P x → P y → P (if b then x else y)
either P true x y one two = one
either P false x y one two = two

module _ (code : Code) (budget : ℕ) where
  -- a call returns
  handed_kept : (waiting : List Waiting) (slot : Option Held) (w : World) → Good budget w → IsMade w.made (source_in slot) → AllCome w.made (waiting_frames waiting)
      → Keeps budget (handed_back waiting slot w)
  handed_kept [] slot w good one come = good.sound
  handed_kept (x ∷ waiting) slot w good one come = record { good = good; come = (set_comes w.made x.to slot x.frame one come.0, come.1) }

  returned_kept : (slot : Option Held) (c : Configuration) → Kept budget c.world (frames_of c) → IsMade c.world.made (source_in slot) → Keeps budget (returned code slot c)
  returned_kept slot c kept one =
      handed_kept c.waiting slot (left_by code c.frame c.world)
      (good_events budget (objects_kept c.world c.frame.base) (replicate (c.frame.regions + 1) event.Exit) (c.world.calls - 1)
      (c.world.size - size_of (slice_get code.funcs c.frame.func)) (exits_none (c.frame.regions + 1)) (good_kept budget c.world c.frame.base kept.good))
      one kept.come.1

  -- a function is called
  pub entered_kept : (f : CodeFunc) (func : ℕ) (reads : List Read) (waiting : List Waiting) (w : World) → Good budget w → AllComeFrom w.made reads
      → AllCome w.made (waiting_frames waiting) → Keeps budget (entered f func (map (λ (r : Read). r.slot) reads) waiting w)
  entered_kept f func reads waiting w good from come = record {
    good = good_events budget w (event.Enter f.region ∷ []) (w.calls + 1) (w.size + f.size) refl good;
    come = ((λ k. parameters_come w.made f.params reads k from, tt), come);
  }

  called_kept : (o : Option CodeFunc) (func : ℕ) (reads : List Read) (to : Option ℕ) (place : Place) (c : Configuration) → Kept budget c.world (frames_of c)
      → AllComeFrom c.world.made reads → Keeps budget (called o func (map (λ (r : Read). r.slot) reads) to place c)
  called_kept None func reads to place c kept from = kept
  called_kept (Some f) func reads to place c kept from =
      let waiting : List Waiting = record { frame = c.frame; back = c.pc + 1; to = to } ∷ c.waiting in
      either (Keeps budget) (overflows c.world f.size) (Over (Trapped StackOverflow place) c.world) (entered f func (map (λ (r : Read). r.slot) reads) waiting c.world)
      kept.good.sound (entered_kept f func reads waiting c.world kept.good from kept.come)

  -- what comes behind an operation
  behind_kept : (place : Place) (what : Do) (held : Held) (c : Configuration) → Kept budget c.world (frames_of c) → IsMade c.world.made held.source
      → Keeps budget (behind code place what held c)
  unfolding behind
  behind_kept place (act.Test a taken other to class) held c kept one =
      record { good = kept.good; come = (set_comes c.world.made to (Some held) c.frame one kept.come.0, kept.come.1) }
  behind_kept place (act.Call func args to) held c kept one =
      called_kept (slice_get code.funcs func) func (reads_of c (act.Call func args to)) to place c kept
      (reads_come c.world.made c.frame.registers (operands (act.Call func args to)) kept.come.0.0)
  behind_kept place (act.Return value) held c kept one = returned_kept (Some held) c kept one
  behind_kept place what held c kept one =
      record { good = kept.good; come = (set_comes c.world.made (register_set what) (Some held) c.frame one kept.come.0, kept.come.1) }

  opened_kept : (place : Place) (c : Configuration) → Kept budget c.world (frames_of c) → (o : Option World) → IfGood budget c.world.made o → Keeps budget (opened place c o)
  opened_kept place c kept None good = kept.good.sound
  opened_kept place c kept (Some w) good = record { good = good.0; come = subst (λ n. AllCome n (frames_of c)) (sym good.1) kept.come }

  filled_kept : (c : Configuration) (values : List Initial) (n : Option ℕ) → Kept budget c.world (frames_of c) → Kept budget (filled_with values n c.world) (frames_of c)
  filled_kept c values None kept = kept
  filled_kept c values (Some n) kept = record { good = good_filled budget c.world n values kept.good; come = kept.come }

  -- what makes no operation
  alone_kept : (place : Place) (what : Do) (c : Configuration) → Kept budget c.world (frames_of c) → Keeps budget (alone code place what c)
  unfolding alone
  alone_kept place (act.Jump to) c kept = kept
  alone_kept place (act.Enter region) c kept =
      record { good = good_events budget c.world (event.Enter region ∷ []) c.world.calls c.world.size refl kept.good; come = kept.come }
  alone_kept place act.Exit c kept = record { good = good_events budget c.world (event.Exit ∷ []) c.world.calls c.world.size refl kept.good; come = kept.come }
  alone_kept place act.FallOff c kept = kept.good.sound
  alone_kept place (act.Address home offset to) c kept = record {
    good = kept.good;
    come = (
      set_comes c.world.made (Some to) (option_map (λ n. pointer_to n offset) (object_at home c)) c.frame (pointer_comes c.world.made offset (object_at home c)) kept.come.0,
      kept.come.1,
    );
  }
  alone_kept place (act.ObjectOpen elements) c kept = opened_kept place c kept (object_made c.world Unset elements) (good_object budget c.world Unset elements tt kept.good)
  alone_kept place (act.ObjectsClose count) c kept =
      record { good = good_kept budget c.world (length c.world.memory.live - count) kept.good; come = kept.come }
  alone_kept place (act.Fill local values) c kept = filled_kept c values (object_at (Local local) c) kept
  alone_kept place (act.Forget register) c kept =
      record { good = kept.good; come = (set_comes c.world.made (Some register) None c.frame tt kept.come.0, kept.come.1) }
  alone_kept place (act.Return value) c kept = returned_kept (no_value (is_in_main code c)) c kept (none_comes c.world.made (is_in_main code c))
  alone_kept place act.Save c kept =
      record { good = kept.good; come = ((kept.come.0.0, (kept.good.sound.control, kept.come.0.1)), kept.come.1) }
  alone_kept place act.Keep c kept = record { good = kept.good; come = ((kept.come.0.0, older_made c.world.made c.frame.saved kept.come.0.1), kept.come.1) }
  alone_kept place act.Back c kept = record {
    good = good_control budget c.world (newest c.frame.saved) (newest_made c.world.made c.frame.saved kept.come.0.1) kept.good;
    come = ((kept.come.0.0, older_made c.world.made c.frame.saved kept.come.0.1), kept.come.1);
  }
  alone_kept place act.Restore c kept = record {
    good = good_control budget c.world (newest c.frame.saved) (newest_made c.world.made c.frame.saved kept.come.0.1) kept.good;
    come = kept.come;
  }
  alone_kept place what c kept = kept

  operation_kept : (i : Instr) (c : Configuration) → Kept budget c.world (frames_of c) → (m : Made) → LeavesGood budget c.world.made m → Keeps budget (by_operation code i c m)
  operation_kept i c kept (Gives held w) left =
      behind_kept i.place i.act held (record c { world = w }) (record { good = left.0; come = comes_later c.world.made w.made (frames_of c) left.2 kept.come }) left.1
  operation_kept i c kept (Ends end w) left = left

  kind_kept : (i : Instr) (c : Configuration) (o : Option (Class × Act)) → i.latency ≤ 10000 → Kept budget c.world (frames_of c) → Keeps budget (by_kind code i c o)
  kind_kept i c None short kept = alone_kept i.place i.act c kept
  kind_kept i c (Some o) short kept =
      operation_kept i c kept (operation o.0 i.latency i.place o.1 (reads_of c i.act) c.world)
      (good_operation budget o.0 i.latency i.place o.1 (reads_of c i.act) c.world short kept.good
      (reads_come c.world.made c.frame.registers (operands i.act) kept.come.0.0))

  instruction_kept : (c : Configuration) (i : Option Instr) → ((x : Instr) → i ≡ Some x → x.latency ≤ 10000) → Kept budget c.world (frames_of c)
      → Keeps budget (at_instruction code c i)
  instruction_kept c None short kept = kept
  instruction_kept c (Some i) short kept = kind_kept i c (operation_of i.act) (short i refl) kept

  -- a step keeps all this, where the instruction that is next takes at most 10,000
  pub step_kept : (c : Configuration) → ((i : Instr) → slice_get code.instrs c.pc ≡ Some i → i.latency ≤ 10000) → Keeps budget (Going c)
      → Keeps budget (step code (Going c))
  unfolding step
  step_kept c short kept = instruction_kept c (slice_get code.instrs c.pc) short kept
