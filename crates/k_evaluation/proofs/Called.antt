-- Calls are lawful, and so is a whole run.
use Rattle.std.proofs.Common.{ℕ, zero, suc, ◌+◌, ◌-◌, ◌≤◌, pos, List, [], ◌∷◌, ◌++◌, map, take, Option, Some, None, Bool, true, false, nat_eq, if◌then◌else◌, ap, slice_get}
use Rattle.k_num.specs.declared.place.Place.{Place}
use Rattle.k_optab.specs.declared.class.Class.TheVariants as class
use Rattle.k_ending.specs.declared.ending.End.TheVariants as ending
use Rattle.k_ending.specs.declared.ending.Trap.TheVariants.{StackOverflow, FallOff}
use Rattle.k_types_meaning.specs.declared.types.TType.{TType}
use Rattle.k_types_meaning.specs.declared.types.TType.TheVariants as ttype
use Rattle.k_types_meaning.specs.declared.tree.unit.TFunc.{TFunc}
use Rattle.k_types_meaning.specs.declared.tree.unit.TObject.{TObject}
use Rattle.k_types_meaning.specs.declared.tree.unit.TString.{TString}
use Rattle.k_types_meaning.specs.declared.tree.unit.TVariable.{TVariable}
use Rattle.k_mem.specs.declared.start.Start.TheVariants.{Unset, Zero}
use Rattle.k_world.specs.declared.act.Act.TheVariants as act
use Rattle.k_world.specs.declared.value.Held.{Held}
use Rattle.k_world.specs.declared.value.Value.TheVariants as value
use Rattle.k_world.specs.Limits.{call_limit, is_too_large}
use Rattle.k_world.specs.Worlds.{World}
use Rattle.k_world.specs.WorldLaws.{IsMade, IsSound}
use Rattle.k_evaluation.specs.declared.operand.Operand.{Operand}
use Rattle.k_evaluation.specs.declared.operand.Operand.TheVariants.{Constant, Holding, Register}
use Rattle.k_evaluation.specs.declared.flow.Flow.{Flow}
use Rattle.k_evaluation.specs.declared.flow.Flow.TheVariants.{Normal, Broke, Continued, Returned}
use Rattle.k_evaluation.specs.States.{State, Outcome, Goes, Stops, ◌>>=◌, gives, traps, read, makes, sets}
use Rattle.k_evaluation.specs.Objects.{makes_object, makes_string, fills, block}
use Rattle.k_evaluation.specs.Expressions.{Calls}
use Rattle.k_evaluation.specs.Flows.{in_order}
use Rattle.k_evaluation.specs.Statements.{does}
use Rattle.k_evaluation.specs.Calls.{unset, with_arguments, stores_argument, serves_by, serves, falls_off, at_end, result_of, function_region, within, body, runs, with_call, entered, as_operand, back_to, enters_function, enters_number, calls_operation, calls}
use Rattle.k_evaluation.specs.Runs.{starts_object, starts_objects, starts_strings, runs_main, whole}
use Rattle.k_evaluation.proofs.Kept.{Setting, SlotsCome, OperandsCome, source_later, slots_later, IsGood, more, Grows, Fine, Cut, Keeps, Lawful, bind}
use Rattle.k_evaluation.proofs.Parts.{Brings, of_operand, of_held, of_none, binds, anywhere, before_both, gives_lawful, traps_lawful, sets_lawful, held_comes, makes_lawful, makes_object_lawful, makes_string_lawful, fills_lawful, block_lawful, region_lawful, lasts}
use Rattle.k_evaluation.proofs.Rows.{LawfulCalls}
use Rattle.k_evaluation.proofs.Loops.{of_slot, of_flow}
use Rattle.k_evaluation.proofs.Executed.{in_order_lawful}
use Rattle.k_evaluation.proofs.Bodies.{all_lawful}

module _ (g : Setting) where
  gives_done : (waiting : List Operand) → Brings g waiting of_none (gives {A = Unit {0}} tt)
  gives_done waiting = gives_lawful {A = Unit {0}} g waiting of_none tt (λ made w. tt)

  -- PARAMETERS
  stores_argument_lawful : (place : Place) (n : ℕ) (home : Held) → Brings g (Holding home ∷ []) of_none (stores_argument g.program place n home)
  stores_argument_lawful place n home =
      binds g (Holding home ∷ []) of_held of_none (makes g.program class.Store place act.Store (Constant home.value ∷ Register n false ∷ [])) (λ held. sets n (Some home))
      (makes_lawful g class.Store place act.Store (Constant home.value ∷ Register n false ∷ []) (Holding home ∷ []) (λ made w. (tt, (tt, tt))))
      (λ held. sets_lawful g (Holding held ∷ Holding home ∷ []) n (Some home) (λ made w. w.1.0))

  serves_by_lawful : (place : Place) (n count : ℕ) → Brings g [] of_none (serves_by g.program place n count)
  serves_by_lawful place n zero = gives_done []
  serves_by_lawful place n (suc count) =
      binds g [] of_held of_none (makes_object place Unset (suc count)) (stores_argument g.program place n) (makes_object_lawful g place (suc count) [] Unset)
      (stores_argument_lawful place n)

  serves_lawful : (n count : ℕ) (vs : List TVariable) → Brings g [] of_none (serves g.program n count vs)
  serves_lawful n zero vs = gives_done []
  serves_lawful n (suc count) [] = gives_done []
  serves_lawful n (suc count) (v ∷ vs) =
      binds g [] of_none of_none (serves_by g.program v.place n v.elements) (λ done. serves g.program (n + 1) count vs) (serves_by_lawful v.place n v.elements)
      (λ done. serves_lawful (n + 1) count vs)

  -- A FUNCTION
  falls_off_lawful : (main : Bool) (close : Place) → Brings g [] of_slot (falls_off main close)
  falls_off_lawful true close = gives_lawful g [] of_slot (Some (record { value = value.Number (pos 0); source = None })) (λ made w. (tt, tt))
  falls_off_lawful false close = traps_lawful g [] of_slot FallOff close

  at_end_lawful : (number : ℕ) (close : Place) (of : TType) → Brings g [] of_slot (at_end g.program number close of)
  at_end_lawful number close ttype.Void = gives_lawful g [] of_slot None (λ made w. tt)
  at_end_lawful number close (ttype.Number kind) = falls_off_lawful (nat_eq number g.program.unit.main) close
  at_end_lawful number close (ttype.Pointer target) = falls_off_lawful (nat_eq number g.program.unit.main) close

  result_lawful : (number : ℕ) (f : TFunc) (flow : Flow) → Brings g (of_flow flow ++ []) of_slot (result_of g.program number f flow)
  result_lawful number f Normal = at_end_lawful number f.close f.result
  result_lawful number f Broke = at_end_lawful number f.close f.result
  result_lawful number f Continued = at_end_lawful number f.close f.result
  result_lawful number f (Returned v) = gives_lawful g (of_slot v ++ []) of_slot v (λ made w. before_both made (of_slot v) [] w)

  body_lawful : (inner : Calls) (number : ℕ) (f : TFunc) → LawfulCalls g inner → Brings g [] of_flow (body g.program inner number f)
  body_lawful inner number f lawful =
      binds g [] of_none of_flow (serves g.program 0 f.params f.variables) (λ served. in_order (map (does (within g.program inner number f)) f.body))
      (serves_lawful 0 f.params f.variables)
      (λ served. in_order_lawful g (map (does (within g.program inner number f)) f.body) (all_lawful g number f.variables inner lawful f.body))

  runs_lawful : (inner : Calls) (number : ℕ) (f : TFunc) → LawfulCalls g inner → Brings g [] of_slot (runs g.program inner number f)
  unfolding runs
  runs_lawful inner number f lawful =
      region_lawful g [] of_slot (function_region number f) (block (body g.program inner number f >>= result_of g.program number f))
      (block_lawful g [] of_slot (body g.program inner number f >>= result_of g.program number f)
      (binds g [] of_flow of_slot (body g.program inner number f) (result_of g.program number f) (body_lawful inner number f lawful) (result_lawful number f)))

  -- ENTERING
  unset_come : (made : ℕ) (vs : List TVariable) → SlotsCome made (unset vs)
  unset_come made [] = tt
  unset_come made (v ∷ vs) = (tt, unset_come made vs)

  arguments_come : (made : ℕ) (args vars : List (Option Held)) → SlotsCome made args → SlotsCome made vars → SlotsCome made (with_arguments args vars)
  arguments_come made [] vars h k = k
  arguments_come made (a ∷ args) [] h k = tt
  arguments_come made (a ∷ args) (v ∷ vars) h k = (h.0, arguments_come made args vars h.1 k.1)

  first_come : (made count : ℕ) (args : List (Option Held)) → SlotsCome made args → SlotsCome made (take count args)
  first_come made zero args h = tt
  first_come made (suc count) [] h = tt
  first_come made (suc count) (a ∷ args) h = (h.0, first_come made count args h.1)

  with_counts : (most budget calls_live size : ℕ) (c : Option ℕ) (w : World) → IsSound budget most w → IsMade w.made c
      → IsSound budget most (record w { control = c; calls = calls_live; size = size })
  with_counts most budget calls_live size c w sound one = record {
    earlier = sound.earlier;
    counted = sound.counted;
    steps = sound.steps;
    work = sound.work;
    control = one;
    in_cell = sound.in_cell;
    out_cell = sound.out_cell;
    elements = sound.elements;
  }

  entered_good : (budget : ℕ) (s : State) (f : TFunc) (args : List (Option Held)) → IsGood g.most budget s → SlotsCome s.world.made args → IsGood g.most budget (entered f args s)
  entered_good budget s f args good come = record {
    sound = with_counts g.most budget (s.world.calls + 1) (s.world.size + f.nodes) s.world.control s.world good.sound good.sound.control;
    held = arguments_come s.world.made (take f.params args) (unset f.variables) (first_come s.world.made f.params args come) (unset_come s.world.made f.variables);
  }

  operand_comes : (made : ℕ) (v : Option Held) → OperandsCome made (of_slot v) → OperandsCome made (of_operand (as_operand v))
  operand_comes made None h = (tt, tt)
  operand_comes made (Some held) h = h

  -- what comes of a call is fine for its caller
  back_fine : (budget : ℕ) (s : State) (f : TFunc) (o : Outcome (Option Held)) → IsGood g.most budget s
      → Fine g.most budget (λ made v. OperandsCome made (of_slot v)) (with_call f s.world) o
      → Fine g.most budget (λ made a. OperandsCome made (of_operand a)) s.world (back_to s o)
  back_fine budget s f (Goes v t) good h =
      let low : s.world.made ≤ t.world.made = h.2.grown.made in (
        record {
          sound = with_counts g.most budget s.world.calls s.world.size s.world.control t.world h.0.sound (source_later s.world.made t.world.made s.world.control low good.sound.control);
          held = slots_later s.world.made t.world.made s.vars low good.held;
        },
        operand_comes t.world.made v h.1,
        record { grown = record { made = low; events = h.2.grown.events; output = h.2.grown.output }; balanced = h.2.balanced },
      )
  back_fine budget s f (Stops end w) good h = (h.0, h.1, record { made = h.2.made; events = h.2.events; output = h.2.output })

  back_grows : (w : World) (s : State) (o : Outcome (Option Held)) → Grows w o → Grows w (back_to s o)
  back_grows w s (Goes v t) h = record { made = h.made; events = h.events; output = h.output }
  back_grows w s (Stops end v) h = h

  back_cut : (k : ℕ) (s : State) (o other : Outcome (Option Held)) → Cut k o other → Cut k (back_to s o) (back_to (more k s) other)
  back_cut k s (Goes v t) other same = ap (back_to (more k s)) same
  back_cut k s (Stops (ending.Trapped trap place) w) other same = ap (back_to (more k s)) same
  back_cut k s (Stops (ending.Returned v) w) other same = tt
  back_cut k s (Stops ending.OutOfSteps w) other same = (same.0, back_grows w (more k s) other same.1)

  -- what these arguments hold came from operations that were made
  abbrev ArgumentsCome : List (Option Held) → ℕ → Type 0
  ArgumentsCome args made = SlotsCome made args

  enters_function_lawful : (inner : Calls) (number : ℕ) (place : Place) (f : TFunc) (args : List (Option Held)) → LawfulCalls g inner
      → Lawful g (ArgumentsCome args) (λ made a. OperandsCome made (of_operand a)) (enters_function g.program inner number place f args)
  enters_function_lawful inner number place f args lawful budget s good come = by (is_too_large s.world f.nodes)
    where
      kept : Keeps g.most budget (λ made v. OperandsCome made (of_slot v)) (runs g.program inner number f) (entered f args s)
      kept = runs_lawful inner number f lawful budget (entered f args s) (entered_good budget s f args good come) tt

      by : (b : Bool) → Fine g.most budget (λ made a. OperandsCome made (of_operand a)) s.world (if b then traps StackOverflow place s else back_to s (runs g.program inner number f (entered f args s)))
          × ((k : ℕ) → Cut k (if b then traps StackOverflow place s else back_to s (runs g.program inner number f (entered f args s)))
          (if b then traps StackOverflow place (more k s) else back_to (more k s) (runs g.program inner number f (entered f args (more k s)))))
      by true = traps_lawful g [] of_operand StackOverflow place budget s good tt
      by false = (
        back_fine budget s f (runs g.program inner number f (entered f args s)) good kept.0,
        λ k. back_cut k s (runs g.program inner number f (entered f args s)) (runs g.program inner number f (entered f args (more k s))) (kept.1 k),
      )

  enters_number_lawful : (inner : Calls) (number : ℕ) (place : Place) (f : Option TFunc) (args : List (Option Held)) → LawfulCalls g inner
      → Lawful g (ArgumentsCome args) (λ made a. OperandsCome made (of_operand a)) (enters_number g.program inner number place f args)
  enters_number_lawful inner number place None args lawful budget s good come =
      gives_lawful g [] of_operand (as_operand None) (λ made w. (tt, tt)) budget s good tt
  enters_number_lawful inner number place (Some f) args lawful budget s good come = enters_function_lawful inner number place f args lawful budget s good come

  -- THE CALL OPERATION
  read_come : (s : State) (args : List Operand) → SlotsCome s.world.made s.vars → OperandsCome s.world.made args → SlotsCome s.world.made (map (λ a. (read s a).slot) args)
  read_come s [] held come = tt
  read_come s (Constant v ∷ args) held come = (tt, read_come s args held come.1)
  read_come s (Holding x ∷ args) held come = (come.0, read_come s args held come.1)
  read_come s (Register n broken ∷ args) held come = (held_comes s.world.made s.vars n held, read_come s args held come.1)

  made_behind : (place : Place) (args : List Operand) (given : List (Option Held))
      → Lawful g (λ made. SlotsCome made given × OperandsCome made args) (λ made x. SlotsCome made x) (makes g.program class.Call place act.Call args >>= λ done. gives given)
  made_behind place args given =
      bind g (λ made. SlotsCome made given × OperandsCome made args) (λ made held. OperandsCome made (of_held held)) (λ made x. SlotsCome made x)
      (makes g.program class.Call place act.Call args) (λ done. gives given)
      (λ a b low h. (slots_later a b given low h.0, lasts args a b low h.1))
      (λ budget s good w. makes_lawful g class.Call place act.Call args args (λ made v. v) budget s good w.1)
      (λ done budget s good w.
      let kept = gives_lawful g [] of_none given (λ made v. tt) budget s good tt in ((kept.0.0, w.0.0, kept.0.2), kept.1))

  operation_lawful : (place : Place) (args : List Operand) → Lawful g (λ made. OperandsCome made args) (λ made x. SlotsCome made x) (calls_operation g.program place args)
  operation_lawful place args budget s good come =
      made_behind place args (map (λ a. (read s a).slot) args) budget s good (read_come s args good.held come, come)

  -- THE CALLS
  pub calls_lawful : (n : ℕ) → LawfulCalls g (calls n g.program)
  unfolding calls
  calls_lawful zero number place args =
      bind g (λ made. OperandsCome made args) (λ made x. SlotsCome made x) (λ made a. OperandsCome made (of_operand a)) (calls_operation g.program place args)
      (λ given. traps StackOverflow place) (lasts args) (operation_lawful place args)
      (λ given budget s good w. traps_lawful g [] of_operand StackOverflow place budget s good tt)
  calls_lawful (suc n) number place args =
      bind g (λ made. OperandsCome made args) (λ made x. SlotsCome made x) (λ made a. OperandsCome made (of_operand a)) (calls_operation g.program place args)
      (enters_number g.program (calls n g.program) number place (slice_get g.program.unit.functions number)) (lasts args) (operation_lawful place args)
      (λ given budget s good w.
      enters_number_lawful (calls n g.program) number place (slice_get g.program.unit.functions number) given (calls_lawful n) budget s good w.1)

  -- THE START
  starts_object_lawful : (o : TObject) → Brings g [] of_none (starts_object o)
  starts_object_lawful o =
      binds g [] of_held of_none (makes_object o.place Zero o.elements) (λ home. fills home o.first) (makes_object_lawful g o.place o.elements [] Zero)
      (λ home. fills_lawful g (Holding home ∷ []) home o.first)

  starts_objects_lawful : (os : List TObject) → Brings g [] of_none (starts_objects os)
  starts_objects_lawful [] = gives_done []
  starts_objects_lawful (o ∷ os) = binds g [] of_none of_none (starts_object o) (λ done. starts_objects os) (starts_object_lawful o) (λ done. starts_objects_lawful os)

  starts_strings_lawful : (ts : List TString) → Brings g [] of_none (starts_strings ts)
  starts_strings_lawful [] = gives_done []
  starts_strings_lawful (t ∷ ts) =
      binds g [] of_held of_none (makes_string t.place t.bytes) (λ home. starts_strings ts) (makes_string_lawful g [] t.place t.bytes)
      (λ home. anywhere g (Holding home ∷ []) of_none (starts_strings ts) (starts_strings_lawful ts))

  main_fine : (budget : ℕ) (w : World) (o : Outcome (Option Held)) (f : TFunc) → Fine g.most budget (λ made v. OperandsCome made (of_slot v)) (with_call f w) o
      → Fine g.most budget (λ made v. OperandsCome made (of_slot v)) w o
  main_fine budget w (Goes v t) f h = (
    h.0,
    h.1,
    record { grown = record { made = h.2.grown.made; events = h.2.grown.events; output = h.2.grown.output }; balanced = h.2.balanced },
  )
  main_fine budget w (Stops end v) f h = (h.0, h.1, record { made = h.2.made; events = h.2.events; output = h.2.output })

  main_lawful : (f : Option TFunc) → Brings g [] of_slot (runs_main g.program f)
  main_lawful None budget s good w = gives_lawful g [] of_slot None (λ made v. tt) budget s good w
  main_lawful (Some f) budget s good w =
      let kept = runs_lawful (calls (call_limit - 1) g.program) g.program.unit.main f (calls_lawful (call_limit - 1)) budget (entered f [] s) (entered_good budget s f [] good tt) tt in
      (main_fine budget s.world (runs g.program (calls (call_limit - 1) g.program) g.program.unit.main f (entered f [] s)) f kept.0, kept.1)

  -- A WHOLE RUN
  pub whole_lawful : Brings g [] of_slot (whole g.program)
  unfolding whole
  whole_lawful =
      binds g [] of_none of_slot (starts_objects g.program.unit.objects)
      (λ objects. starts_strings g.program.unit.strings >>= λ strings. runs_main g.program (slice_get g.program.unit.functions g.program.unit.main))
      (starts_objects_lawful g.program.unit.objects)
      (λ objects. binds g [] of_none of_slot (starts_strings g.program.unit.strings)
      (λ strings. runs_main g.program (slice_get g.program.unit.functions g.program.unit.main)) (starts_strings_lawful g.program.unit.strings)
      (λ strings. main_lawful (slice_get g.program.unit.functions g.program.unit.main)))
