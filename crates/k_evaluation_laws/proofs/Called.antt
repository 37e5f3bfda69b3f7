-- Functions and their calls keep states right, where the functions of the program fit.
use Rattle.std.proofs.Common.{◌≡◌, ℕ, zero, suc, ◌+◌, pos, List, [], ◌∷◌, ◌++◌, map, take, slice_get, Option, Some, None, Bool, true, false, nat_eq, if◌then◌else◌, refl, sym, ◌∙◌, ap, subst, arith}
use Rattle.std.specs.Prelude.{not}
use Rattle.std.proofs.lemmas.Bool.{and_parts, ne_eqb}
use Rattle.std.proofs.lemmas.Option.{same_Some}
use Rattle.k_num.specs.declared.place.Place.{Place}
use Rattle.k_num.specs.declared.numbers.Kind.{Kind}
use Rattle.k_optab.specs.declared.class.Class.TheVariants as class
use Rattle.k_ending.specs.declared.ending.Trap.TheVariants.{StackOverflow, FallOff}
use Rattle.k_types_meaning.specs.declared.tree.unit.TFunc.{TFunc}
use Rattle.k_types_meaning.specs.declared.tree.unit.TVariable.{TVariable}
use Rattle.k_types_meaning.specs.declared.types.TType.{TType}
use Rattle.k_types_meaning.specs.declared.types.TType.TheVariants as ttype
use Rattle.k_mem.specs.declared.start.Start.TheVariants.{Unset}
use Rattle.k_world.specs.declared.act.Act.TheVariants as act
use Rattle.k_world.specs.declared.value.Held.{Held}
use Rattle.k_world.specs.declared.value.Value.{Value}
use Rattle.k_world.specs.declared.value.Value.TheVariants as value
use Rattle.k_world.specs.Operands.{values_of}
use Rattle.k_evaluation.specs.declared.operand.Operand.{Operand}
use Rattle.k_evaluation.specs.declared.operand.Operand.TheVariants.{Constant, Holding, Register}
use Rattle.k_evaluation.specs.declared.flow.Flow.{Flow}
use Rattle.k_evaluation.specs.declared.flow.Flow.TheVariants.{Normal, Broke, Continued, Returned}
use Rattle.k_evaluation.specs.States.{Program, State, Outcome, Goes, Stops, ◌>>=◌, gives, traps, read, makes, sets}
use Rattle.k_evaluation.specs.Objects.{makes_object, block}
use Rattle.k_evaluation.specs.Meanings.{nothing}
use Rattle.k_evaluation.specs.Expressions.{Calls}
use Rattle.k_evaluation.specs.Flows.{in_order}
use Rattle.k_evaluation.specs.Statements.{does}
use Rattle.k_evaluation.specs.Calls.{unset, with_arguments, stores_argument, serves_by, serves, falls_off, at_end, result_of, function_region, within, body, runs, is_too_large, entered, as_operand, back_to, enters_function, enters_number, calls_operation, calls}
use Rattle.k_evaluation_laws.specs.Kinds.{Sort, NoValue, ANumber, APointer, sort_of, kind_in, IsValue, IsIn, IsSlotOf, AreSlotsOf, IsRight}
use Rattle.k_evaluation_laws.proofs.Fits.{sorts_of, callee, is_nothing, have_values, FunctionFits}
use Rattle.k_evaluation_laws.proofs.Ranges.{AreInRange}
use Rattle.k_evaluation_laws.proofs.Acts.{IfHeld, IsAddress, IsStored, held_so, stored_value, is_write, store_given, call_given}
use Rattle.k_evaluation_laws.proofs.Bodies.{all_right}
use Rattle.k_evaluation_laws.proofs.Executed.{of_flow, in_order_right}
use Rattle.k_evaluation_laws.proofs.Keeping.{Here, Reads, Waiting, AValue, AResult, AllHold, IsOperand, hold_front, Fine, Brings, of_none, of_operand, of_held, same_world, binds, needs, so, gives_right, traps_right, sets_right, region_right, block_right, operand_read, makes_right, makes_object_right}
use Rattle.k_evaluation_laws.proofs.Rows.{here, AreRightCalls, of_operands, memory_reads}
use Rattle.k_evaluation_laws.proofs.Slots.{nothing_is, value_in, home_in, slots_later}

-- what a call gives
abbrev pub of_result : Sort → Option Held → List Waiting
of_result s v = AResult s v ∷ []

-- arguments of sorts, as many as there are of both
abbrev pub of_slots : List Sort → List (Option Held) → List Waiting
of_slots [] slots = []
of_slots (s ∷ sorts) [] = []
of_slots (s ∷ sorts) (a ∷ slots) = AResult s a ∷ of_slots sorts slots

-- ARGUMENTS stand in the first variables
unset_right : (kinds : List Kind) (vs : List TVariable) → AreSlotsOf kinds vs (unset vs)
unset_right kinds [] = tt
unset_right kinds (v ∷ vs) = (tt, unset_right kinds vs)

slot_right : (kinds : List Kind) (v : TVariable) (slot : Option Held) → IfHeld (IsValue kinds (sort_of v.of)) slot → IsSlotOf kinds v slot
slot_right kinds v None h = tt
slot_right kinds v (Some held) h = value_in kinds v.elements (sort_of v.of) held.value h

pub arguments_right : (kinds : List Kind) (here_ : Here) (vs : List TVariable) (k : ℕ) (slots : List (Option Held)) → AllHold kinds here_ (of_slots (take k (sorts_of vs)) slots)
    → AreSlotsOf kinds vs (with_arguments (take k slots) (unset vs))
arguments_right kinds here_ [] k slots h = tt
arguments_right kinds here_ (v ∷ vs) zero slots h = unset_right kinds (v ∷ vs)
arguments_right kinds here_ (v ∷ vs) (suc k) [] h = unset_right kinds (v ∷ vs)
arguments_right kinds here_ (v ∷ vs) (suc k) (a ∷ slots) h = (slot_right kinds v a h.0, arguments_right kinds here_ vs k slots h.1)

-- what they hold as they are read
slots_read : (kinds : List Kind) (vs : Here) (s : State) (sorts : List Sort) (args : List Operand) → IsRight kinds vs.vars s → AllHold kinds vs (of_operands sorts args)
    → AllHold kinds vs (of_slots sorts (map (λ a. (read s a).slot) args))
slots_read kinds vs s [] args right h = tt
slots_read kinds vs s (t ∷ sorts) [] right h = tt
slots_read kinds vs s (t ∷ sorts) (a ∷ args) right h = (operand_read kinds vs s t a right h.0, slots_read kinds vs s sorts args right h.1)

not_zero : (count : ℕ) → nat_eq (suc count) 0 ≡ false
not_zero count = ne_eqb (suc count) 0 (λ h. let e : suc count ≡ 0 = h in omega (arith, e))

module _ (program : Program) (variables : List TVariable) where
  abbrev vs : Here
  vs = here program variables

  -- PARAMETERS that are memory: an argument is stored as what the variable holds
  stores_argument_right : (place : Place) (n : ℕ) (v : TVariable) (count : ℕ) (home : Held) → slice_get variables n ≡ Some v → v.elements ≡ suc count → (sort_of v.of ≡ NoValue → ⊥)
      → Brings vs (AValue (APointer (kind_in (sort_of v.of))) (Holding home) ∷ []) of_none (stores_argument program place n home)
  stores_argument_right place n v count home there some has =
      let kind : Kind = kind_in (sort_of v.of) in
      let waiting : List Waiting = AValue (APointer kind) (Holding home) ∷ [] in
      binds vs waiting of_none of_none (makes program class.Store place act.Store (Constant home.value ∷ Register n false ∷ [])) (λ held. sets n (Some home))
      (so vs waiting (of_held (ANumber kind)) of_none (makes program class.Store place act.Store (Constant home.value ∷ Register n false ∷ [])) (λ held kinds wait. tt)
      (makes_right vs waiting (ANumber kind) program class.Store place act.Store (Constant home.value ∷ Register n false ∷ [])
      (λ kinds t right wait.
      let reads : Reads vs n (APointer kind) = (v, there, memory_reads program vs v.elements (sort_of v.of) (ap (λ (k : ℕ). nat_eq k 0) some ∙ not_zero count) has) in
      let write = is_write kinds kind (read t (Constant home.value)) (read t (Register n false)) (address_is kinds kind home.value wait.0)
      (held_so (IsValue kinds (APointer kind)) (IsStored kind) (read t (Register n false)).slot (λ x one. stored_value kinds (APointer kind) x (λ is. cc is) one)
      (operand_read kinds vs t (APointer kind) (Register n false) right reads)) in
      (store_given kinds t.world kind (values_of (map (read t) (Constant home.value ∷ Register n false ∷ []))) write, (kind, write)))))
      (λ held. sets_right vs waiting n (Some home) (λ kinds u wait at. home_slot kinds u (same_Some v u (sym there ∙ at)) wait.0))
    where
      address_is : (kinds : List Kind) (kind : Kind) (x : Value) → IsValue kinds (APointer kind) x → IsAddress kinds kind x
      address_is kinds kind (value.Number z) h = tt
      address_is kinds kind (value.Pointer p) h = h.0

      home_slot : (kinds : List Kind) (u : TVariable) → v ≡ u → IsValue kinds (APointer (kind_in (sort_of v.of))) home.value → IsIn kinds u.elements (sort_of u.of) home.value
      home_slot kinds u is h =
          subst (λ (x : TVariable). IsIn kinds x.elements (sort_of x.of) home.value) is
          (subst (λ (k : ℕ). IsIn kinds k (sort_of v.of) home.value) (sym some) (home_in kinds count (sort_of v.of) home.value h))

  serves_by_right : (place : Place) (n : ℕ) (v : TVariable) (count : ℕ) → slice_get variables n ≡ Some v → v.elements ≡ count → (sort_of v.of ≡ NoValue → ⊥)
      → Brings vs [] of_none (serves_by program place n count)
  serves_by_right place n v zero there none has = gives_right {A = Unit {0}} vs [] of_none tt (λ kinds wait. tt)
  serves_by_right place n v (suc count) there some has =
      binds vs [] (of_held (APointer (kind_in (sort_of v.of)))) of_none (makes_object place Unset (suc count)) (stores_argument program place n)
      (makes_object_right vs [] (kind_in (sort_of v.of)) place Unset (suc count) tt)
      (λ home. stores_argument_right place n v count home there some has)

  has_value : (s : Sort) → not (is_nothing s) ≡ true → s ≡ NoValue → ⊥
  has_value NoValue is none = cc is
  has_value (ANumber kind) is none = cc none
  has_value (APointer kind) is none = cc none

  -- the parameters from this number on: these stand there among the variables
  serves_right : (n count : ℕ) (rest : List TVariable) → ((i : ℕ) (v : TVariable) → slice_get rest i ≡ Some v → slice_get variables (n + i) ≡ Some v)
      → have_values (take count (sorts_of rest)) ≡ true → Brings vs [] of_none (serves program n count rest)
  serves_right n zero rest at has = gives_right {A = Unit {0}} vs [] of_none tt (λ kinds wait. tt)
  serves_right n (suc count) [] at has = gives_right {A = Unit {0}} vs [] of_none tt (λ kinds wait. tt)
  serves_right n (suc count) (v ∷ rest) at has =
      let h = and_parts (not (is_nothing (sort_of v.of))) (have_values (take count (sorts_of rest))) has in
      let first : slice_get variables n ≡ Some v = ap (slice_get variables) (let e : n ≡ n + 0 = omega arith in e) ∙ at 0 v refl in
      binds vs [] of_none of_none (serves_by program v.place n v.elements) (λ done. serves program (n + 1) count rest)
      (serves_by_right v.place n v v.elements first refl (has_value (sort_of v.of) h.0))
      (λ done. serves_right (n + 1) count rest (λ i u is. ap (slice_get variables) (let e : (n + 1) + i ≡ n + suc i = omega arith in e) ∙ at (suc i) u is) h.1)

  -- THE END OF A FUNCTION
  falls_off_right : (s : Sort) (main : Bool) (close : Place) → Brings vs [] (of_result s) (falls_off main close)
  falls_off_right s true close = gives_right vs [] (of_result s) (Some (record { value = value.Number (pos 0); source = None })) (λ kinds wait. (nothing_is kinds s, tt))
  falls_off_right s false close = traps_right vs [] (of_result s) FallOff close

  at_end_right : (number : ℕ) (close : Place) (of : TType) → Brings vs [] (of_result (sort_of of)) (at_end program number close of)
  at_end_right number close ttype.Void = gives_right vs [] (of_result NoValue) None (λ kinds wait. (tt, tt))
  at_end_right number close (ttype.Number kind) = falls_off_right (ANumber kind) (nat_eq number program.unit.main) close
  at_end_right number close (ttype.Pointer target) = falls_off_right (APointer target.kind) (nat_eq number program.unit.main) close

  result_right : (number : ℕ) (f : TFunc) (flow : Flow) → Brings vs (of_flow (sort_of f.result) flow ++ []) (of_result (sort_of f.result)) (result_of program number f flow)
  result_right number f Normal = at_end_right number f.close f.result
  result_right number f Broke = at_end_right number f.close f.result
  result_right number f Continued = at_end_right number f.close f.result
  result_right number f (Returned v) = gives_right vs (AResult (sort_of f.result) v ∷ []) (of_result (sort_of f.result)) v (λ kinds wait. wait)

module _ (program : Program) (in_range : AreInRange program.unit) (fits : (n : ℕ) (f : TFunc) → slice_get program.unit.functions n ≡ Some f → FunctionFits program.unit f) where
  -- A FUNCTION
  pub runs_right : (inner : Calls) (number : ℕ) (f : TFunc) → AreRightCalls program inner → slice_get program.unit.functions number ≡ Some f
      → Brings (here program f.variables) [] (of_result (sort_of f.result)) (runs program inner number f)
  unfolding runs
  runs_right inner number f inner_right there =
      let vs : Here = here program f.variables in
      let s : Sort = sort_of f.result in
      let all = all_right program f.variables s number inner inner_right f.body (fits number f there).body (in_range.functions number f there) in
      region_right vs [] (of_result s) (function_region number f) (block (body program inner number f >>= result_of program number f))
      (block_right vs [] (of_result s) (body program inner number f >>= result_of program number f)
      (binds vs [] (of_flow s) (of_result s) (body program inner number f) (result_of program number f)
      (binds vs [] of_none (of_flow s) (serves program 0 f.params f.variables) (λ served. in_order (map (does (within program inner number f)) f.body))
      (serves_right program f.variables 0 f.params f.variables (λ i v is. ap (slice_get f.variables) (let e : 0 + i ≡ i = omega arith in e) ∙ is) (fits number f there).params)
      (λ served. in_order_right vs s (map (does (within program inner number f)) f.body) all))
      (result_right program f.variables number f)))

  -- THE CALLER goes on with its own variables
  back_right : (caller : Here) (f : TFunc) (kinds : List Kind) (s : State) (o : Outcome (Option Held)) → IsRight kinds caller.vars s
      → Fine (here program f.variables) (of_result (sort_of f.result)) kinds o → Fine caller (of_operand (sort_of f.result)) kinds (back_to s o)
  back_right caller f kinds s (Goes v t) right h = (
    h.0,
    h.1,
    record {
      vars = slots_later kinds h.0 caller.vars s.vars h.1 right.vars;
      world = same_world h.0 t.world (record t.world { control = s.world.control; calls = s.world.calls; size = s.world.size }) refl refl h.2.world;
    },
    (operand_is h.0 v h.3.0, tt),
  )
    where
      operand_is : (more : List Kind) (v : Option Held) → IfHeld (IsValue more (sort_of f.result)) v → IsOperand more caller (sort_of f.result) (as_operand v)
      operand_is more None one = nothing_is more (sort_of f.result)
      operand_is more (Some held) one = one
  back_right caller f kinds s (Stops end w) right h = tt

  enters_right : (variables : List TVariable) (inner : Calls) (number : ℕ) (place : Place) (f : TFunc) (slots : List (Option Held)) → AreRightCalls program inner
      → slice_get program.unit.functions number ≡ Some f
      → Brings (here program variables) (of_slots (callee f).params slots) (of_operand (sort_of f.result)) (enters_function program inner number place f slots)
  enters_right variables inner number place f slots inner_right there = record {
    brings = λ kinds s begins right wait.
        by kinds s (is_too_large s.world f.nodes)
        (back_right (here program variables) f kinds s (runs program inner number f (entered f slots s)) right
        ((runs_right inner number f inner_right there).brings kinds (entered f slots s) begins
        (record {
          vars = arguments_right kinds (here program variables) f.variables f.params slots wait;
          world = same_world kinds s.world (entered f slots s).world refl refl right.world;
        })
        tt));
  }
    where
      by : (kinds : List Kind) (s : State) (b : Bool)
          → Fine (here program variables) (of_operand (sort_of f.result)) kinds (back_to s (runs program inner number f (entered f slots s)))
          → Fine (here program variables) (of_operand (sort_of f.result)) kinds (if b then traps StackOverflow place s else back_to s (runs program inner number f (entered f slots s)))
      by kinds s true h = tt
      by kinds s false h = h

  -- THE CALL OPERATION
  operation_right : (variables : List TVariable) (sorts : List Sort) (place : Place) (args : List Operand)
      → Brings (here program variables) (of_operands sorts args) (of_slots sorts) (calls_operation program place args)
  operation_right variables sorts place args = record {
    brings = λ kinds s begins right wait.
        let vs : Here = here program variables in
        let slots : List (Option Held) = map (λ a. (read s a).slot) args in
        let one =
        binds vs (of_slots sorts slots) of_none (of_slots sorts) (makes program class.Call place act.Call args) (λ done. gives slots)
        (so vs (of_slots sorts slots) (of_held NoValue) of_none (makes program class.Call place act.Call args) (λ held more held_wait. tt)
        (makes_right vs (of_slots sorts slots) NoValue program class.Call place act.Call args
        (λ more t well still. (call_given more t.world (values_of (map (read t) args)), tt))))
        (λ done. gives_right vs (of_slots sorts slots) (of_slots sorts) slots (λ more still. still)) in
        one.brings kinds s begins right (slots_read kinds vs s sorts args right wait);
  }

  -- ALL CALLS
  abbrev AreRightIfThere : ℕ → Type 0
  AreRightIfThere zero = Unit {0}
  AreRightIfThere (suc depth) = AreRightCalls program (calls depth program)

  abbrev CallsThere : ℕ → Type 0
  CallsThere depth =
      (variables : List TVariable) (n : ℕ) (f : TFunc) (place : Place) (args : List Operand) → slice_get program.unit.functions n ≡ Some f
      → Brings (here program variables) (of_operands (callee f).params args) (of_operand (sort_of f.result)) (calls depth program n place args)

  abbrev CallsMissing : ℕ → Type 0
  CallsMissing depth =
      (variables : List TVariable) (n : ℕ) (s : Sort) (place : Place) (args : List Operand) → slice_get program.unit.functions n ≡ None
      → Brings (here program variables) [] (of_operand s) (calls depth program n place args)

  calls_missing : (depth : ℕ) → CallsMissing depth
  unfolding calls
  calls_missing zero variables number s place args none =
      let vs : Here = here program variables in
      binds vs [] (of_slots []) (of_operand s) (calls_operation program place args) (λ given. traps StackOverflow place) (operation_right variables [] place args)
      (λ given. traps_right vs [] (of_operand s) StackOverflow place)
  calls_missing (suc depth) variables number s place args none =
      let vs : Here = here program variables in
      binds vs [] (of_slots []) (of_operand s) (calls_operation program place args) (enters_number program (calls depth program) number place (slice_get program.unit.functions number))
      (operation_right variables [] place args)
      (λ given. subst (λ (o : Option TFunc). Brings vs [] (of_operand s) (enters_number program (calls depth program) number place o given)) (sym none)
      (gives_right vs [] (of_operand s) nothing (λ kinds wait. (nothing_is kinds s, tt))))

  there_right : (depth : ℕ) → AreRightIfThere depth → CallsThere depth
  unfolding calls
  there_right zero before variables number f place args there =
      let vs : Here = here program variables in
      binds vs (of_operands (callee f).params args) (of_slots (callee f).params) (of_operand (sort_of f.result)) (calls_operation program place args) (λ given. traps StackOverflow place)
      (operation_right variables (callee f).params place args)
      (λ given. traps_right vs (of_slots (callee f).params given ++ of_operands (callee f).params args) (of_operand (sort_of f.result)) StackOverflow place)
  there_right (suc depth) before variables number f place args there =
      let vs : Here = here program variables in
      binds vs (of_operands (callee f).params args) (of_slots (callee f).params) (of_operand (sort_of f.result)) (calls_operation program place args)
      (enters_number program (calls depth program) number place (slice_get program.unit.functions number)) (operation_right variables (callee f).params place args)
      (λ given. subst (λ (o : Option TFunc). Brings vs (of_slots (callee f).params given ++ of_operands (callee f).params args) (of_operand (sort_of f.result))
      (enters_number program (calls depth program) number place o given)) (sym there)
      (needs vs (of_slots (callee f).params given ++ of_operands (callee f).params args) (of_slots (callee f).params given) (of_operand (sort_of f.result))
      (enters_function program (calls depth program) number place f given)
      (λ kinds wait. hold_front kinds vs (of_slots (callee f).params given) (of_operands (callee f).params args) wait)
      (enters_right variables (calls depth program) number place f given before there)))

  pub calls_right : (depth : ℕ) → AreRightCalls program (calls depth program)
  calls_right zero = record { there = there_right zero tt; missing = calls_missing zero }
  calls_right (suc depth) = record { there = there_right (suc depth) (calls_right depth); missing = calls_missing (suc depth) }
