-- The code of calls does what calls mean, however many more may be live.
use Rattle.std.proofs.Common.{ℕ, zero, suc, ◌≡◌, ◌+◌, ◌-◌, ◌<◌, ◌≤◌, ◌||◌, nat_eq, Bool, true, false, if◌then◌else◌, List, [], ◌∷◌, ◌++◌, length, map, take, slice_get, pos, Option, None, Some, refl, sym, subst, ap, ◌∙◌, arith}
use Rattle.std.proofs.lemmas.Bool.{lt-ltb, ltb-true}
use Rattle.std.proofs.lemmas.List.{take_all}
use Rattle.k_optab.specs.declared.class.Class.TheVariants as class
use Rattle.k_optab.specs.declared.event.Event.TheVariants as event
use Rattle.k_optab.specs.Latencies.{latency}
use Rattle.k_ending.specs.declared.ending.End.TheVariants.{Trapped}
use Rattle.k_ending.specs.declared.ending.Trap.TheVariants.{StackOverflow}
use Rattle.k_types_meaning.specs.declared.types.TType.{TType}
use Rattle.k_types_meaning.specs.declared.types.TType.TheVariants as ttype
use Rattle.k_types_meaning.specs.declared.tree.expression.Node.{Node}
use Rattle.k_types_meaning.specs.declared.tree.unit.TFunc.{TFunc}
use Rattle.k_mem.specs.Memory.{Object}
use Rattle.k_world.specs.declared.act.Act.TheVariants as act
use Rattle.k_world.specs.declared.value.Held.{Held}
use Rattle.k_world.specs.declared.value.Read.{Read}
use Rattle.k_world.specs.Changes.{objects_kept}
use Rattle.k_world.specs.Limits.{call_limit, is_full, is_too_large}
use Rattle.k_world.specs.Operations.{Made, Gives, Ends, operation}
use Rattle.k_world.specs.Worlds.{World, with_event}
use Rattle.k_world.specs.WorldLaws.{WhereMade}
use Rattle.k_world.proofs.Sound.{control_stays}
use Rattle.k_code.specs.declared.code.Code.{Code}
use Rattle.k_code.specs.declared.code.CodeFunc.{CodeFunc}
use Rattle.k_code.specs.declared.instruction.Arg.{Arg}
use Rattle.k_code.specs.declared.instruction.Do.TheVariants as do_
use Rattle.k_code.specs.declared.instruction.Instr.{Instr}
use Rattle.k_code.specs.Named.{operands}
use Rattle.k_code.specs.Runs.{world_of}
use Rattle.k_code.specs.Steps.{Run, Going, Over, Waiting, with_slot, size_of, step, operation_of, alone, behind, by_operation, read_of, with_register, parameters, called, handed_back, left_by}
use Rattle.k_code.proofs.Kept.{kept_numbers, live_length}
use Rattle.k_evaluation.specs.declared.operand.Operand.{Operand}
use Rattle.k_evaluation.specs.Calls.{unset, with_arguments, entered, as_operand, back_to, runs, body, result_of, function_region, enters_number, calls_operation, calls}
use Rattle.k_evaluation.specs.Objects.{keeps}
use Rattle.k_evaluation.specs.States.{Program, State, Outcome, Goes, Stops, Part, follow, ◌>>=◌, ◌>>=◌, gives, exits, made, read, traps}
use Rattle.k_evaluation_control.specs.Laws.{IsTidy}
use Rattle.k_evaluation_control.proofs.Kept.{Leaves}
use Rattle.k_evaluation_control.proofs.Statements.{calls_keep, runs_tidies}
use Rattle.k_lower_fits.specs.Fits.{has_values}
use Rattle.k_lower_code.specs.Functions as code_of
use Rattle.k_lower_code.specs.Library.{calls_with, returned_to, value_returned}
use Rattle.k_lower_code.specs.Pieces.{instruction}
use Rattle.k_lower_code.specs.Programs.{code_func}
use Rattle.k_lower_runs.specs.Doing.{CallFollows, AllSame, IfUsed}
use Rattle.k_lower_runs.specs.Sound.{alike, call_fits, calls_fit}
use Rattle.k_lower_runs.proofs.Instructions.{alone_steps, operation_steps, agrees_behind, keeps_below, slot_here}
use Rattle.k_lower_runs.proofs.Leads.{Registers, Site, at, live_at, Agrees, Begins, Keeps, keeps_itself, HasAt, Reaches, EndsSo, Leads, Moves, operation_moves, reaches_both, ends_at, ends_from}
use Rattle.k_lower_runs.proofs.Values.{Same, held, all_read}
use Rattle.k_lower_runs.proofs.Values as values
use Rattle.k_lower_flows.specs.Functions.{IsSound}
use Rattle.k_lower_flows.proofs.Entered.{arguments_agree}
use Rattle.k_lower_flows.proofs.Functions.{Comes, function_comes}
use Rattle.k_lower_flows.proofs.Landing.{first_numbers, frame_of, handed, Stays}
use Rattle.k_lower_flows.proofs.Returned.{has_value}

-- WHAT CODE HAS OF A PROGRAM: main's number, and each function at its entry
pub record Has (code : Code) (program : Program) : Type 0 where
  pub main : code.main ≡ program.unit.main
  pub function : (number : ℕ) (f : TFunc) → slice_get program.unit.functions number ≡ Some f
      → (first : ℕ) × (slice_get code.funcs number ≡ Some (code_func program number f first)) × HasAt code first (code_of.function_code program number f first)
  pub sound : (number : ℕ) (f : TFunc) → slice_get program.unit.functions number ≡ Some f → IsSound program (calls_fit program.unit) f

module _ (code : Code) (program : Program) (has_program : Has code program) where
  -- the calls of a depth do what they mean, in a function with so many variables
  abbrev pub AllFollow : ℕ → Type 0
  AllFollow deep = (count : ℕ) (node : Node) (number : ℕ) → calls_fit program.unit node number ≡ true → CallFollows code deep count program (calls deep program) node number

  -- A FUNCTION THAT IS ENTERED, under a call that waits
  module _ (deep : ℕ) (inner : AllFollow deep) (number : ℕ) (f : TFunc) (is : slice_get program.unit.functions number ≡ Some f) where
    -- it returns to the calls that wait, or the run ends so
    abbrev pub Back : Run → List Waiting → World → Outcome (Option Held) → Type 0
    Back from waiting before (Goes v t) =
        (c : Option ℕ) × Reaches code from (handed_back waiting (handed (nat_eq number code.main) v) (record t.world { calls = before.calls; size = before.size; control = c }))
        × (has_value v ≡ has_values f.result) × (map (λ (o : Object). o.number) t.world.memory.live ≡ map (λ (o : Object). o.number) before.memory.live) × (t.world.left ≤ before.left)
    Back from waiting before (Stops end w) = EndsSo code from end w

    -- the call in which it runs, under these that wait, in this world
    abbrev its_site : List Waiting → World → Site
    its_site waiting w = record { func = number; saved = []; regions = 0; base = length w.memory.live; waiting = waiting }

    -- the world in which it begins
    abbrev begun : World → World
    begun w = record (with_event (event.Enter (function_region number f)) w) { calls = w.calls + 1; size = w.size + f.nodes }

    -- what the call leaves, where it returned
    left_is : (waiting : List Waiting) (w after : World) (c : Option ℕ) (first : ℕ) → slice_get code.funcs number ≡ Some (code_func program number f first) → after.calls ≡ w.calls + 1
        → after.size ≡ w.size + f.nodes
        → record (left_by code (frame_of (its_site waiting w)) after) { control = c }
        ≡ record (with_event event.Exit (objects_kept after (length w.memory.live))) { calls = w.calls; size = w.size; control = c }
    left_is waiting w after c first func calls_are size_is =
        let one : after.calls - 1 ≡ w.calls = omega (arith, calls_are) in
        let two : after.size - f.nodes ≡ w.size = omega (arith, size_is) in
        ap (λ (g : Option CodeFunc). record (objects_kept after (length w.memory.live)) {
          events = after.events ++ event.Exit ∷ [];
          calls = after.calls - 1;
          size = after.size - size_of g;
          control = c;
        }) func
        ∙ (λ i. record (objects_kept after (length w.memory.live)) { events = after.events ++ event.Exit ∷ []; calls = one i; size = two i; control = c })

    -- the objects that were live before
    numbers_kept : (w after : World) → first_numbers (length w.memory.live) after ≡ first_numbers (length w.memory.live) w
        → map (λ (o : Object). o.number) (objects_kept after (length w.memory.live)).memory.live ≡ map (λ (o : Object). o.number) w.memory.live
    numbers_kept w after same = kept_numbers after (length w.memory.live) ∙ same
        ∙ take_all (length w.memory.live) (map (λ (o : Object). o.number) w.memory.live) (let e = live_length w in omega (arith, e))

    comes_back : (waiting : List Waiting) (w : World) (from : Run) (first : ℕ) → slice_get code.funcs number ≡ Some (code_func program number f first) → world_of from ≡ begun w
        → (o : Outcome (Option Held)) → Comes code deep program number f (calls deep program) (calls_keep program deep) (calls_fit program.unit) (inner (length f.variables)) (has_program.sound number f is) (its_site waiting w) from o
        → Back from waiting w (follow (follow o (λ v. keeps (length w.memory.live) >>= λ kept. gives v)) (λ v. exits >>= λ left. gives v))
    comes_back waiting w from first func from_is (Stops end x) ends_so = ends_so
    comes_back waiting w from first func from_is (Goes v t) comes =
        let stays : Stays (length w.memory.live) (begun w) t.world = subst (λ (x : World). Stays (length w.memory.live) x t.world) from_is comes.0.stays in (
          comes.0.control,
          subst (λ (x : World). Reaches code from (handed_back waiting (handed (nat_eq number code.main) v) x)) (left_is waiting w t.world comes.0.control first func stays.calls stays.size) comes.0.reaches,
          comes.1,
          numbers_kept w t.world stays.older,
          stays.left,
        )

    pub runs_back : (waiting : List Waiting) (s : State) (args : List (Option Held)) (first : ℕ) → slice_get code.funcs number ≡ Some (code_func program number f first)
        → HasAt code first (code_of.function_code program number f first) → IsTidy (live_at deep) (begun s.world)
        → Back (Going (at (its_site waiting s.world) first (parameters f.params args) (begun s.world))) waiting s.world (runs program (calls deep program) number f (entered f args s))
    unfolding runs
    runs_back waiting s args first func has tidy =
        comes_back waiting s.world (Going (at (its_site waiting s.world) first (parameters f.params args) (begun s.world))) first func refl
        ((body program (calls deep program) number f >>= result_of program number f) (record { vars = with_arguments (take f.params args) (unset f.variables); world = begun s.world }))
        (function_comes code deep program number f (calls deep program) (calls_keep program deep) (calls_fit program.unit) (inner (length f.variables)) (has_program.sound number f is)
        (its_site waiting s.world) first refl has_program.main has (record { vars = with_arguments (take f.params args) (unset f.variables); world = begun s.world }) (parameters f.params args)
        (arguments_agree f.params args f.variables (begun s.world)) tidy refl)

  -- A CALL: the control source is saved, its operation is made, the function runs, and the control source is taken back
  module _ (deep count : ℕ) (node : Node) (number : ℕ) (used : Bool) (r : ℕ) (low : count ≤ r) (os : List Operand) (args : List Arg) where
    abbrev to : Option ℕ
    to = returned_to node.of used r

    abbrev act_of : Instr
    act_of = instruction program node.place (do_.Call number args to)

    -- the three instructions
    record CallHas (first : ℕ) : Type 0 where
      save : HasAt code first (instruction program node.place do_.Save ∷ [])
      call : HasAt code (first + 1) (act_of ∷ [])
      back : HasAt code (first + 1 + 1) (instruction program node.place do_.Back ∷ [])

    -- the call while its operation is made
    abbrev calling : Site → World → Site
    calling site w = record site { saved = w.control ∷ site.saved }

    -- the caller, as it waits
    abbrev waits : Site → Registers → World → ℕ → Waiting
    waits site registers w first = record {
      frame = (at (calling site w) first registers w).frame;
      back = first + 1 + 1;
      to = to;
    }

    -- what the operation reads
    slots_same : (s : State) (registers : Registers) → map (read s) os ≡ map (read_of registers) args
        → map (λ (x : Read). x.slot) (map (read_of registers) args) ≡ map (λ a. (read s a).slot) os
    slots_same s registers same = ap (map (λ (x : Read). x.slot)) (sym same) ∙ each os
      where
        each : (list : List Operand) → map (λ (x : Read). x.slot) (map (read s) list) ≡ map (λ a. (read s a).slot) list
        each [] = refl
        each (a ∷ list) = ap (λ l. (read s a).slot ∷ l) (each list)

    -- THE VALUE that the caller goes on with
    value_same : (v : Option Held) (of result : TType) → alike (has_values of) (has_values result) ≡ true → has_value v ≡ has_values result → (slot : Option Held)
        → ((h : Held) → v ≡ Some h → slot ≡ Some h) → (new : Registers) → (returned_to of true r ≡ Some r → new r ≡ slot) → Same count r new (as_operand v) (value_returned of r)
    value_same None ttype.Void result fits valued slot given new set = values.number (pos 0)
    value_same (Some h) ttype.Void ttype.Void fits valued slot given new set = absurd (cc valued)
    value_same (Some h) ttype.Void (ttype.Number kind) fits valued slot given new set = absurd (cc fits)
    value_same (Some h) ttype.Void (ttype.Pointer target) fits valued slot given new set = absurd (cc fits)
    value_same (Some h) (ttype.Number kind) result fits valued slot given new set = held h r (omega arith) (omega arith) (set refl ∙ given h refl)
    value_same (Some h) (ttype.Pointer target) result fits valued slot given new set = held h r (omega arith) (omega arith) (set refl ∙ given h refl)
    value_same None (ttype.Number kind) ttype.Void fits valued slot given new set = absurd (cc fits)
    value_same None (ttype.Number kind) (ttype.Number other) fits valued slot given new set = absurd (cc valued)
    value_same None (ttype.Number kind) (ttype.Pointer target) fits valued slot given new set = absurd (cc valued)
    value_same None (ttype.Pointer target) ttype.Void fits valued slot given new set = absurd (cc fits)
    value_same None (ttype.Pointer target) (ttype.Number other) fits valued slot given new set = absurd (cc valued)
    value_same None (ttype.Pointer target) (ttype.Pointer other) fits valued slot given new set = absurd (cc valued)

    handed_is : (b : Bool) (v : Option Held) (h : Held) → v ≡ Some h → handed b v ≡ Some h
    handed_is b v h is = ap (handed b) is

    -- the registers of the caller, with what was returned
    abbrev with_returned : Option ℕ → Option Held → Registers → Registers
    with_returned None slot registers = registers
    with_returned (Some k) slot registers = with_slot k slot registers

    agrees_by : (s : State) (w : World) (slot : Option Held) (registers : Registers) → Agrees count s registers → Agrees count (record s { world = w }) (with_slot r slot registers)
    agrees_by s w slot registers agrees = agrees_behind code deep count s w registers r slot low agrees

    returned_agrees : (of : TType) (want : Bool) (s : State) (w : World) (slot : Option Held) (registers : Registers) → Agrees count s registers
        → Agrees count (record s { world = w }) (with_returned (returned_to of want r) slot registers)
    returned_agrees ttype.Void want s w slot registers agrees = record { length_is = agrees.length_is; hold = agrees.hold }
    returned_agrees (ttype.Number kind) false s w slot registers agrees = record { length_is = agrees.length_is; hold = agrees.hold }
    returned_agrees (ttype.Number kind) true s w slot registers agrees = agrees_by s w slot registers agrees
    returned_agrees (ttype.Pointer target) false s w slot registers agrees = record { length_is = agrees.length_is; hold = agrees.hold }
    returned_agrees (ttype.Pointer target) true s w slot registers agrees = agrees_by s w slot registers agrees

    returned_keeps : (of : TType) (want : Bool) (slot : Option Held) (registers : Registers) → Keeps count r registers (with_returned (returned_to of want r) slot registers)
    returned_keeps ttype.Void want slot registers = keeps_itself count r registers
    returned_keeps (ttype.Number kind) false slot registers = keeps_itself count r registers
    returned_keeps (ttype.Number kind) true slot registers = keeps_below code deep count r r slot registers (omega arith)
    returned_keeps (ttype.Pointer target) false slot registers = keeps_itself count r registers
    returned_keeps (ttype.Pointer target) true slot registers = keeps_below code deep count r r slot registers (omega arith)

    returned_set : (of : TType) (slot : Option Held) (registers : Registers) → returned_to of true r ≡ Some r → with_returned (returned_to of true r) slot registers r ≡ slot
    returned_set ttype.Void slot registers is = absurd (cc is)
    returned_set (ttype.Number kind) slot registers is = slot_here r slot registers
    returned_set (ttype.Pointer target) slot registers is = slot_here r slot registers

    returned_frame : (o : Option ℕ) (slot : Option Held) (site : Site) (pc : ℕ) (registers : Registers) (w x : World)
        → Going (record { pc = pc; frame = with_register o slot (at site pc registers w).frame; waiting = site.waiting; world = x }) ≡ Going (at site pc (with_returned o slot registers) x)
    returned_frame None slot site pc registers w x = refl
    returned_frame (Some k) slot site pc registers w x = refl

    -- the control source is taken back
    taken_back : (site : Site) (first : ℕ) (new : Registers) (x w : World) → CallHas first
        → step code (Going (at (calling site w) (first + 1 + 1) new x)) ≡ Going (at site (first + 1 + 1 + 1) new (record x { control = w.control }))
    unfolding alone operation_of
    taken_back site first new x w has = alone_steps code (calling site w) (first + 1 + 1) x new program node.place do_.Back has.back refl

    -- THE CALL OPERATION of *Evaluation*, where f is its function and so many more calls may be live behind it
    module _ (n : ℕ) (deep_is : deep ≡ suc n) (enough : suc n ≤ call_limit) (inner : AllFollow n) (f : TFunc) (is : slice_get program.unit.functions number ≡ Some f)
        (fits : alike (has_values node.of) (has_values f.result) ≡ true) where
      not_full : (w : World) → w.calls ≡ live_at (suc n) → is_full w ≡ false
      not_full w calls_are = by (is_full w) refl
        where
          by : (b : Bool) → is_full w ≡ b → b ≡ false
          by false is = refl
          by true is = absurd (let low : call_limit < w.calls + 1 = ltb-true call_limit (w.calls + 1) is in omega (arith, low, calls_are))

      more_live : (w : World) → w.calls ≡ live_at (suc n) → w.calls + 1 ≡ live_at n
      more_live w calls_are = omega (arith, calls_are, enough)

      -- the caller goes on, by what the call came to
      goes_on : (site : Site) (first : ℕ) (s : State) (registers : Registers) (w : World) → CallHas first → Agrees count s registers → Moves s.world w → w.control ≡ s.world.control
          → (from : Run) → Reaches code (Going (at site first registers s.world)) from → (o : Outcome (Option Held))
          → Back n inner number f is from (waits site registers s.world first ∷ site.waiting) w o → Leaves (live_at n) false w.control o
          → Leads code deep count site (Going (at site first registers s.world)) (first + 1 + 1 + 1) r registers (λ v new. used ≡ true → Same count r new v (value_returned node.of r)) (back_to (record s { world = w }) o)
      goes_on site first s registers w has agrees fewer control from reaches (Stops end x) ends_so leaves = ends_from code (Going (at site first registers s.world)) from end x reaches ends_so
      goes_on site first s registers w has agrees fewer control from reaches (Goes v t) back leaves =
          let slot : Option Held = handed (nat_eq number code.main) v in
          let new : Registers = with_returned to slot registers in
          let world : World = record t.world { control = w.control; calls = w.calls; size = w.size } in
          let behind_it : World = record t.world { calls = w.calls; size = w.size; control = back.0 } in (
            new,
            reaches_both code (Going (at site first registers s.world)) from (Going (at site (first + 1 + 1 + 1) new world)) reaches
                (reaches_both code from (Going (at (calling site s.world) (first + 1 + 1) new behind_it)) (Going (at site (first + 1 + 1 + 1) new world))
                (subst (λ (x : Run). Reaches code from x) (returned_frame to slot (calling site s.world) (first + 1 + 1) registers s.world behind_it) back.1)
                (suc zero, taken_back site first new behind_it s.world has ∙ ap (λ c. Going (at site (first + 1 + 1 + 1) new (record t.world { calls = w.calls; size = w.size; control = c }))) (sym control))),
            returned_agrees node.of used s world slot registers agrees,
            returned_keeps node.of used slot registers,
            (λ is_used. value_same v node.of f.result fits back.2 slot (λ h given. handed_is (nat_eq number code.main) v h given) new
                (λ set. ap (λ b. with_returned (returned_to node.of b r) slot registers r) is_used ∙ returned_set node.of slot registers set)),
            record {
              numbers = back.3 ∙ fewer.fewer.same.numbers;
              calls = fewer.fewer.same.calls;
              size = fewer.fewer.same.size;
              left = (let one : t.world.left ≤ w.left = back.4 in let two : w.left + 1 ≡ s.world.left = fewer.fewer.left in omega (arith, one, two));
              tidy = λ live tidy. record { laid = leaves.0.laid; origins = leaves.0.origins; calls = fewer.fewer.same.calls ∙ tidy.calls };
            },
          )

      -- the function is entered, or too many nodes would be live
      entered_leads : (site : Site) (first : ℕ) (s : State) (registers : Registers) (w : World) → CallHas first → Agrees count s registers → IsTidy (live_at (suc n)) w → Moves s.world w → w.control ≡ s.world.control
          → (slots : List (Option Held)) → Reaches code (Going (at site first registers s.world)) (called (slice_get code.funcs number) number slots to node.place (at (calling site s.world) (first + 1) registers w))
          → Leads code deep count site (Going (at site first registers s.world)) (first + 1 + 1 + 1) r registers (λ v new. used ≡ true → Same count r new v (value_returned node.of r))
          (enters_number program (calls n program) number node.place (slice_get program.unit.functions number) slots (record s { world = w }))
      entered_leads site first s registers w has agrees tidy fewer control slots reaches =
          subst (λ (g : Option TFunc). Leads code deep count site (Going (at site first registers s.world)) (first + 1 + 1 + 1) r registers (λ v new. used ≡ true → Same count r new v (value_returned node.of r))
          (enters_number program (calls n program) number node.place g slots (record s { world = w }))) (sym is)
          (by (is_too_large w f.nodes) refl)
        where
          there : (first : ℕ) × (slice_get code.funcs number ≡ Some (code_func program number f first)) × HasAt code first (code_of.function_code program number f first)
          there = has_program.function number f is

          call_is : called (slice_get code.funcs number) number slots to node.place (at (calling site s.world) (first + 1) registers w)
              ≡ (if is_full w || is_too_large w f.nodes then Over (Trapped StackOverflow node.place) w
              else Going (at (its_site n inner number f is (waits site registers s.world first ∷ site.waiting) w) there.0 (parameters f.params slots) (begun n inner number f is w)))
          call_is = ap (λ (g : Option CodeFunc). called g number slots to node.place (at (calling site s.world) (first + 1) registers w)) there.1

          by : (b : Bool) → is_too_large w f.nodes ≡ b
              → Leads code deep count site (Going (at site first registers s.world)) (first + 1 + 1 + 1) r registers (λ v new. used ≡ true → Same count r new v (value_returned node.of r))
              (if b then traps StackOverflow node.place (record s { world = w }) else back_to (record s { world = w }) (runs program (calls n program) number f (entered f slots (record s { world = w }))))
          by true large = ends_at code (Going (at site first registers s.world)) (Trapped StackOverflow node.place) w
              (subst (λ (x : Run). Reaches code (Going (at site first registers s.world)) x) (call_is ∙ (λ i. if not_full w tidy.calls i || large i then Over (Trapped StackOverflow node.place) w
              else Going (at (its_site n inner number f is (waits site registers s.world first ∷ site.waiting) w) there.0 (parameters f.params slots) (begun n inner number f is w)))) reaches)
          by false large =
              let entry : Run = Going (at (its_site n inner number f is (waits site registers s.world first ∷ site.waiting) w) there.0 (parameters f.params slots) (begun n inner number f is w)) in
              goes_on site first s registers w has agrees fewer control entry
              (subst (λ (x : Run). Reaches code (Going (at site first registers s.world)) x) (call_is ∙ (λ i. if not_full w tidy.calls i || large i then Over (Trapped StackOverflow node.place) w else entry)) reaches)
              (runs program (calls n program) number f (entered f slots (record s { world = w })))
              (runs_back n inner number f is (waits site registers s.world first ∷ site.waiting) (record s { world = w }) slots there.0 there.1 there.2
              (record { laid = tidy.laid; origins = tidy.origins; calls = more_live w tidy.calls }))
              ((runs_tidies program (calls n program) number f (calls_keep program n)).leaves (live_at n) (entered f slots (record s { world = w }))
              (record { laid = tidy.laid; origins = tidy.origins; calls = more_live w tidy.calls }))

    -- the whole call: its control source is saved, and its operation is made
    module _ (site : Site) (first : ℕ) (s : State) (registers : Registers) (has : CallHas first) (begins : Begins deep count site s registers) (tidy_is : deep ≡ deep)
        (same : AllSame count r registers os args) where
      abbrev from : Run
      from = Going (at site first registers s.world)

      reads_are : map (read s) os ≡ map (read_of registers) args
      reads_are = all_read count r registers s os args same begins.0

      saved : Reaches code from (Going (at (calling site s.world) (first + 1) registers s.world))
      unfolding alone operation_of
      saved = (suc zero, alone_steps code site first s.world registers program node.place do_.Save has.save refl)

      abbrev takes : ℕ
      takes = latency program.latencies class.Call

      abbrev operated : Made
      operated = operation class.Call takes node.place act.Call (map (read s) os) s.world

      operates : step code (Going (at (calling site s.world) (first + 1) registers s.world)) ≡ by_operation code act_of (at (calling site s.world) (first + 1) registers s.world) operated
      unfolding operation_of operands
      operates = operation_steps code (calling site s.world) (first + 1) s registers program node.place class.Call act.Call os (do_.Call number args to) has.call refl reads_are

      -- behind the operation the function is called
      called_is : (h : Held) (w : World) → by_operation code act_of (at (calling site s.world) (first + 1) registers s.world) (Gives h w)
          ≡ called (slice_get code.funcs number) number (map (λ a. (read s a).slot) os) to node.place (at (calling site s.world) (first + 1) registers w)
      unfolding behind operands
      called_is h w = ap (λ slots. called (slice_get code.funcs number) number slots to node.place (at (calling site s.world) (first + 1) registers w)) (slots_same s registers reads_are)

      reaches_call : (h : Held) (w : World) → operated ≡ Gives h w
          → Reaches code from (called (slice_get code.funcs number) number (map (λ a. (read s a).slot) os) to node.place (at (calling site s.world) (first + 1) registers w))
      reaches_call h w gives_it = reaches_both code from (Going (at (calling site s.world) (first + 1) registers s.world)) _ saved
          (suc zero, operates ∙ ap (by_operation code act_of (at (calling site s.world) (first + 1) registers s.world)) gives_it ∙ called_is h w)

      -- by what the operation came to
      operation_leads : (rest : List (Option Held) → Part Operand)
          → ((h : Held) (w : World) → operated ≡ Gives h w → Moves s.world w → w.control ≡ s.world.control
          → Leads code deep count site from (first + 1 + 1 + 1) r registers (λ v new. used ≡ true → Same count r new v (value_returned node.of r)) (rest (map (λ a. (read s a).slot) os) (record s { world = w })))
          → Leads code deep count site from (first + 1 + 1 + 1) r registers (λ v new. used ≡ true → Same count r new v (value_returned node.of r)) ((calls_operation program node.place os >>= rest) s)
      operation_leads rest goes = by operated refl (operation_moves class.Call takes node.place act.Call (map (read s) os) s.world)
          (control_stays class.Call takes node.place act.Call (map (read s) os) s.world (λ is. cc is))
        where
          by : (m : Made) → operated ≡ m → WhereMade Moves s.world m → WhereMade (λ before after. after.control ≡ before.control) s.world m
              → Leads code deep count site from (first + 1 + 1 + 1) r registers (λ v new. used ≡ true → Same count r new v (value_returned node.of r))
              (follow (follow (made s m) (λ done. gives (map (λ a. (read s a).slot) os))) rest)
          by (Gives h w) gives_it fewer control = goes h w gives_it fewer control
          by (Ends end w) ends_it fewer control = ends_at code from end w
              (reaches_both code from (Going (at (calling site s.world) (first + 1) registers s.world)) (Over end w) saved
              (suc zero, operates ∙ ap (by_operation code act_of (at (calling site s.world) (first + 1) registers s.world)) ends_it))

  -- the three instructions of a call
  call_has : (node : Node) (number : ℕ) (used : Bool) (r : ℕ) (args : List Arg) (deep count : ℕ) (low : count ≤ r) (os : List Operand) (first : ℕ)
      → HasAt code first ((calls_with program node number used r args).code first) → CallHas deep count node number used r low os args first
  call_has node number used r args deep count low os first has = record { save = (has.0, tt); call = (has.1.0, tt); back = (has.1.1.0, tt) }

  -- behind the last of them
  behind_call : (first : ℕ) → first + 1 + 1 + 1 ≡ first + (1 + (1 + 0 + (1 + 0)))
  behind_call first = omega arith

  -- the function of a call that fits is there
  fits_is : (node : Node) (number : ℕ) → calls_fit program.unit node number ≡ true
      → (f : TFunc) × (slice_get program.unit.functions number ≡ Some f) × (alike (has_values node.of) (has_values f.result) ≡ true)
  fits_is node number fits = by (slice_get program.unit.functions number) refl fits
    where
      by : (o : Option TFunc) → slice_get program.unit.functions number ≡ o → call_fits o node.of ≡ true
          → (f : TFunc) × (slice_get program.unit.functions number ≡ Some f) × (alike (has_values node.of) (has_values f.result) ≡ true)
      by None is fits = absurd (cc fits)
      by (Some f) is fits = (f, is, fits)

  -- no call more may be live: the limit is passed
  full : (w : World) → w.calls ≡ live_at 0 → is_full w ≡ true
  full w calls_are = lt-ltb call_limit (w.calls + 1) (omega (arith, calls_are))

  -- ALL CALLS DO WHAT THEY MEAN
  pub calls_do : (deep : ℕ) → deep ≤ call_limit → AllFollow deep
  unfolding calls
  calls_do zero enough count node number fits used r low os args site first s registers has begins same =
      let it = fits_is node number fits in
      let there = has_program.function number it.0 it.1 in
      subst (λ n. Leads code zero count site (Going (at site first registers s.world)) n r registers (λ v new. IfUsed used count r v (value_returned node.of r) new) (calls zero program number node.place os s)) (behind_call first)
      (operation_leads zero count node number used r low os args site first s registers (call_has node number used r args zero count low os first has) begins refl same (λ given. traps StackOverflow node.place)
      (λ h w gives_it fewer control. ends_at code (Going (at site first registers s.world)) (Trapped StackOverflow node.place) w
      (subst (λ (x : Run). Reaches code (Going (at site first registers s.world)) x)
      (ap (λ (g : Option CodeFunc). called g number (map (λ a. (read s a).slot) os) (returned_to node.of used r) node.place (at (record site { saved = s.world.control ∷ site.saved }) (first + 1) registers w)) there.1
      ∙ (λ i. if full w (fewer.fewer.same.calls ∙ begins.1.calls) i || is_too_large w it.0.nodes then Over (Trapped StackOverflow node.place) w
      else Going (record {
        pc = there.0;
        frame = record { func = number; registers = parameters it.0.params (map (λ a. (read s a).slot) os); saved = []; regions = 0; base = length w.memory.live };
        waiting = record { frame = (at (record site { saved = s.world.control ∷ site.saved }) (first + 1) registers w).frame; back = first + 1 + 1; to = returned_to node.of used r } ∷ site.waiting;
        world = record (with_event (event.Enter (function_region number it.0)) w) { calls = w.calls + 1; size = w.size + it.0.nodes };
      })))
      (reaches_call zero count node number used r low os args site first s registers (call_has node number used r args zero count low os first has) begins refl same h w gives_it))))
  calls_do (suc n) enough count node number fits used r low os args site first s registers has begins same =
      let it = fits_is node number fits in
      let three = call_has node number used r args (suc n) count low os first has in
      subst (λ k. Leads code (suc n) count site (Going (at site first registers s.world)) k r registers (λ v new. IfUsed used count r v (value_returned node.of r) new) (calls (suc n) program number node.place os s)) (behind_call first)
      (operation_leads (suc n) count node number used r low os args site first s registers three begins refl same
      (λ given. enters_number program (calls n program) number node.place (slice_get program.unit.functions number) given)
      (λ h w gives_it fewer control.
      entered_leads (suc n) count node number used r low os args n refl enough (calls_do n (omega (arith, enough))) it.0 it.1 it.2 site first s registers w three begins.0
      (fewer.tidy (live_at (suc n)) begins.1) fewer control (map (λ a. (read s a).slot) os)
      (reaches_call (suc n) count node number used r low os args site first s registers three begins refl same h w gives_it)))
