-- A run writes bytes, where the texts of its program are bytes.
use Rattle.std.proofs.Common.{ℕ, zero, suc, ◌+◌, ◌-◌, ℤ, pos, List, [], ◌∷◌, ◌++◌, map, Option, Some, None, Bool, true, false, nat_eq, if◌then◌else◌, sym, subst, slice_get}
use Rattle.std.specs.List.{concat}
use Rattle.k_num.specs.declared.place.Place.{Place}
use Rattle.k_num.specs.declared.numbers.Kind.{Kind}
use Rattle.k_num.specs.declared.numbers.Bin.TheVariants as bin
use Rattle.k_optab.specs.declared.class.Class.TheVariants as class
use Rattle.k_ending.specs.declared.ending.Trap.TheVariants.{StackOverflow, FallOff}
use Rattle.k_types_meaning.specs.declared.types.TType.{TType}
use Rattle.k_types_meaning.specs.declared.types.TType.TheVariants as ttype
use Rattle.k_types_meaning.specs.declared.tree.declaration.TDeclarator.{TDeclarator}
use Rattle.k_types_meaning.specs.declared.tree.declaration.TInit.{TInit}
use Rattle.k_types_meaning.specs.declared.tree.declaration.TInit.TheVariants as init
use Rattle.k_types_meaning.specs.declared.tree.declaration.TItem.{TItem}
use Rattle.k_types_meaning.specs.declared.tree.declaration.TItem.TheVariants as item
use Rattle.k_types_meaning.specs.declared.tree.expression.TExpr.{TExpr}
use Rattle.k_types_meaning.specs.declared.tree.statement.Spot.{Spot}
use Rattle.k_types_meaning.specs.declared.tree.statement.TFirst.{TFirst}
use Rattle.k_types_meaning.specs.declared.tree.statement.TFirst.TheVariants as first
use Rattle.k_types_meaning.specs.declared.tree.statement.TPart.{TPart, fold-TPart, fold-roll-TPart, map-TPart}
use Rattle.k_types_meaning.specs.declared.tree.statement.TPart.TheOpen.{TPart-F, TStmt-F}
use Rattle.k_types_meaning.specs.declared.tree.statement.TStmt.{TStmt, fold-roll-TStmt, ind-TStmt, map-TStmt}
use Rattle.k_types_meaning.specs.declared.tree.unit.TFunc.{TFunc}
use Rattle.k_types_meaning.specs.declared.tree.unit.TObject.{TObject}
use Rattle.k_types_meaning.specs.declared.tree.unit.TString.{TString}
use Rattle.k_types_meaning.specs.declared.tree.unit.TVariable.{TVariable}
use Rattle.k_mem.specs.declared.start.Start.TheVariants.{Unset, Zero}
use Rattle.k_world.specs.declared.act.Act.TheVariants as act
use Rattle.k_world.specs.declared.value.Held.{Held}
use Rattle.k_world.specs.declared.value.Value.TheVariants as value
use Rattle.k_world.specs.Limits.{call_limit, is_too_large}
use Rattle.k_world.specs.WorldLaws.{AreBytes}
use Rattle.k_evaluation.specs.declared.operand.Operand.{Operand}
use Rattle.k_evaluation.specs.declared.operand.Operand.TheVariants.{Constant, Register}
use Rattle.k_evaluation.specs.declared.operand.Target.{Target}
use Rattle.k_evaluation.specs.declared.operand.Target.TheVariants.{InRegister, InMemory}
use Rattle.k_evaluation.specs.declared.flow.Flow.{Flow}
use Rattle.k_evaluation.specs.declared.flow.Flow.TheVariants.{Normal, Broke, Continued, Returned}
use Rattle.k_evaluation.specs.States.{Program, State, Outcome, Goes, Stops, Part, follow, ◌>>=◌, gives, traps, read, sets, control, settles}
use Rattle.k_evaluation.specs.Objects.{makes_object, makes_string, fills, block}
use Rattle.k_marks_meaning.specs.Jumps.{is_left}
use Rattle.k_evaluation.specs.Meanings.{tests, holds}
use Rattle.k_evaluation.specs.Assignments.{writes}
use Rattle.k_evaluation.specs.Expressions.{Calls}
use Rattle.k_evaluation.specs.Flows.{Doing, Within, means, drops, tests_at, goes_on, unless_left, in_order}
use Rattle.k_evaluation.specs.Loops.{LoopParts, Turn, Again, Ends, turn_of, resets, starts, stays_behind_body, stays_behind_loop, step_or_end, behind_body, turn, turn_if, turns, all_turns, begins, inside_loop, loop, loop_region, test_or_one, step_or_none, loop_parts, source_loop, while_loop, do_loop}
use Rattle.k_evaluation.specs.Declarations.{stores, initialises, begins_register, values_from, element_of, stores_item, stores_items, begins_object, begins_variable, declares_by, elements_of, declares, declares_all, starts_with}
use Rattle.k_evaluation.specs.Switches.{PartDoing, ACase, ADefault, AStatement, statements_of, behind_default, has_case, selects, chooses, behind_switch, runs_chosen, switches, switch_jumps, switch}
use Rattle.k_evaluation.specs.Statements.{expression, empty, compound, does_or_none, chosen_arm, if_jumps, if_else, for_loop, break, continue, returns_moved, returns_value, return, declaration, does_step, part_step, does}
use Rattle.k_evaluation.specs.Calls.{serves_by, serves, falls_off, at_end, result_of, function_region, within, body, runs, entered, back_to, enters_function, enters_number, calls_operation, calls}
use Rattle.k_evaluation.specs.Runs.{starts_object, starts_objects, starts_strings, runs_main, whole, initial, ended, run}
use Rattle.k_evaluation.specs.Texts.{texts, option_texts, item_texts, init_texts, declared_texts, first_texts, stmt_step, stmt_texts, part_texts, function_texts, source_texts}
use Rattle.k_evaluation.specs.Texts as texts_of
use Rattle.k_evaluation.specs.Laws.{RunsWriteBytes}
use Rattle.k_evaluation.proofs.Written.{bytes_first, bytes_second, CleanOutcome, IsClean, then_clean, gives_clean, traps_clean, sets_clean, control_clean, settles_clean, settled_clean, region_clean, block_clean, makes_object_clean, makes_string_clean, fills_clean, makes_clean, computes_clean}
use Rattle.k_evaluation.proofs.CleanRows.{CleanMeaning, CleanCalls, tests_clean, writes_clean, eval_clean}

-- STATEMENTS write bytes
abbrev CleanDoing : Doing → Type 0
CleanDoing s = IsClean s.does

abbrev AllClean : List Doing → Type 0
AllClean [] = Unit {0}
AllClean (s ∷ ss) = CleanDoing s × AllClean ss

abbrev CleanPart : PartDoing → Type 0
CleanPart (ACase place z) = Unit {0}
CleanPart ADefault = Unit {0}
CleanPart (AStatement s) = CleanDoing s

abbrev PartsClean : List PartDoing → Type 0
PartsClean [] = Unit {0}
PartsClean (p ∷ ps) = CleanPart p × PartsClean ps

unless_left_clean : (next : Part Flow) → IsClean next → (flow : Flow) → IsClean (unless_left next flow)
unless_left_clean next h Normal = h
unless_left_clean next h Broke = gives_clean Broke
unless_left_clean next h Continued = gives_clean Continued
unless_left_clean next h (Returned v) = gives_clean (Returned v)

in_order_clean : (ss : List Doing) → AllClean ss → IsClean (in_order ss)
in_order_clean [] h = gives_clean Normal
in_order_clean (s ∷ ss) h = then_clean s.does (unless_left (in_order ss)) h.0 (unless_left_clean (in_order ss) (in_order_clean ss h.1))

-- LOOPS
record CleanLoop (l : LoopParts) : Type 0 where
  test : IsClean l.test
  step : IsClean l.step
  body : IsClean l.body

module _ (l : LoopParts) (h : CleanLoop l) (before : Option ℕ) where
  starts_clean : {A : Type 0} (part : Part A) → IsClean part → IsClean (starts l before part)
  starts_clean part k = then_clean (resets l.counted before) (λ ready. part) (settles_clean _ before) (λ ready. k)

  step_or_end_clean : (next : Part Flow) → IsClean next → (t : Turn) → IsClean (step_or_end l before next t)
  step_or_end_clean next k Again = then_clean (starts l before l.step) (λ done. next) (starts_clean l.step h.step) (λ done. k)
  step_or_end_clean next k (Ends flow) = gives_clean flow

  turn_clean : (next : Part Flow) → IsClean next → (last : Option ℕ) → IsClean (turn l before next last)
  turn_clean next k last =
      then_clean (starts l before l.body) (behind_body l before next last) (starts_clean l.body h.body)
      (λ flow. then_clean (settles (stays_behind_body l.jumps) last) (λ done. step_or_end l before next (turn_of flow)) (settles_clean (stays_behind_body l.jumps) last)
      (λ done. step_or_end_clean next k (turn_of flow)))

  turn_if_clean : (next : Part Flow) → IsClean next → (test : Held) → IsClean (turn_if l before next test)
  turn_if_clean next k test = by (holds test)
    where
      by : (b : Bool) → IsClean (if b then turn l before next test.source else gives Normal)
      by true = turn_clean next k test.source
      by false = gives_clean Normal

  turns_clean : (n : ℕ) → IsClean (turns n l before)
  unfolding turns
  turns_clean zero = record { clean = λ s bytes. bytes }
  turns_clean (suc n) = record {
    clean = (then_clean (starts l before l.test) (turn_if l before (turns n l before)) (starts_clean l.test h.test) (turn_if_clean (turns n l before) (turns_clean n))).clean;
  }

  all_turns_clean : IsClean (all_turns l before)
  all_turns_clean = record { clean = λ s bytes. (turns_clean (s.world.left + 1)).clean s bytes }

  begins_clean : (tested : Bool) → IsClean (begins l tested before)
  begins_clean true = all_turns_clean
  begins_clean false = turn_clean (all_turns l before) all_turns_clean before

loop_clean : (l : LoopParts) (number : ℕ) (tested : Bool) → CleanLoop l → IsClean (loop l number tested)
loop_clean l number tested h =
    then_clean control (λ before. inside_loop l number tested before >>= λ flow. settles (stays_behind_loop l.counted l.jumps) before >>= λ done. gives flow) control_clean
    (λ before. then_clean (inside_loop l number tested before) (λ flow. settles (stays_behind_loop l.counted l.jumps) before >>= λ done. gives flow)
    (region_clean number (begins l tested before) (begins_clean l h before tested))
    (λ flow. then_clean (settles (stays_behind_loop l.counted l.jumps) before) (λ done. gives flow) (settles_clean (stays_behind_loop l.counted l.jumps) before)
    (λ done. gives_clean flow)))

-- SWITCHES: what is chosen writes bytes
abbrev ChoiceOutcome : Outcome (List Doing) → Type 0
ChoiceOutcome (Goes chosen t) = AllClean chosen × AreBytes t.world.output
ChoiceOutcome (Stops end w) = AreBytes w.output

record CleanChoice (part : Part (List Doing)) : Type 0 where
  clean : (s : State) → AreBytes s.world.output → ChoiceOutcome (part s)

choice_follow : (o : Outcome Held) (next : Held → Part (List Doing)) → CleanOutcome o → ((a : Held) → CleanChoice (next a)) → ChoiceOutcome (follow o next)
choice_follow (Goes a t) next h k = (k a).clean t h
choice_follow (Stops end w) next h k = h

statements_clean : (parts : List PartDoing) → PartsClean parts → AllClean (statements_of parts)
statements_clean [] h = tt
statements_clean (ACase place z ∷ parts) h = statements_clean parts h.1
statements_clean (ADefault ∷ parts) h = statements_clean parts h.1
statements_clean (AStatement s ∷ parts) h = (h.0, statements_clean parts h.1)

default_clean : (parts : List PartDoing) → PartsClean parts → AllClean (behind_default parts)
default_clean [] h = tt
default_clean (ACase place z ∷ parts) h = default_clean parts h.1
default_clean (ADefault ∷ parts) h = statements_clean parts h.1
default_clean (AStatement s ∷ parts) h = default_clean parts h.1

selects_clean : (program : Program) (kind : Kind) (place : Place) (z : ℤ) (on : Operand) → IsClean (selects program kind place z on)
selects_clean program kind place z on =
    then_clean _ _ (computes_clean program class.Simple place (act.Binary bin.Eq kind) (on ∷ Constant (value.Number z) ∷ []) tt)
    (λ same. makes_clean program class.Select place act.Test (same ∷ []) tt)

gives_choice : (chosen : List Doing) → AllClean chosen → CleanChoice (gives chosen)
gives_choice chosen h = record { clean = λ s bytes. (h, bytes) }

choose_by : (program : Program) (kind : Kind) (on : Operand) (default : List Doing) (parts : List PartDoing) (b : Bool) → AllClean (statements_of parts)
    → CleanChoice (chooses program kind on default parts) → CleanChoice (if b then gives (statements_of parts) else chooses program kind on default parts)
choose_by program kind on default parts true h k = gives_choice (statements_of parts) h
choose_by program kind on default parts false h k = k

chooses_clean : (program : Program) (kind : Kind) (on : Operand) (default : List Doing) (parts : List PartDoing) → AllClean default → PartsClean parts
    → CleanChoice (chooses program kind on default parts)
chooses_clean program kind on default [] h k = gives_choice default h
chooses_clean program kind on default (ACase place z ∷ parts) h k = record {
  clean =
      λ s bytes. choice_follow (selects program kind place z on s)
      (λ select. if holds select then gives (statements_of parts) else chooses program kind on default parts)
      ((selects_clean program kind place z on).clean s bytes)
      (λ select. choose_by program kind on default parts (holds select) (statements_clean parts k.1) (chooses_clean program kind on default parts h k.1));
}
chooses_clean program kind on default (ADefault ∷ parts) h k = chooses_clean program kind on default parts h k.1
chooses_clean program kind on default (AStatement s ∷ parts) h k = chooses_clean program kind on default parts h k.1

runs_chosen_clean : (chosen : List Doing) → AllClean chosen → IsClean (runs_chosen chosen)
runs_chosen_clean chosen h = then_clean (in_order chosen) (λ flow. gives (behind_switch flow)) (in_order_clean chosen h) (λ flow. gives_clean (behind_switch flow))

choice_runs : (o : Outcome (List Doing)) → ChoiceOutcome o → CleanOutcome (follow o runs_chosen)
choice_runs (Goes chosen t) h = (runs_chosen_clean chosen h.0).clean t h.1
choice_runs (Stops end w) h = h

switches_clean : (program : Program) (kind : Kind) (parts : List PartDoing) (on : Operand) → PartsClean parts → IsClean (switches program kind parts on)
switches_clean program kind parts on h = record {
  clean =
      λ s bytes. choice_runs (chooses program kind on (behind_default parts) parts s)
      ((chooses_clean program kind on (behind_default parts) parts (default_clean parts h) h).clean s bytes);
}

module _ (program : Program) (function : ℕ) (vs : List TVariable) (calls : Calls) (calls_clean : CleanCalls calls) where
  abbrev here : Within
  here = record { program = program; function = function; vars = vs; calls = calls }

  means_clean : (e : TExpr) → AreBytes (texts e) → CleanMeaning (means here e)
  means_clean e h = eval_clean program vs calls calls_clean e h

  drops_clean : (e : TExpr) → AreBytes (texts e) → IsClean (drops here e)
  drops_clean e h = then_clean ((means here e).value false) (λ a. gives {A = Unit {0}} tt) ((means_clean e h).value false) (λ a. gives_clean {A = Unit {0}} tt)

  tests_at_clean : (place : Place) (e : TExpr) → AreBytes (texts e) → IsClean (tests_at here place e)
  tests_at_clean place e h = then_clean ((means here e).value true) (tests program place) ((means_clean e h).value true) (tests_clean program place)

  goes_on_clean : (part : Part (Unit {0})) → IsClean part → IsClean (goes_on part)
  goes_on_clean part h = then_clean part (λ done. gives Normal) h (λ done. gives_clean Normal)

  -- DECLARATIONS
  initialises_clean : (d : TDeclarator) (e : TExpr) (target : Target) → AreBytes (texts e) → IsClean (initialises here d e target)
  initialises_clean d e target h =
      then_clean ((means here e).value true) (λ a. writes program d.place target a >>= λ v. gives {A = Unit {0}} tt) ((means_clean e h).value true)
      (λ a. then_clean (writes program d.place target a) (λ v. gives {A = Unit {0}} tt) (writes_clean program d.place target a) (λ v. gives_clean {A = Unit {0}} tt))

  begins_register_clean : (d : TDeclarator) (i : TInit) → AreBytes (init_texts i) → IsClean (begins_register here d i)
  begins_register_clean d init.Nothing h = sets_clean d.variable None
  begins_register_clean d (init.Value e) h = initialises_clean d e (InRegister d.variable false) h
  begins_register_clean d (init.Elements items) h = gives_clean {A = Unit {0}} tt

  stores_item_clean : (home : Held) (i : TItem) → AreBytes (item_texts i) → IsClean (stores_item here home i)
  stores_item_clean home (item.Bytes n bytes) h = gives_clean {A = Unit {0}} tt
  stores_item_clean home (item.Value place n e) h =
      then_clean ((means here e).value true) (stores program place (element_of home n)) ((means_clean e h).value true)
      (λ a. then_clean _ _ (computes_clean program class.Store place act.Store (element_of home n ∷ a ∷ []) tt) (λ v. gives_clean {A = Unit {0}} tt))

  stores_items_clean : (home : Held) (items : List TItem) → AreBytes (concat (map item_texts items)) → IsClean (stores_items here home items)
  stores_items_clean home [] h = gives_clean {A = Unit {0}} tt
  stores_items_clean home (i ∷ items) h =
      then_clean (stores_item here home i) (λ done. stores_items here home items) (stores_item_clean home i (bytes_first (item_texts i) (concat (map item_texts items)) h))
      (λ done. stores_items_clean home items (bytes_second (item_texts i) (concat (map item_texts items)) h))

  begins_object_clean : (d : TDeclarator) (i : TInit) (home : Held) → AreBytes (init_texts i) → IsClean (begins_object here d i home)
  begins_object_clean d init.Nothing home h = gives_clean {A = Unit {0}} tt
  begins_object_clean d (init.Value e) home h = initialises_clean d e (InMemory (Constant home.value)) h
  begins_object_clean d (init.Elements items) home h =
      then_clean (fills home (values_from items)) (λ done. stores_items here home items) (fills_clean home (values_from items)) (λ done. stores_items_clean home items h)

  declares_by_clean : (d : TDeclarator) (n : ℕ) → AreBytes (init_texts d.init) → IsClean (declares_by here d n)
  declares_by_clean d zero h = begins_register_clean d d.init h
  declares_by_clean d (suc n) h =
      then_clean (makes_object d.place Unset (suc n)) (begins_variable here d) (makes_object_clean d.place Unset (suc n))
      (λ home. then_clean (sets d.variable (Some home)) (λ done. begins_object here d d.init home) (sets_clean d.variable (Some home)) (λ done. begins_object_clean d d.init home h))

  declares_clean : (d : TDeclarator) → AreBytes (init_texts d.init) → IsClean (declares here d)
  unfolding declares
  declares_clean d h = declares_by_clean d (elements_of (slice_get vs d.variable)) h

  declares_all_clean : (ds : List TDeclarator) → AreBytes (declared_texts ds) → IsClean (declares_all here ds)
  declares_all_clean [] h = gives_clean {A = Unit {0}} tt
  declares_all_clean (d ∷ ds) h =
      then_clean (declares here d) (λ done. declares_all here ds) (declares_clean d (bytes_first (init_texts d.init) (declared_texts ds) h))
      (λ done. declares_all_clean ds (bytes_second (init_texts d.init) (declared_texts ds) h))

  starts_with_clean : (f : TFirst) → AreBytes (first_texts f) → IsClean (starts_with here f)
  starts_with_clean first.Nothing h = gives_clean {A = Unit {0}} tt
  starts_with_clean (first.Value e) h = drops_clean e h
  starts_with_clean (first.Declare list) h = declares_all_clean list h

  -- LOOPS OF THE SOURCE
  test_clean : (place : Place) (test : Option TExpr) → AreBytes (option_texts test) → IsClean (test_or_one here place test)
  test_clean place None h = tests_clean program place (Constant (value.Number (pos 1)))
  test_clean place (Some e) h = tests_at_clean place e h

  step_clean : (step : Option TExpr) → AreBytes (option_texts step) → IsClean (step_or_none here step)
  step_clean None h = gives_clean {A = Unit {0}} tt
  step_clean (Some e) h = drops_clean e h

  source_loop_clean : (spot : Spot) (number : ℕ) (test step : Option TExpr) (d : Doing) (tested : Bool) → AreBytes (option_texts test) → AreBytes (option_texts step) → CleanDoing d
      → IsClean (source_loop here spot number test step d tested)
  source_loop_clean spot number test step d tested h k c =
      loop_clean (loop_parts here spot.place number test step d) (loop_region function number) tested
      (record { test = test_clean spot.place test h; step = step_clean step k; body = region_clean (loop_region function number + 1) d.does c })

  while_clean : (spot : Spot) (number : ℕ) (test : TExpr) (d : Doing) → AreBytes (texts test) → CleanDoing d → CleanDoing (while_loop here spot number test d)
  unfolding while_loop
  while_clean spot number test d h c = source_loop_clean spot number (Some test) None d true h tt c

  do_clean : (spot : Spot) (number : ℕ) (d : Doing) (test : TExpr) → AreBytes (texts test) → CleanDoing d → CleanDoing (do_loop here spot number d test)
  unfolding do_loop
  do_clean spot number d test h c = source_loop_clean spot number (Some test) None d false h tt c

  for_clean : (spot : Spot) (number : ℕ) (start : TFirst) (test step : Option TExpr) (d : Doing) → AreBytes (first_texts start) → AreBytes (option_texts test)
      → AreBytes (option_texts step) → CleanDoing d → CleanDoing (for_loop here spot number start test step d)
  unfolding for_loop
  for_clean spot number start test step d f h k c =
      block_clean (starts_with here start >>= λ done. source_loop here spot number test step d true)
      (then_clean (starts_with here start) (λ done. source_loop here spot number test step d true) (starts_with_clean start f)
      (λ done. source_loop_clean spot number test step d true h k c))

  -- THE OTHERS
  expression_clean : (e : TExpr) → AreBytes (texts e) → CleanDoing (expression here e)
  unfolding expression
  expression_clean e h = goes_on_clean (drops here e) (drops_clean e h)

  empty_clean : CleanDoing empty
  unfolding empty
  empty_clean = gives_clean Normal

  compound_clean : (parts : List Doing) → AllClean parts → CleanDoing (compound parts)
  unfolding compound
  compound_clean parts h = block_clean (in_order parts) (in_order_clean parts h)

  if_clean : (spot : Spot) (test : TExpr) (a : Doing) (b : Option Doing) → AreBytes (texts test) → CleanDoing a → IsClean (does_or_none b) → CleanDoing (if_else here spot test a b)
  unfolding if_else
  if_clean spot test a b h one two =
      settled_clean (is_left (if_jumps a b)) (tests_at here spot.place test >>= chosen_arm a.does (does_or_none b))
      (then_clean (tests_at here spot.place test) (chosen_arm a.does (does_or_none b)) (tests_at_clean spot.place test h) (λ t. by (holds t)))
    where
      by : (chosen : Bool) → IsClean (if chosen then a.does else does_or_none b)
      by true = one
      by false = two

  switch_clean : (kind : Kind) (on : TExpr) (parts : List PartDoing) → AreBytes (texts on) → PartsClean parts → CleanDoing (switch here kind on parts)
  unfolding switch
  switch_clean kind on parts h k =
      settled_clean (is_left (switch_jumps parts)) ((means here on).value (has_case parts) >>= switches program kind parts)
      (then_clean ((means here on).value (has_case parts)) (switches program kind parts) ((means_clean on h).value (has_case parts)) (λ a. switches_clean program kind parts a k))

  break_clean : CleanDoing break
  unfolding break
  break_clean = gives_clean Broke

  continue_clean : CleanDoing continue
  unfolding continue
  continue_clean = gives_clean Continued

  returned_clean : (place : Place) (e : Option TExpr) → AreBytes (option_texts e) → IsClean (returns_value here place e)
  returned_clean place None h = gives_clean (Returned None)
  returned_clean place (Some e) h =
      then_clean ((means here e).value true) (returns_moved program place) ((means_clean e h).value true)
      (λ a. then_clean _ _ (makes_clean program class.Move place act.Move (a ∷ []) tt) (λ held. gives_clean (Returned (Some held))))

  return_clean : (spot : Spot) (e : Option TExpr) → AreBytes (option_texts e) → CleanDoing (return here spot e)
  unfolding return
  return_clean spot e h = returned_clean spot.place e h

  declaration_clean : (list : List TDeclarator) → AreBytes (declared_texts list) → CleanDoing (declaration here list)
  unfolding declaration
  declaration_clean list h = goes_on_clean (declares_all here list) (declares_all_clean list h)

  -- A STATEMENT
  abbrev part_does : TPart → PartDoing
  part_does = fold-TPart PartDoing Doing part_step (does_step here)

  abbrev OfPart : TPart → Type 0
  OfPart p = AreBytes (part_texts p) → CleanPart (part_does p)

  abbrev OfStmt : TStmt → Type 0
  OfStmt s = AreBytes (stmt_texts s) → CleanDoing (does here s)

  abbrev Stmts : Type 0
  Stmts = List ((s : TStmt) × OfStmt s)

  abbrev Parts : Type 0
  Parts = List ((p : TPart) × OfPart p)

  all_do : (items : Stmts) → AreBytes (concat (map stmt_texts (map (λ (x : (s : TStmt) × OfStmt s). x.0) items))) → AllClean (map (does here) (map (λ (x : (s : TStmt) × OfStmt s). x.0) items))
  all_do [] h = tt
  all_do (x ∷ items) h =
      let rest : List ℕ = concat (map stmt_texts (map (λ (x : (s : TStmt) × OfStmt s). x.0) items)) in
      (x.1 (bytes_first (stmt_texts x.0) rest h), all_do items (bytes_second (stmt_texts x.0) rest h))

  parts_do : (items : Parts) → AreBytes (concat (map part_texts (map (λ (x : (p : TPart) × OfPart p). x.0) items))) → PartsClean (map part_does (map (λ (x : (p : TPart) × OfPart p). x.0) items))
  parts_do [] h = tt
  parts_do (x ∷ items) h =
      let rest : List ℕ = concat (map part_texts (map (λ (x : (p : TPart) × OfPart p). x.0) items)) in
      (x.1 (bytes_first (part_texts x.0) rest h), parts_do items (bytes_second (part_texts x.0) rest h))

  -- the same of the layers of a tree
  abbrev PartLayer : TPart-F TPart TStmt → Type 0
  PartLayer z =
      AreBytes (texts_of.part_step (map-TPart TPart TStmt (List ℕ) (List ℕ) part_texts stmt_texts z)) → CleanPart (part_step (map-TPart TPart TStmt PartDoing Doing part_does (does here) z))

  abbrev StmtLayer : TStmt-F TPart TStmt → Type 0
  StmtLayer z =
      AreBytes (stmt_step (map-TStmt TPart TStmt (List ℕ) (List ℕ) part_texts stmt_texts z)) → CleanDoing (does_step here (map-TStmt TPart TStmt PartDoing Doing part_does (does here) z))

  part_by : (y : TPart-F ((p : TPart) × OfPart p) ((s : TStmt) × OfStmt s)) → PartLayer (map-TPart _ _ TPart TStmt (λ (x : (p : TPart) × OfPart p). x.0) (λ (x : (s : TStmt) × OfStmt s). x.0) y)
  part_by (TPart-F.Case place z) h = tt
  part_by (TPart-F.Default place) h = tt
  part_by (TPart-F.Does place s) h = s.1 h

  stmt_by : (y : TStmt-F ((p : TPart) × OfPart p) ((s : TStmt) × OfStmt s)) → StmtLayer (map-TStmt _ _ TPart TStmt (λ (x : (p : TPart) × OfPart p). x.0) (λ (x : (s : TStmt) × OfStmt s). x.0) y)
  stmt_by (TStmt-F.Expr spot e) h = expression_clean e h
  stmt_by (TStmt-F.Empty spot) h = empty_clean
  stmt_by (TStmt-F.Block spot parts) h = compound_clean (map (does here) (map (λ (x : (s : TStmt) × OfStmt s). x.0) parts)) (all_do parts h)
  stmt_by (TStmt-F.If spot test a None) h =
      if_clean spot test (does here a.0) None (bytes_first (texts test) (stmt_texts a.0 ++ []) h) (a.1 (bytes_first (stmt_texts a.0) [] (bytes_second (texts test) (stmt_texts a.0 ++ []) h)))
      (gives_clean Normal)
  stmt_by (TStmt-F.If spot test a (Some b)) h =
      let rest = bytes_second (texts test) (stmt_texts a.0 ++ stmt_texts b.0) h in
      if_clean spot test (does here a.0) (Some (does here b.0)) (bytes_first (texts test) (stmt_texts a.0 ++ stmt_texts b.0) h) (a.1 (bytes_first (stmt_texts a.0) (stmt_texts b.0) rest))
      (b.1 (bytes_second (stmt_texts a.0) (stmt_texts b.0) rest))
  stmt_by (TStmt-F.While spot number test a) h =
      while_clean spot number test (does here a.0) (bytes_first (texts test) (stmt_texts a.0) h) (a.1 (bytes_second (texts test) (stmt_texts a.0) h))
  stmt_by (TStmt-F.DoWhile spot number a test) h =
      do_clean spot number (does here a.0) test (bytes_first (texts test) (stmt_texts a.0) h) (a.1 (bytes_second (texts test) (stmt_texts a.0) h))
  stmt_by (TStmt-F.For spot number start test step a) h =
      let behind_start = bytes_second (first_texts start) (option_texts test ++ (option_texts step ++ stmt_texts a.0)) h in
      let behind_test = bytes_second (option_texts test) (option_texts step ++ stmt_texts a.0) behind_start in
      for_clean spot number start test step (does here a.0) (bytes_first (first_texts start) (option_texts test ++ (option_texts step ++ stmt_texts a.0)) h)
      (bytes_first (option_texts test) (option_texts step ++ stmt_texts a.0) behind_start) (bytes_first (option_texts step) (stmt_texts a.0) behind_test)
      (a.1 (bytes_second (option_texts step) (stmt_texts a.0) behind_test))
  stmt_by (TStmt-F.Switch spot kind on parts) h =
      let rest : List ℕ = concat (map part_texts (map (λ (x : (p : TPart) × OfPart p). x.0) parts)) in
      switch_clean kind on (map part_does (map (λ (x : (p : TPart) × OfPart p). x.0) parts)) (bytes_first (texts on) rest h) (parts_do parts (bytes_second (texts on) rest h))
  stmt_by (TStmt-F.Break spot) h = break_clean
  stmt_by (TStmt-F.Continue spot) h = continue_clean
  stmt_by (TStmt-F.Return spot e) h = return_clean spot e h
  stmt_by (TStmt-F.Declare spot list) h = declaration_clean list h

  does_clean : (s : TStmt) → AreBytes (stmt_texts s) → CleanDoing (does here s)
  does_clean =
      ind-TStmt OfPart OfStmt
      (λ x y is h. subst CleanPart (sym (fold-roll-TPart PartDoing Doing part_step (does_step here) x))
      (subst PartLayer is (part_by y) (subst AreBytes (fold-roll-TPart (List ℕ) (List ℕ) texts_of.part_step stmt_step x) h)))
      (λ x y is h. subst CleanDoing (sym (fold-roll-TStmt PartDoing Doing part_step (does_step here) x))
      (subst StmtLayer is (stmt_by y) (subst AreBytes (fold-roll-TStmt (List ℕ) (List ℕ) texts_of.part_step stmt_step x) h)))

  all_statements : (list : List TStmt) → AreBytes (concat (map stmt_texts list)) → AllClean (map (does here) list)
  all_statements [] h = tt
  all_statements (s ∷ list) h =
      (does_clean s (bytes_first (stmt_texts s) (concat (map stmt_texts list)) h), all_statements list (bytes_second (stmt_texts s) (concat (map stmt_texts list)) h))

-- CALLS
module _ (program : Program) where
  serves_by_clean : (place : Place) (n count : ℕ) → IsClean (serves_by program place n count)
  serves_by_clean place n zero = gives_clean {A = Unit {0}} tt
  serves_by_clean place n (suc count) =
      then_clean (makes_object place Unset (suc count)) _ (makes_object_clean place Unset (suc count))
      (λ home. then_clean _ _ (makes_clean program class.Store place act.Store (Constant home.value ∷ Register n false ∷ []) tt) (λ held. sets_clean n (Some home)))

  serves_clean : (n count : ℕ) (vs : List TVariable) → IsClean (serves program n count vs)
  serves_clean n zero vs = gives_clean {A = Unit {0}} tt
  serves_clean n (suc count) [] = gives_clean {A = Unit {0}} tt
  serves_clean n (suc count) (v ∷ vs) =
      then_clean (serves_by program v.place n v.elements) (λ done. serves program (n + 1) count vs) (serves_by_clean v.place n v.elements) (λ done. serves_clean (n + 1) count vs)

  falls_off_clean : (main : Bool) (close : Place) → IsClean (falls_off main close)
  falls_off_clean true close = gives_clean _
  falls_off_clean false close = traps_clean FallOff close

  at_end_clean : (number : ℕ) (close : Place) (of : TType) → IsClean (at_end program number close of)
  at_end_clean number close ttype.Void = gives_clean None
  at_end_clean number close (ttype.Number kind) = falls_off_clean (nat_eq number program.unit.main) close
  at_end_clean number close (ttype.Pointer target) = falls_off_clean (nat_eq number program.unit.main) close

  result_clean : (number : ℕ) (f : TFunc) (flow : Flow) → IsClean (result_of program number f flow)
  result_clean number f Normal = at_end_clean number f.close f.result
  result_clean number f Broke = at_end_clean number f.close f.result
  result_clean number f Continued = at_end_clean number f.close f.result
  result_clean number f (Returned v) = gives_clean v

  runs_clean : (inner : Calls) (number : ℕ) (f : TFunc) → CleanCalls inner → AreBytes (function_texts f) → IsClean (runs program inner number f)
  unfolding runs
  runs_clean inner number f c h =
      region_clean (function_region number f) (block (body program inner number f >>= result_of program number f))
      (block_clean (body program inner number f >>= result_of program number f)
      (then_clean (body program inner number f) (result_of program number f)
      (then_clean (serves program 0 f.params f.variables) (λ served. in_order (map (does (within program inner number f)) f.body)) (serves_clean 0 f.params f.variables)
      (λ served. in_order_clean (map (does (within program inner number f)) f.body) (all_statements program number f.variables inner c f.body h)))
      (result_clean number f)))

  back_clean : (s : State) (o : Outcome (Option Held)) → CleanOutcome o → CleanOutcome (back_to s o)
  back_clean s (Goes v t) h = h
  back_clean s (Stops end w) h = h

  enters_clean : (inner : Calls) (number : ℕ) (place : Place) (f : TFunc) (args : List (Option Held)) → CleanCalls inner → AreBytes (function_texts f)
      → IsClean (enters_function program inner number place f args)
  enters_clean inner number place f args c h = record { clean = λ s bytes. by s bytes (is_too_large s.world f.nodes) }
    where
      by : (s : State) → AreBytes s.world.output → (b : Bool) → CleanOutcome (if b then traps StackOverflow place s else back_to s (runs program inner number f (entered f args s)))
      by s bytes true = bytes
      by s bytes false = back_clean s (runs program inner number f (entered f args s)) ((runs_clean inner number f c h).clean (entered f args s) bytes)

  -- each function's texts are bytes
  abbrev AllTexts : List TFunc → Type 0
  AllTexts fs = AreBytes (concat (map function_texts fs))

  abbrev TextThere : Option TFunc → Type 0
  TextThere None = Unit {0}
  TextThere (Some f) = AreBytes (function_texts f)

  text_there : (fs : List TFunc) (n : ℕ) → AllTexts fs → TextThere (slice_get fs n)
  text_there [] n h = tt
  text_there (f ∷ fs) zero h = bytes_first (function_texts f) (concat (map function_texts fs)) h
  text_there (f ∷ fs) (suc n) h = text_there fs n (bytes_second (function_texts f) (concat (map function_texts fs)) h)

  enters_number_clean : (inner : Calls) (number : ℕ) (place : Place) (f : Option TFunc) (args : List (Option Held)) → CleanCalls inner → TextThere f
      → IsClean (enters_number program inner number place f args)
  enters_number_clean inner number place None args c h = gives_clean _
  enters_number_clean inner number place (Some f) args c h = enters_clean inner number place f args c h

  operation_clean : (place : Place) (args : List Operand) → IsClean (calls_operation program place args)
  operation_clean place args = record {
    clean = λ s bytes. (then_clean _ _ (makes_clean program class.Call place act.Call args tt) (λ done. gives_clean (map (λ a. (read s a).slot) args))).clean s bytes;
  }

  calls_clean : AllTexts program.unit.functions → (n : ℕ) → CleanCalls (calls n program)
  unfolding calls
  calls_clean h zero number place args = then_clean (calls_operation program place args) (λ given. traps StackOverflow place) (operation_clean place args) (λ given. traps_clean StackOverflow place)
  calls_clean h (suc n) number place args =
      then_clean (calls_operation program place args) (enters_number program (calls n program) number place (slice_get program.unit.functions number)) (operation_clean place args)
      (λ given. enters_number_clean (calls n program) number place (slice_get program.unit.functions number) given (calls_clean h n) (text_there program.unit.functions number h))

  -- A RUN
  objects_clean : (os : List TObject) → IsClean (starts_objects os)
  objects_clean [] = gives_clean {A = Unit {0}} tt
  objects_clean (o ∷ os) =
      then_clean (starts_object o) (λ done. starts_objects os)
      (then_clean (makes_object o.place Zero o.elements) (λ home. fills home o.first) (makes_object_clean o.place Zero o.elements) (λ home. fills_clean home o.first))
      (λ done. objects_clean os)

  strings_clean : (ts : List TString) → IsClean (starts_strings ts)
  strings_clean [] = gives_clean {A = Unit {0}} tt
  strings_clean (t ∷ ts) = then_clean (makes_string t.place t.bytes) (λ home. starts_strings ts) (makes_string_clean t.place t.bytes) (λ home. strings_clean ts)

  main_clean : AllTexts program.unit.functions → (f : Option TFunc) → TextThere f → IsClean (runs_main program f)
  main_clean h None k = record { clean = λ s bytes. bytes }
  main_clean h (Some f) k = record { clean = λ s bytes. (runs_clean (calls (call_limit - 1) program) program.unit.main f (calls_clean h (call_limit - 1)) k).clean (entered f [] s) bytes }

  whole_clean : AllTexts program.unit.functions → IsClean (whole program)
  unfolding whole
  whole_clean h =
      then_clean (starts_objects program.unit.objects) (λ objects. starts_strings program.unit.strings >>= λ strings. runs_main program (slice_get program.unit.functions program.unit.main))
      (objects_clean program.unit.objects)
      (λ objects. then_clean (starts_strings program.unit.strings) (λ strings. runs_main program (slice_get program.unit.functions program.unit.main)) (strings_clean program.unit.strings)
      (λ strings. main_clean h (slice_get program.unit.functions program.unit.main) (text_there program.unit.functions program.unit.main h)))

ended_bytes : (o : Outcome (Option Held)) → CleanOutcome o → AreBytes (ended o).output
ended_bytes (Goes v s) h = h
ended_bytes (Stops end w) h = h

pub written_bytes : RunsWriteBytes
unfolding run source_texts
written_bytes program input budget h = ended_bytes (whole program (initial input budget)) ((whole_clean program h).clean (initial input budget) tt)
