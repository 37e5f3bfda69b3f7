-- Expressions keep the control source, and statements end as their text: all constructs, and calls.
use Rattle.std.proofs.Common.{ℕ, zero, suc, ◌+◌, pos, List, [], ◌∷◌, map, Option, Some, None, Bool, true, false, nat_eq, if◌then◌else◌, ◌≡◌, refl, sym, ap, subst, slice_get}
use Rattle.k_num.specs.declared.place.Place.{Place}
use Rattle.k_num.specs.declared.numbers.Kind.{Kind}
use Rattle.k_optab.specs.declared.class.Class.TheVariants as class
use Rattle.k_ending.specs.declared.ending.Trap.TheVariants.{StackOverflow, FallOff}
use Rattle.k_types_meaning.specs.declared.types.TType.{TType}
use Rattle.k_types_meaning.specs.declared.types.TType.TheVariants as ttype
use Rattle.k_types_meaning.specs.declared.tree.declaration.TDeclarator.{TDeclarator}
use Rattle.k_types_meaning.specs.declared.tree.declaration.TInit.{TInit}
use Rattle.k_types_meaning.specs.declared.tree.declaration.TInit.TheVariants as init
use Rattle.k_types_meaning.specs.declared.tree.declaration.TItem.{TItem}
use Rattle.k_types_meaning.specs.declared.tree.declaration.TItem.TheVariants as item
use Rattle.k_types_meaning.specs.declared.tree.expression.TExpr.{TExpr}
use Rattle.k_types_meaning.specs.declared.tree.statement.Spot.{Spot}
use Rattle.k_types_meaning.specs.declared.tree.statement.TFirst.{TFirst}
use Rattle.k_types_meaning.specs.declared.tree.statement.TFirst.TheVariants as first
use Rattle.k_types_meaning.specs.declared.tree.statement.TPart.{TPart, fold-TPart, fold-roll-TPart, map-TPart}
use Rattle.k_types_meaning.specs.declared.tree.statement.TPart.TheOpen.{TPart-F, TStmt-F}
use Rattle.k_types_meaning.specs.declared.tree.statement.TStmt.{TStmt, fold-roll-TStmt, ind-TStmt, map-TStmt}
use Rattle.k_types_meaning.specs.declared.tree.unit.TFunc.{TFunc}
use Rattle.k_types_meaning.specs.declared.tree.unit.TVariable.{TVariable}
use Rattle.k_mem.specs.declared.start.Start.TheVariants.{Unset}
use Rattle.k_world.specs.declared.act.Act.TheVariants as act
use Rattle.k_world.specs.declared.value.Held.{Held}
use Rattle.k_world.specs.declared.value.Value.TheVariants as value
use Rattle.k_evaluation.specs.declared.operand.Operand.{Operand}
use Rattle.k_evaluation.specs.declared.operand.Operand.TheVariants.{Constant, Register}
use Rattle.k_evaluation.specs.declared.operand.Target.{Target}
use Rattle.k_evaluation.specs.declared.operand.Target.TheVariants.{InRegister, InMemory}
use Rattle.k_evaluation.specs.declared.flow.Flow.{Flow}
use Rattle.k_evaluation.specs.declared.flow.Flow.TheVariants.{Normal, Broke, Continued, Returned}
use Rattle.k_evaluation.specs.States.{Program, State, Outcome, Goes, Stops, Part, ◌>>=◌, gives, traps, read, sets}
use Rattle.k_evaluation.specs.Objects.{makes_object, fills, block}
use Rattle.k_marks_meaning.specs.Jumps.{is_left}
use Rattle.k_evaluation.specs.Meanings.{tests, holds}
use Rattle.k_evaluation.specs.Assignments.{writes}
use Rattle.k_evaluation.specs.Expressions.{Calls, eval}
use Rattle.k_evaluation.specs.Flows.{Doing, Within, means, drops, tests_at, in_order}
use Rattle.k_evaluation.specs.Loops.{loop_region, test_or_one, step_or_none, loop_parts, source_loop, while_loop, do_loop}
use Rattle.k_evaluation.specs.Declarations.{stores, initialises, begins_register, values_from, element_of, stores_item, stores_items, begins_object, begins_variable, declares_by, elements_of, declares, declares_all, starts_with}
use Rattle.k_evaluation.specs.Switches.{PartDoing, ACase, ADefault, AStatement, statements_of, has_case, switches, switch_jumps, switch}
use Rattle.k_evaluation.specs.Statements.{expression, empty, compound, does_or_none, chosen_arm, if_jumps, if_else, for_loop, break, continue, returns_moved, returns_value, return, declaration, does_step, part_step, does}
use Rattle.k_evaluation.specs.Calls.{serves_by, serves, falls_off, at_end, result_of, function_region, within, body, runs, is_too_large, entered, back_to, enters_function, enters_number, calls_operation, calls}
use Rattle.k_marks_meaning.specs.declared.jumps.Jumps.{Jumps}
use Rattle.k_marks_meaning.specs.Jumps.{no_jumps, a_break, a_continue, a_return, out_of_loop}
use Rattle.k_evaluation.specs.Flows.{jumps_of_all}
use Rattle.k_evaluation.specs.Objects.{live, keeps}
use Rattle.k_evaluation.specs.Statements.{jumps_or_none}
use Rattle.k_evaluation_control.specs.Laws.{IsTidy, Allows, ExpressionsKeepControl, StatementsEndAsTheirText}
use Rattle.k_evaluation_control.proofs.Kept.{Does, Keeps, Leaves, then_does, then_keeps, tidies, gives_does, gives_keeps, traps_keeps, sets_keeps, makes_object_keeps, fills_keeps, live_keeps, keeps_keeps, region_does, makes_keeps, computes_keeps}
use Rattle.k_evaluation_control.proofs.Rows.{MeaningKeeps, CallsKeep, writes_keeps, eval_keeps}
use Rattle.k_evaluation_control.proofs.Ends.{Ends, EndsAs, DoingEnds, AllEnd, PartsOwn, allows_left, allows_right, ends_more, keeps_then, tidies_then, gives_ends, goes_on_ends, in_order_ends, block_ends, region_ends, settled_ends, loop_ends, switches_ends, parts_end}

module _ (program : Program) (function : ℕ) (vs : List TVariable) (calls : Calls) (calls_keep : CallsKeep calls) where
  abbrev here : Within
  here = record { program = program; function = function; vars = vs; calls = calls }

  pub means_keeps : (e : TExpr) → MeaningKeeps (means here e)
  means_keeps e = eval_keeps program vs calls calls_keep e

  pub drops_keeps : (e : TExpr) → Keeps (drops here e)
  drops_keeps e = then_keeps ((means here e).value false) (λ a. gives {A = Unit {0}} tt) ((means_keeps e).value false) (λ a. gives_keeps {A = Unit {0}} tt)

  -- DECLARATIONS
  initialises_keeps : (d : TDeclarator) (e : TExpr) (target : Target) → Keeps (initialises here d e target)
  initialises_keeps d e target =
      then_keeps ((means here e).value true) (λ a. writes program d.place target a >>= λ v. gives {A = Unit {0}} tt) ((means_keeps e).value true)
      (λ a. then_keeps (writes program d.place target a) (λ v. gives {A = Unit {0}} tt) (writes_keeps program d.place target a) (λ v. gives_keeps {A = Unit {0}} tt))

  begins_register_keeps : (d : TDeclarator) (i : TInit) → Keeps (begins_register here d i)
  begins_register_keeps d init.Nothing = sets_keeps d.variable None
  begins_register_keeps d (init.Value e) = initialises_keeps d e (InRegister d.variable false)
  begins_register_keeps d (init.Elements items) = gives_keeps {A = Unit {0}} tt

  stores_item_keeps : (home : Held) (i : TItem) → Keeps (stores_item here home i)
  stores_item_keeps home (item.Bytes n bytes) = gives_keeps {A = Unit {0}} tt
  stores_item_keeps home (item.Value place n e) =
      then_keeps ((means here e).value true) (stores program place (element_of home n)) ((means_keeps e).value true)
      (λ a. then_keeps _ _ (computes_keeps program class.Store place act.Store (element_of home n ∷ a ∷ [])) (λ v. gives_keeps {A = Unit {0}} tt))

  stores_items_keeps : (home : Held) (items : List TItem) → Keeps (stores_items here home items)
  stores_items_keeps home [] = gives_keeps {A = Unit {0}} tt
  stores_items_keeps home (i ∷ items) =
      then_keeps (stores_item here home i) (λ done. stores_items here home items) (stores_item_keeps home i) (λ done. stores_items_keeps home items)

  begins_object_keeps : (d : TDeclarator) (i : TInit) (home : Held) → Keeps (begins_object here d i home)
  begins_object_keeps d init.Nothing home = gives_keeps {A = Unit {0}} tt
  begins_object_keeps d (init.Value e) home = initialises_keeps d e (InMemory (Constant home.value))
  begins_object_keeps d (init.Elements items) home =
      then_keeps (fills home (values_from items)) (λ done. stores_items here home items) (fills_keeps home (values_from items)) (λ done. stores_items_keeps home items)

  declares_by_keeps : (d : TDeclarator) (n : ℕ) → Keeps (declares_by here d n)
  declares_by_keeps d zero = begins_register_keeps d d.init
  declares_by_keeps d (suc n) =
      then_keeps (makes_object d.place Unset (suc n)) (begins_variable here d) (makes_object_keeps d.place (suc n))
      (λ home. then_keeps (sets d.variable (Some home)) (λ done. begins_object here d d.init home) (sets_keeps d.variable (Some home)) (λ done. begins_object_keeps d d.init home))

  pub declares_keeps : (d : TDeclarator) → Keeps (declares here d)
  unfolding declares
  declares_keeps d = declares_by_keeps d (elements_of (slice_get vs d.variable))

  declares_all_keeps : (ds : List TDeclarator) → Keeps (declares_all here ds)
  declares_all_keeps [] = gives_keeps {A = Unit {0}} tt
  declares_all_keeps (d ∷ ds) = then_keeps (declares here d) (λ done. declares_all here ds) (declares_keeps d) (λ done. declares_all_keeps ds)

  pub starts_with_keeps : (f : TFirst) → Keeps (starts_with here f)
  starts_with_keeps first.Nothing = gives_keeps {A = Unit {0}} tt
  starts_with_keeps (first.Value e) = drops_keeps e
  starts_with_keeps (first.Declare list) = declares_all_keeps list

  -- STATEMENTS
  expression_ends : (e : TExpr) → DoingEnds (expression here e)
  unfolding expression
  expression_ends e = goes_on_ends (is_left no_jumps ≡ false) no_jumps (drops here e) (drops_keeps e)

  empty_ends : DoingEnds empty
  unfolding empty
  empty_ends = gives_ends (is_left no_jumps ≡ false) no_jumps Normal tt

  compound_ends : (parts : List Doing) → AllEnd parts → DoingEnds (compound parts)
  unfolding compound
  compound_ends parts h = block_ends (is_left (jumps_of_all parts) ≡ false) (jumps_of_all parts) (in_order parts) (in_order_ends parts h)

  tests_at_tidies : (place : Place) (e : TExpr) → Does false (tests_at here place e)
  tests_at_tidies place e =
      then_does false ((means here e).value true) (tests program place) (tidies ((means here e).value true) ((means_keeps e).value true)) (λ a. makes_keeps program class.Test place act.Test (a ∷ []))

  -- what may be left out
  abbrev pub OptionEnds : Option Doing → Type 0
  OptionEnds None = Unit {0}
  OptionEnds (Some d) = DoingEnds d

  arm_ends : (a : Doing) (b : Option Doing) → OptionEnds b → Ends ⊥ (if_jumps a b) (does_or_none b)
  arm_ends a None h = gives_ends ⊥ (if_jumps a None) Normal tt
  arm_ends a (Some b) h = ends_more (is_left b.jumps ≡ false) ⊥ b.jumps (if_jumps a (Some b)) b.does (λ q. absurd q) (allows_right a.jumps b.jumps) h

  -- the arms behind their test
  pub if_part_ends : (spot : Spot) (test : TExpr) (a : Doing) (b : Option Doing) → DoingEnds a → OptionEnds b
      → Ends ⊥ (if_jumps a b) (tests_at here spot.place test >>= chosen_arm a.does (does_or_none b))
  if_part_ends spot test a b one two =
      tidies_then (if_jumps a b) (tests_at here spot.place test) (chosen_arm a.does (does_or_none b)) (tests_at_tidies spot.place test) (λ t. by (holds t))
    where
      by : (chosen : Bool) → Ends ⊥ (if_jumps a b) (if chosen then a.does else does_or_none b)
      by true = ends_more (is_left a.jumps ≡ false) ⊥ a.jumps (if_jumps a b) a.does (λ q. absurd q) (allows_left a.jumps (jumps_or_none b)) one
      by false = arm_ends a b two

  if_ends : (spot : Spot) (test : TExpr) (a : Doing) (b : Option Doing) → DoingEnds a → OptionEnds b → DoingEnds (if_else here spot test a b)
  unfolding if_else
  if_ends spot test a b one two =
      settled_ends (is_left (if_jumps a b) ≡ false) (if_jumps a b) (is_left (if_jumps a b)) (tests_at here spot.place test >>= chosen_arm a.does (does_or_none b)) (λ q. q) (if_part_ends spot test a b one two)

  -- LOOPS OF THE SOURCE
  test_tidies : (place : Place) (test : Option TExpr) → Does false (test_or_one here place test)
  test_tidies place None = makes_keeps program class.Test place act.Test (Constant (value.Number (pos 1)) ∷ [])
  test_tidies place (Some e) = tests_at_tidies place e

  step_tidies : (step : Option TExpr) → Does false (step_or_none here step)
  step_tidies None = gives_does false tt
  step_tidies (Some e) = tidies (drops here e) (drops_keeps e)

  pub source_loop_ends : (spot : Spot) (number : ℕ) (test step : Option TExpr) (d : Doing) (tested : Bool) → DoingEnds d
      → Ends (is_left (out_of_loop d.jumps) ≡ false) (out_of_loop d.jumps) (source_loop here spot number test step d tested)
  source_loop_ends spot number test step d tested h =
      loop_ends (loop_parts here spot.place number test step d) (loop_region function number) tested (record {
        test = test_tidies spot.place test;
        step = step_tidies step;
        body = region_ends ⊥ d.jumps (loop_region function number + 1) d.does (ends_more (is_left d.jumps ≡ false) ⊥ d.jumps d.jumps d.does (λ q. absurd q) (λ flow allowed. allowed) h);
      })

  while_ends : (spot : Spot) (number : ℕ) (test : TExpr) (d : Doing) → DoingEnds d → DoingEnds (while_loop here spot number test d)
  unfolding while_loop
  while_ends spot number test d h = source_loop_ends spot number (Some test) None d true h

  do_ends : (spot : Spot) (number : ℕ) (d : Doing) (test : TExpr) → DoingEnds d → DoingEnds (do_loop here spot number d test)
  unfolding do_loop
  do_ends spot number d test h = source_loop_ends spot number (Some test) None d false h

  for_ends : (spot : Spot) (number : ℕ) (start : TFirst) (test step : Option TExpr) (d : Doing) → DoingEnds d → DoingEnds (for_loop here spot number start test step d)
  unfolding for_loop
  for_ends spot number start test step d h =
      block_ends (is_left (out_of_loop d.jumps) ≡ false) (out_of_loop d.jumps) (starts_with here start >>= λ done. source_loop here spot number test step d true)
      (keeps_then (is_left (out_of_loop d.jumps) ≡ false) (out_of_loop d.jumps) (starts_with here start) (λ done. source_loop here spot number test step d true) (starts_with_keeps start)
      (λ done. source_loop_ends spot number test step d true h))

  -- a switch, before the control source is settled
  pub switch_part_ends : (kind : Kind) (on : TExpr) (parts : List PartDoing) → PartsOwn parts → Ends ⊥ (switch_jumps parts) ((means here on).value (has_case parts) >>= switches program kind parts)
  switch_part_ends kind on parts h =
      tidies_then (switch_jumps parts) ((means here on).value (has_case parts)) (switches program kind parts)
      (tidies ((means here on).value (has_case parts)) ((means_keeps on).value (has_case parts)))
      (λ a. switches_ends (jumps_of_all (statements_of parts)) program kind parts a (parts_end (jumps_of_all (statements_of parts)) parts h (λ flow allowed. allowed)))

  switch_ends : (kind : Kind) (on : TExpr) (parts : List PartDoing) → PartsOwn parts → DoingEnds (switch here kind on parts)
  unfolding switch
  switch_ends kind on parts h =
      settled_ends (is_left (switch_jumps parts) ≡ false) (switch_jumps parts) (is_left (switch_jumps parts)) ((means here on).value (has_case parts) >>= switches program kind parts) (λ q. q)
      (switch_part_ends kind on parts h)

  break_ends : DoingEnds break
  unfolding break
  break_ends = gives_ends (is_left a_break ≡ false) a_break Broke refl

  continue_ends : DoingEnds continue
  unfolding continue
  continue_ends = gives_ends (is_left a_continue ≡ false) a_continue Continued refl

  returned_ends : (place : Place) (e : Option TExpr) → Ends (is_left a_return ≡ false) a_return (returns_value here place e)
  returned_ends place None = gives_ends (is_left a_return ≡ false) a_return (Returned None) refl
  returned_ends place (Some e) =
      keeps_then (is_left a_return ≡ false) a_return ((means here e).value true) (returns_moved program place) ((means_keeps e).value true)
      (λ a. keeps_then (is_left a_return ≡ false) a_return _ _ (makes_keeps program class.Move place act.Move (a ∷ []))
      (λ held. gives_ends (is_left a_return ≡ false) a_return (Returned (Some held)) refl))

  return_ends : (spot : Spot) (e : Option TExpr) → DoingEnds (return here spot e)
  unfolding return
  return_ends spot e = returned_ends spot.place e

  declaration_ends : (list : List TDeclarator) → DoingEnds (declaration here list)
  unfolding declaration
  declaration_ends list = goes_on_ends (is_left no_jumps ≡ false) no_jumps (declares_all here list) (declares_all_keeps list)

  -- A STATEMENT
  abbrev part_does : TPart → PartDoing
  part_does = fold-TPart PartDoing Doing part_step (does_step here)

  abbrev PartOwn : PartDoing → Type 0
  PartOwn (ACase place z) = Unit {0}
  PartOwn ADefault = Unit {0}
  PartOwn (AStatement s) = DoingEnds s

  abbrev OfPart : TPart → Type 0
  OfPart p = PartOwn (part_does p)

  abbrev OfStmt : TStmt → Type 0
  OfStmt s = DoingEnds (does here s)

  abbrev Stmts : Type 0
  Stmts = List ((s : TStmt) × OfStmt s)

  abbrev Parts : Type 0
  Parts = List ((p : TPart) × OfPart p)

  all_do : (items : Stmts) → AllEnd (map (does here) (map (λ (x : (s : TStmt) × OfStmt s). x.0) items))
  all_do [] = tt
  all_do (x ∷ items) = (x.1, all_do items)

  more_own : (p : PartDoing) (parts : List PartDoing) → PartOwn p → PartsOwn parts → PartsOwn (p ∷ parts)
  more_own (ACase place z) parts h k = k
  more_own ADefault parts h k = k
  more_own (AStatement s) parts h k = (h, k)

  parts_do : (items : Parts) → PartsOwn (map part_does (map (λ (x : (p : TPart) × OfPart p). x.0) items))
  parts_do [] = tt
  parts_do (x ∷ items) = more_own (part_does x.0) (map part_does (map (λ (x : (p : TPart) × OfPart p). x.0) items)) x.1 (parts_do items)

  -- the same of the layers of a tree
  abbrev PartLayer : TPart-F TPart TStmt → Type 0
  PartLayer z = PartOwn (part_step (map-TPart TPart TStmt PartDoing Doing part_does (does here) z))

  abbrev StmtLayer : TStmt-F TPart TStmt → Type 0
  StmtLayer z = DoingEnds (does_step here (map-TStmt TPart TStmt PartDoing Doing part_does (does here) z))

  part_by : (y : TPart-F ((p : TPart) × OfPart p) ((s : TStmt) × OfStmt s)) → PartLayer (map-TPart _ _ TPart TStmt (λ (x : (p : TPart) × OfPart p). x.0) (λ (x : (s : TStmt) × OfStmt s). x.0) y)
  part_by (TPart-F.Case place z) = tt
  part_by (TPart-F.Default place) = tt
  part_by (TPart-F.Does place s) = s.1

  stmt_by : (y : TStmt-F ((p : TPart) × OfPart p) ((s : TStmt) × OfStmt s)) → StmtLayer (map-TStmt _ _ TPart TStmt (λ (x : (p : TPart) × OfPart p). x.0) (λ (x : (s : TStmt) × OfStmt s). x.0) y)
  stmt_by (TStmt-F.Expr spot e) = expression_ends e
  stmt_by (TStmt-F.Empty spot) = empty_ends
  stmt_by (TStmt-F.Block spot parts) = compound_ends (map (does here) (map (λ (x : (s : TStmt) × OfStmt s). x.0) parts)) (all_do parts)
  stmt_by (TStmt-F.If spot test a None) = if_ends spot test (does here a.0) None a.1 tt
  stmt_by (TStmt-F.If spot test a (Some b)) = if_ends spot test (does here a.0) (Some (does here b.0)) a.1 b.1
  stmt_by (TStmt-F.While spot number test a) = while_ends spot number test (does here a.0) a.1
  stmt_by (TStmt-F.DoWhile spot number a test) = do_ends spot number (does here a.0) test a.1
  stmt_by (TStmt-F.For spot number start test step a) = for_ends spot number start test step (does here a.0) a.1
  stmt_by (TStmt-F.Switch spot kind on parts) = switch_ends kind on (map part_does (map (λ (x : (p : TPart) × OfPart p). x.0) parts)) (parts_do parts)
  stmt_by (TStmt-F.Break spot) = break_ends
  stmt_by (TStmt-F.Continue spot) = continue_ends
  stmt_by (TStmt-F.Return spot e) = return_ends spot e
  stmt_by (TStmt-F.Declare spot list) = declaration_ends list

  pub does_ends : (s : TStmt) → DoingEnds (does here s)
  does_ends =
      ind-TStmt OfPart OfStmt
      (λ x y is. subst PartOwn (sym (fold-roll-TPart PartDoing Doing part_step (does_step here) x)) (subst PartLayer is (part_by y)))
      (λ x y is. subst DoingEnds (sym (fold-roll-TStmt PartDoing Doing part_step (does_step here) x)) (subst StmtLayer is (stmt_by y)))

  pub all_statements_end : (list : List TStmt) → AllEnd (map (does here) list)
  all_statements_end [] = tt
  all_statements_end (s ∷ list) = (does_ends s, all_statements_end list)

-- CALLS
module _ (program : Program) where
  pub serves_by_keeps : (place : Place) (n count : ℕ) → Keeps (serves_by program place n count)
  serves_by_keeps place n zero = gives_keeps {A = Unit {0}} tt
  serves_by_keeps place n (suc count) =
      then_keeps (makes_object place Unset (suc count)) _ (makes_object_keeps place (suc count))
      (λ home. then_keeps _ _ (makes_keeps program class.Store place act.Store (Constant home.value ∷ Register n false ∷ [])) (λ held. sets_keeps n (Some home)))

  pub serves_keeps : (n count : ℕ) (vs : List TVariable) → Keeps (serves program n count vs)
  serves_keeps n zero vs = gives_keeps {A = Unit {0}} tt
  serves_keeps n (suc count) [] = gives_keeps {A = Unit {0}} tt
  serves_keeps n (suc count) (v ∷ vs) =
      then_keeps (serves_by program v.place n v.elements) (λ done. serves program (n + 1) count vs) (serves_by_keeps v.place n v.elements) (λ done. serves_keeps (n + 1) count vs)

  falls_off_keeps : (main : Bool) (close : Place) → Keeps (falls_off main close)
  falls_off_keeps true close = gives_keeps _
  falls_off_keeps false close = traps_keeps FallOff close

  at_end_keeps : (number : ℕ) (close : Place) (of : TType) → Keeps (at_end program number close of)
  at_end_keeps number close ttype.Void = gives_keeps None
  at_end_keeps number close (ttype.Number kind) = falls_off_keeps (nat_eq number program.unit.main) close
  at_end_keeps number close (ttype.Pointer target) = falls_off_keeps (nat_eq number program.unit.main) close

  result_keeps : (number : ℕ) (f : TFunc) (flow : Flow) → Keeps (result_of program number f flow)
  result_keeps number f Normal = at_end_keeps number f.close f.result
  result_keeps number f Broke = at_end_keeps number f.close f.result
  result_keeps number f Continued = at_end_keeps number f.close f.result
  result_keeps number f (Returned v) = gives_keeps v

  -- a part that ends so leaves a tidy world
  ended_tidies : (j : Jumps) (part : Part Flow) → Ends ⊥ j part → Does false part
  ended_tidies j part h = record { leaves = λ n s tidy. by n s.world.control (part s) (h.ends n s tidy) }
    where
      by : (n : ℕ) (before : Option ℕ) (o : Outcome Flow) → EndsAs n ⊥ j before o → Leaves n false before o
      by n before (Goes flow t) h = (h.0, tt)
      by n before (Stops end w) h = tt

  block_tidies : {A : Type 0} (part : Part A) → Does false part → Does false (block part)
  block_tidies part h =
      then_does false live (λ count. part >>= λ a. keeps count >>= λ kept. gives a) (tidies live live_keeps)
      (λ count. then_does false part (λ a. keeps count >>= λ kept. gives a) h
      (λ a. then_does false (keeps count) (λ kept. gives a) (tidies (keeps count) (keeps_keeps count)) (λ kept. gives_does false a)))

  body_tidies : (inner : Calls) (number : ℕ) (f : TFunc) → CallsKeep inner → Does false (body program inner number f)
  body_tidies inner number f c =
      let all = map (does (within program inner number f)) f.body in
      then_does false (serves program 0 f.params f.variables) (λ served. in_order all) (tidies _ (serves_keeps 0 f.params f.variables))
      (λ served. ended_tidies (jumps_of_all all) (in_order all) (ends_more (is_left (jumps_of_all all) ≡ false) ⊥ (jumps_of_all all) (jumps_of_all all) (in_order all) (λ q. absurd q) (λ flow allowed. allowed)
      (in_order_ends all (all_statements_end program number f.variables inner c f.body))))

  pub runs_tidies : (inner : Calls) (number : ℕ) (f : TFunc) → CallsKeep inner → Does false (runs program inner number f)
  unfolding runs
  runs_tidies inner number f c =
      region_does false (function_region number f) (block (body program inner number f >>= result_of program number f))
      (block_tidies (body program inner number f >>= result_of program number f)
      (then_does false (body program inner number f) (result_of program number f) (body_tidies inner number f c) (λ flow. tidies (result_of program number f flow) (result_keeps number f flow))))

  back_leaves : (n m : ℕ) (s : State) (o : Outcome (Option Held)) → s.world.calls ≡ n → Leaves m false s.world.control o → Leaves n true s.world.control (back_to s o)
  back_leaves n m s (Goes v t) calls h = (record { laid = h.0.laid; origins = h.0.origins; calls = calls }, refl)
  back_leaves n m s (Stops end w) calls h = tt

  enters_keeps_control : (inner : Calls) (number : ℕ) (place : Place) (f : TFunc) (args : List (Option Held)) → CallsKeep inner → Keeps (enters_function program inner number place f args)
  enters_keeps_control inner number place f args c = record { leaves = λ n s tidy. by n s tidy (is_too_large s.world f.nodes) }
    where
      by : (n : ℕ) (s : State) → IsTidy n s.world → (b : Bool) → Leaves n true s.world.control (if b then traps StackOverflow place s else back_to s (runs program inner number f (entered f args s)))
      by n s tidy true = tt
      by n s tidy false = back_leaves n (n + 1) s (runs program inner number f (entered f args s)) tidy.calls
          ((runs_tidies inner number f c).leaves (n + 1) (entered f args s) (record { laid = tidy.laid; origins = tidy.origins; calls = ap (λ k. k + 1) tidy.calls }))

  enters_number_keeps : (inner : Calls) (number : ℕ) (place : Place) (f : Option TFunc) (args : List (Option Held)) → CallsKeep inner → Keeps (enters_number program inner number place f args)
  enters_number_keeps inner number place None args c = gives_keeps _
  enters_number_keeps inner number place (Some f) args c = enters_keeps_control inner number place f args c

  operation_keeps : (place : Place) (args : List Operand) → Keeps (calls_operation program place args)
  operation_keeps place args = record {
    leaves = λ n s tidy. (then_keeps _ _ (makes_keeps program class.Call place act.Call args) (λ done. gives_keeps (map (λ a. (read s a).slot) args))).leaves n s tidy;
  }

  pub calls_keep : (n : ℕ) → CallsKeep (calls n program)
  unfolding calls
  calls_keep zero number place args =
      then_keeps (calls_operation program place args) (λ given. traps StackOverflow place) (operation_keeps place args) (λ given. traps_keeps StackOverflow place)
  calls_keep (suc n) number place args =
      then_keeps (calls_operation program place args) (enters_number program (calls n program) number place (slice_get program.unit.functions number)) (operation_keeps place args)
      (λ given. enters_number_keeps (calls n program) number place (slice_get program.unit.functions number) given (calls_keep n))

-- THE LAWS
value_at_goes : (n : ℕ) (before : Option ℕ) (o : Outcome Operand) (t : State) (a : Operand) → o ≡ Goes a t → Leaves n true before o → t.world.control ≡ before
value_at_goes n before o t a is h = (subst (Leaves n true before) is h).1

pub expressions_keep_control : ExpressionsKeepControl
expressions_keep_control program vs deep live e used s t a tidy is =
    value_at_goes live s.world.control ((eval program vs (calls deep program) e).value used s) t a is
    (((eval_keeps program vs (calls deep program) (calls_keep program deep) e).value used).leaves live s tidy)

ends_at : (n : ℕ) (Q : Type 0) (j : Jumps) (before : Option ℕ) (o : Outcome Flow) (t : State) (flow : Flow) → o ≡ Goes flow t → EndsAs n Q j before o → Allows j flow × (Q → t.world.control ≡ before)
ends_at n Q j before o t flow is h = let so = subst (EndsAs n Q j before) is h in (so.1, so.2)

pub statements_end_as_their_text : StatementsEndAsTheirText
statements_end_as_their_text w deep live st s t flow calls_are tidy is =
    ends_at live (is_left (does w st).jumps ≡ false) (does w st).jumps s.world.control ((does w st).does s) t flow is
    ((does_ends w.program w.function w.vars w.calls (subst CallsKeep (sym calls_are) (calls_keep w.program deep)) st).ends live s tidy)
