-- Statements are lawful, where calls are.
use Rattle.std.proofs.Common.{ℕ, zero, suc, ◌+◌, ◌≤◌, ℤ, pos, List, [], ◌∷◌, ◌++◌, Option, Some, None, Bool, true, false, if◌then◌else◌, arith, slice_get}
use Rattle.k_num.specs.declared.place.Place.{Place}
use Rattle.k_num.specs.declared.numbers.Kind.{Kind}
use Rattle.k_num.specs.declared.numbers.Bin.TheVariants as bin
use Rattle.k_optab.specs.declared.class.Class.TheVariants as class
use Rattle.k_types_meaning.specs.declared.tree.declaration.TDeclarator.{TDeclarator}
use Rattle.k_types_meaning.specs.declared.tree.declaration.TInit.{TInit}
use Rattle.k_types_meaning.specs.declared.tree.declaration.TInit.TheVariants as init
use Rattle.k_types_meaning.specs.declared.tree.declaration.TItem.{TItem}
use Rattle.k_types_meaning.specs.declared.tree.declaration.TItem.TheVariants as item
use Rattle.k_types_meaning.specs.declared.tree.expression.TExpr.{TExpr}
use Rattle.k_types_meaning.specs.declared.tree.statement.Spot.{Spot}
use Rattle.k_types_meaning.specs.declared.tree.statement.TFirst.{TFirst}
use Rattle.k_types_meaning.specs.declared.tree.statement.TFirst.TheVariants as first
use Rattle.k_types_meaning.specs.declared.tree.unit.TVariable.{TVariable}
use Rattle.k_marks_meaning.specs.Jumps.{is_left}
use Rattle.k_mem.specs.declared.start.Start.TheVariants.{Unset}
use Rattle.k_world.specs.declared.act.Act.TheVariants as act
use Rattle.k_world.specs.declared.value.Held.{Held}
use Rattle.k_world.specs.declared.value.Value.TheVariants as value
use Rattle.k_evaluation.specs.declared.operand.Operand.{Operand}
use Rattle.k_evaluation.specs.declared.operand.Operand.TheVariants.{Constant, Holding}
use Rattle.k_evaluation.specs.declared.operand.Target.{Target}
use Rattle.k_evaluation.specs.declared.operand.Target.TheVariants.{InRegister, InMemory}
use Rattle.k_evaluation.specs.declared.flow.Flow.{Flow}
use Rattle.k_evaluation.specs.declared.flow.Flow.TheVariants.{Normal, Broke, Continued, Returned}
use Rattle.k_evaluation.specs.States.{Part, ◌>>=◌, gives, makes, computes, sets}
use Rattle.k_evaluation.specs.Objects.{makes_object, fills}
use Rattle.k_evaluation.specs.Meanings.{tests, holds}
use Rattle.k_evaluation.specs.Assignments.{writes}
use Rattle.k_evaluation.specs.Expressions.{Calls}
use Rattle.k_evaluation.specs.Flows.{Doing, Within, means, drops, tests_at, goes_on, unless_left, in_order}
use Rattle.k_evaluation.specs.Loops.{loop_region, test_or_one, step_or_none, loop_parts, source_loop, while_loop, do_loop}
use Rattle.k_evaluation.specs.Declarations.{initialises, begins_register, values_from, element_of, stores, stores_item, stores_items, begins_object, begins_variable, declares_by, elements_of, declares, declares_all, starts_with}
use Rattle.k_evaluation.specs.Switches.{PartDoing, ACase, ADefault, AStatement, statements_of, behind_default, has_case, selects, chooses, behind_switch, runs_chosen, switches, switch_jumps, switch}
use Rattle.k_evaluation.specs.Statements.{expression, empty, compound, does_or_none, chosen_arm, if_jumps, if_else, for_loop, break, continue, returns_moved, returns_value, return, declaration}
use Rattle.k_evaluation.proofs.Kept.{Setting, OperandsCome, operands_later, Lawful, bind}
use Rattle.k_evaluation.proofs.Parts.{Brings, of_operand, of_held, of_none, Counted, binds, anywhere, before_both, gives_lawful, sets_lawful, settled_lawful, makes_lawful, makes_counted, computes_lawful, makes_object_lawful, fills_lawful, block_lawful, region_lawful}
use Rattle.k_evaluation.proofs.Rows.{of_target, LawfulMeaning, LawfulCalls, tests_lawful, writes_lawful}
use Rattle.k_evaluation.proofs.Evaluated.{eval_lawful}
use Rattle.k_evaluation.proofs.Loops.{of_flow, LawfulLoop, loop_lawful}

-- a statement is lawful
abbrev pub LawfulDoing : Setting → Doing → Type 0
LawfulDoing g s = Brings g [] of_flow s.does

-- so are several
abbrev pub AllLawful : Setting → List Doing → Type 0
AllLawful g [] = Unit {0}
AllLawful g (s ∷ ss) = LawfulDoing g s × AllLawful g ss

-- a part of a switch is
abbrev pub LawfulPart : Setting → PartDoing → Type 0
LawfulPart g (ACase place z) = Unit {0}
LawfulPart g ADefault = Unit {0}
LawfulPart g (AStatement s) = LawfulDoing g s

-- so are several
abbrev pub PartsLawful : Setting → List PartDoing → Type 0
PartsLawful g [] = Unit {0}
PartsLawful g (p ∷ ps) = LawfulPart g p × PartsLawful g ps

-- a statement that may be left out is
abbrev pub LawfulIfThere : Setting → Option Doing → Type 0
LawfulIfThere g None = Unit {0}
LawfulIfThere g (Some s) = LawfulDoing g s

gives_done : (g : Setting) (waiting : List Operand) → Brings g waiting of_none (gives {A = Unit {0}} tt)
gives_done g waiting = gives_lawful {A = Unit {0}} g waiting of_none tt (λ made w. tt)

gives_flow : (g : Setting) (flow : Flow) → Brings g (of_flow flow ++ []) of_flow (gives flow)
gives_flow g flow = gives_lawful g (of_flow flow ++ []) of_flow flow (λ made w. before_both made (of_flow flow) [] w)

unless_left_lawful : (g : Setting) (next : Part Flow) → Brings g [] of_flow next → (flow : Flow) → Brings g (of_flow flow ++ []) of_flow (unless_left next flow)
unless_left_lawful g next lawful Normal = lawful
unless_left_lawful g next lawful Broke = gives_flow g Broke
unless_left_lawful g next lawful Continued = gives_flow g Continued
unless_left_lawful g next lawful (Returned v) = gives_flow g (Returned v)

-- statements in their order
pub in_order_lawful : (g : Setting) (ss : List Doing) → AllLawful g ss → Brings g [] of_flow (in_order ss)
in_order_lawful g [] lawful = gives_flow g Normal
in_order_lawful g (s ∷ ss) lawful =
    binds g [] of_flow of_flow s.does (unless_left (in_order ss)) lawful.0 (unless_left_lawful g (in_order ss) (in_order_lawful g ss lawful.1))

-- SWITCHES
statements_lawful : (g : Setting) (parts : List PartDoing) → PartsLawful g parts → AllLawful g (statements_of parts)
statements_lawful g [] lawful = tt
statements_lawful g (ACase place z ∷ parts) lawful = statements_lawful g parts lawful.1
statements_lawful g (ADefault ∷ parts) lawful = statements_lawful g parts lawful.1
statements_lawful g (AStatement s ∷ parts) lawful = (lawful.0, statements_lawful g parts lawful.1)

default_lawful : (g : Setting) (parts : List PartDoing) → PartsLawful g parts → AllLawful g (behind_default parts)
default_lawful g [] lawful = tt
default_lawful g (ACase place z ∷ parts) lawful = default_lawful g parts lawful.1
default_lawful g (ADefault ∷ parts) lawful = statements_lawful g parts lawful.1
default_lawful g (AStatement s ∷ parts) lawful = default_lawful g parts lawful.1

-- what is chosen is lawful
abbrev Chosen : Setting → ℕ → List Doing → Type 0
Chosen g made chosen = AllLawful g chosen

selects_lawful : (g : Setting) (kind : Kind) (place : Place) (z : ℤ) (on : Operand) → Brings g (on ∷ []) of_held (selects g.program kind place z on)
selects_lawful g kind place z on =
    binds g (on ∷ []) of_operand of_held (computes g.program class.Simple place (act.Binary bin.Eq kind) (on ∷ Constant (value.Number z) ∷ []))
    (λ same. makes g.program class.Select place act.Test (same ∷ []))
    (computes_lawful g class.Simple place (act.Binary bin.Eq kind) (on ∷ Constant (value.Number z) ∷ []) (on ∷ []) (λ made w. (w.0, (tt, tt))))
    (λ same. makes_lawful g class.Select place act.Test (same ∷ []) (same ∷ on ∷ []) (λ made w. (w.0, tt)))

gives_chosen : (g : Setting) (W : ℕ → Type 0) (chosen : List Doing) → AllLawful g chosen → Lawful g W (Chosen g) (gives chosen)
gives_chosen g W chosen lawful budget s good w =
    let kept = gives_lawful g [] of_none chosen (λ made w. tt) budget s good tt in ((kept.0.0, lawful, kept.0.2), kept.1)

chosen_by : (g : Setting) (kind : Kind) (on : Operand) (default : List Doing) (parts : List PartDoing) (select : Held) (b : Bool) → AllLawful g (statements_of parts)
    → Lawful g (λ made. OperandsCome made (on ∷ [])) (Chosen g) (chooses g.program kind on default parts)
    → Lawful g (λ made. OperandsCome made (on ∷ []) × OperandsCome made (of_held select)) (Chosen g) (if b then gives (statements_of parts) else chooses g.program kind on default parts)
chosen_by g kind on default parts select true statements others budget s good w =
    gives_chosen g (λ made. OperandsCome made (on ∷ []) × OperandsCome made (of_held select)) (statements_of parts) statements budget s good w
chosen_by g kind on default parts select false statements others budget s good w = others budget s good w.0

chooses_lawful : (g : Setting) (kind : Kind) (on : Operand) (default : List Doing) (parts : List PartDoing) → AllLawful g default → PartsLawful g parts
    → Lawful g (λ made. OperandsCome made (on ∷ [])) (Chosen g) (chooses g.program kind on default parts)
chooses_lawful g kind on default [] one lawful = gives_chosen g (λ made. OperandsCome made (on ∷ [])) default one
chooses_lawful g kind on default (ACase place z ∷ parts) one lawful =
    bind g (λ made. OperandsCome made (on ∷ [])) (λ made held. OperandsCome made (of_held held)) (Chosen g) (selects g.program kind place z on)
    (λ select. if holds select then gives (statements_of parts) else chooses g.program kind on default parts)
    (λ a b low h. operands_later a b (on ∷ []) low h) (selects_lawful g kind place z on)
    (λ select. chosen_by g kind on default parts select (holds select) (statements_lawful g parts lawful.1) (chooses_lawful g kind on default parts one lawful.1))
chooses_lawful g kind on default (ADefault ∷ parts) one lawful = chooses_lawful g kind on default parts one lawful.1
chooses_lawful g kind on default (AStatement s ∷ parts) one lawful = chooses_lawful g kind on default parts one lawful.1

behind_switch_come : (made : ℕ) (flow : Flow) → OperandsCome made (of_flow flow) → OperandsCome made (of_flow (behind_switch flow))
behind_switch_come made Normal h = tt
behind_switch_come made Broke h = tt
behind_switch_come made Continued h = tt
behind_switch_come made (Returned v) h = h

runs_chosen_lawful : (g : Setting) (chosen : List Doing) → AllLawful g chosen → Brings g [] of_flow (runs_chosen chosen)
runs_chosen_lawful g chosen lawful =
    binds g [] of_flow of_flow (in_order chosen) (λ flow. gives (behind_switch flow)) (in_order_lawful g chosen lawful)
    (λ flow. gives_lawful g (of_flow flow ++ []) of_flow (behind_switch flow) (λ made w. behind_switch_come made flow (before_both made (of_flow flow) [] w)))

switches_lawful : (g : Setting) (kind : Kind) (parts : List PartDoing) (on : Operand) → PartsLawful g parts → Brings g (on ∷ []) of_flow (switches g.program kind parts on)
switches_lawful g kind parts on lawful =
    bind g (λ made. OperandsCome made (on ∷ [])) (Chosen g) (λ made flow. OperandsCome made (of_flow flow)) (chooses g.program kind on (behind_default parts) parts) runs_chosen
    (λ a b low h. operands_later a b (on ∷ []) low h) (chooses_lawful g kind on (behind_default parts) parts (default_lawful g parts lawful) lawful)
    (λ chosen budget s good w. runs_chosen_lawful g chosen w.1 budget s good tt)

module _ (g : Setting) (function : ℕ) (vs : List TVariable) (calls : Calls) (calls_lawful : LawfulCalls g calls) where
  -- what lies around the statements
  abbrev around : Within
  around = record { program = g.program; function = function; vars = vs; calls = calls }

  meaning_lawful : (e : TExpr) → LawfulMeaning g (means around e)
  meaning_lawful e = eval_lawful g vs calls calls_lawful e

  drops_lawful : (e : TExpr) → Brings g [] of_none (drops around e)
  drops_lawful e = binds g [] of_operand of_none ((means around e).value false) (λ a. gives tt) ((meaning_lawful e).0 false) (λ a. gives_done g (a ∷ []))

  tests_at_lawful : (place : Place) (e : TExpr) → Brings g [] of_held (tests_at around place e)
  tests_at_lawful place e = binds g [] of_operand of_held ((means around e).value true) (tests g.program place) ((meaning_lawful e).0 true) (λ a. tests_lawful g place a)

  goes_on_lawful : (part : Part (Unit {0})) → Brings g [] of_none part → Brings g [] of_flow (goes_on part)
  goes_on_lawful part lawful = binds g [] of_none of_flow part (λ done. gives Normal) lawful (λ done. gives_flow g Normal)

  -- DECLARATIONS
  initialises_lawful : (d : TDeclarator) (e : TExpr) (target : Target) → ((made : ℕ) → OperandsCome made (of_target target)) → Brings g [] of_none (initialises around d e target)
  initialises_lawful d e target comes =
      binds g [] of_operand of_none ((means around e).value true) (λ a. writes g.program d.place target a >>= λ v. gives tt) ((meaning_lawful e).0 true)
      (λ a. binds g (a ∷ []) of_operand of_none (writes g.program d.place target a) (λ v. gives tt)
      (writes_lawful g d.place target a (a ∷ []) (λ made w. (w.0, comes made)))
      (λ v. gives_done g (v ∷ a ∷ [])))

  begins_register_lawful : (d : TDeclarator) (i : TInit) → Brings g [] of_none (begins_register around d i)
  begins_register_lawful d init.Nothing = sets_lawful g [] d.variable None (λ made w. tt)
  begins_register_lawful d (init.Value e) = initialises_lawful d e (InRegister d.variable false) (λ made. tt)
  begins_register_lawful d (init.Elements items) = gives_done g []

  element_comes : (made : ℕ) (home : Held) (n : ℕ) → OperandsCome made (element_of home n ∷ [])
  element_comes made home n = (tt, tt)

  stores_item_lawful : (home : Held) (i : TItem) → Brings g [] of_none (stores_item around home i)
  stores_item_lawful home (item.Bytes n bytes) = gives_done g []
  stores_item_lawful home (item.Value place n e) =
      binds g [] of_operand of_none ((means around e).value true) (stores g.program place (element_of home n)) ((meaning_lawful e).0 true)
      (λ a. binds g (a ∷ []) of_operand of_none (computes g.program class.Store place act.Store (element_of home n ∷ a ∷ [])) (λ v. gives tt)
      (computes_lawful g class.Store place act.Store (element_of home n ∷ a ∷ []) (a ∷ []) (λ made w. (tt, (w.0, tt))))
      (λ v. gives_done g (v ∷ a ∷ [])))

  stores_items_lawful : (home : Held) (items : List TItem) → Brings g [] of_none (stores_items around home items)
  stores_items_lawful home [] = gives_done g []
  stores_items_lawful home (i ∷ items) =
      binds g [] of_none of_none (stores_item around home i) (λ done. stores_items around home items) (stores_item_lawful home i) (λ done. stores_items_lawful home items)

  begins_object_lawful : (d : TDeclarator) (i : TInit) (home : Held) → Brings g [] of_none (begins_object around d i home)
  begins_object_lawful d init.Nothing home = gives_done g []
  begins_object_lawful d (init.Value e) home = initialises_lawful d e (InMemory (Constant home.value)) (λ made. (tt, tt))
  begins_object_lawful d (init.Elements items) home =
      binds g [] of_none of_none (fills home (values_from items)) (λ done. stores_items around home items)
      (fills_lawful g [] home (values_from items)) (λ done. stores_items_lawful home items)

  begins_variable_lawful : (d : TDeclarator) (home : Held) → Brings g (Holding home ∷ []) of_none (begins_variable around d home)
  begins_variable_lawful d home =
      binds g (Holding home ∷ []) of_none of_none (sets d.variable (Some home)) (λ done. begins_object around d d.init home)
      (sets_lawful g (Holding home ∷ []) d.variable (Some home) (λ made w. w.0))
      (λ done. anywhere g (Holding home ∷ []) of_none (begins_object around d d.init home) (begins_object_lawful d d.init home))

  declares_by_lawful : (d : TDeclarator) (n : ℕ) → Brings g [] of_none (declares_by around d n)
  declares_by_lawful d zero = begins_register_lawful d d.init
  declares_by_lawful d (suc n) =
      binds g [] of_held of_none (makes_object d.place Unset (suc n)) (begins_variable around d) (makes_object_lawful g d.place (suc n) [] Unset) (begins_variable_lawful d)

  declares_lawful : (d : TDeclarator) → Brings g [] of_none (declares around d)
  unfolding declares
  declares_lawful d = declares_by_lawful d (elements_of (slice_get vs d.variable))

  declares_all_lawful : (ds : List TDeclarator) → Brings g [] of_none (declares_all around ds)
  declares_all_lawful [] = gives_done g []
  declares_all_lawful (d ∷ ds) =
      binds g [] of_none of_none (declares around d) (λ done. declares_all around ds) (declares_lawful d) (λ done. declares_all_lawful ds)

  starts_with_lawful : (f : TFirst) → Brings g [] of_none (starts_with around f)
  starts_with_lawful first.Nothing = gives_done g []
  starts_with_lawful (first.Value e) = drops_lawful e
  starts_with_lawful (first.Declare list) = declares_all_lawful list

  -- LOOPS
  tests_counted : (base : ℕ) (place : Place) (a : Operand) → Lawful g (λ made. (base ≤ made) × OperandsCome made (a ∷ [])) (Counted base) (tests g.program place a)
  tests_counted base place a = makes_counted g class.Test place act.Test (a ∷ []) base

  condition_counted : (place : Place) (e : TExpr) (base : ℕ) → Lawful g (λ made. base ≤ made) (Counted base) (tests_at around place e)
  condition_counted place e base =
      bind g (λ made. base ≤ made) (λ made a. OperandsCome made (a ∷ [])) (Counted base) ((means around e).value true) (tests g.program place)
      (λ a b low h. omega (arith, low, h)) (λ budget s good w. (meaning_lawful e).0 true budget s good tt) (tests_counted base place)

  test_counted : (place : Place) (test : Option TExpr) (base : ℕ) → Lawful g (λ made. base ≤ made) (Counted base) (test_or_one around place test)
  test_counted place None base budget s good w = tests_counted base place (Constant (value.Number (pos 1))) budget s good (w, (tt, tt))
  test_counted place (Some e) base budget s good w = condition_counted place e base budget s good w

  step_lawful : (step : Option TExpr) → Brings g [] of_none (step_or_none around step)
  step_lawful None = gives_done g []
  step_lawful (Some e) = drops_lawful e

  parts_lawful : (place : Place) (number : ℕ) (test step : Option TExpr) (body : Doing) → LawfulDoing g body → LawfulLoop g (loop_parts around place number test step body)
  parts_lawful place number test step body lawful = record {
    test = test_counted place test;
    step = step_lawful step;
    body = region_lawful g [] of_flow (loop_region function number + 1) body.does lawful;
  }

  source_loop_lawful : (spot : Spot) (number : ℕ) (test step : Option TExpr) (body : Doing) (tested : Bool) → LawfulDoing g body
      → Brings g [] of_flow (source_loop around spot number test step body tested)
  source_loop_lawful spot number test step body tested lawful =
      loop_lawful g (loop_parts around spot.place number test step body) (loop_region function number) tested (parts_lawful spot.place number test step body lawful)

  pub while_lawful : (spot : Spot) (number : ℕ) (test : TExpr) (body : Doing) → LawfulDoing g body → LawfulDoing g (while_loop around spot number test body)
  unfolding while_loop
  while_lawful spot number test body lawful = source_loop_lawful spot number (Some test) None body true lawful

  pub do_lawful : (spot : Spot) (number : ℕ) (body : Doing) (test : TExpr) → LawfulDoing g body → LawfulDoing g (do_loop around spot number body test)
  unfolding do_loop
  do_lawful spot number body test lawful = source_loop_lawful spot number (Some test) None body false lawful

  pub for_lawful : (spot : Spot) (number : ℕ) (start : TFirst) (test step : Option TExpr) (body : Doing) → LawfulDoing g body
      → LawfulDoing g (for_loop around spot number start test step body)
  unfolding for_loop
  for_lawful spot number start test step body lawful =
      block_lawful g [] of_flow (starts_with around start >>= λ done. source_loop around spot number test step body true)
      (binds g [] of_none of_flow (starts_with around start) (λ done. source_loop around spot number test step body true) (starts_with_lawful start)
      (λ done. source_loop_lawful spot number test step body true lawful))

  -- THE OTHERS
  pub expression_lawful : (e : TExpr) → LawfulDoing g (expression around e)
  unfolding expression
  expression_lawful e = goes_on_lawful (drops around e) (drops_lawful e)

  pub empty_lawful : LawfulDoing g empty
  unfolding empty
  empty_lawful = gives_flow g Normal

  pub compound_lawful : (parts : List Doing) → AllLawful g parts → LawfulDoing g (compound parts)
  unfolding compound
  compound_lawful parts lawful = block_lawful g [] of_flow (in_order parts) (in_order_lawful g parts lawful)

  or_none_lawful : (s : Option Doing) → LawfulIfThere g s → Brings g [] of_flow (does_or_none s)
  or_none_lawful None lawful = gives_flow g Normal
  or_none_lawful (Some s) lawful = lawful

  pub if_lawful : (spot : Spot) (test : TExpr) (a : Doing) (b : Option Doing) → LawfulDoing g a → LawfulIfThere g b → LawfulDoing g (if_else around spot test a b)
  unfolding if_else
  if_lawful spot test a b one two =
      settled_lawful g of_flow (is_left (if_jumps a b)) (tests_at around spot.place test >>= chosen_arm a.does (does_or_none b))
      (binds g [] of_held of_flow (tests_at around spot.place test) (chosen_arm a.does (does_or_none b)) (tests_at_lawful spot.place test)
      (λ t. by t (holds t)))
    where
      by : (t : Held) (chosen : Bool) → Brings g (Holding t ∷ []) of_flow (if chosen then a.does else does_or_none b)
      by t true = anywhere g (Holding t ∷ []) of_flow a.does one
      by t false = anywhere g (Holding t ∷ []) of_flow (does_or_none b) (or_none_lawful b two)

  pub switch_lawful : (kind : Kind) (on : TExpr) (parts : List PartDoing) → PartsLawful g parts → LawfulDoing g (switch around kind on parts)
  unfolding switch
  switch_lawful kind on parts lawful =
      settled_lawful g of_flow (is_left (switch_jumps parts)) ((means around on).value (has_case parts) >>= switches g.program kind parts)
      (binds g [] of_operand of_flow ((means around on).value (has_case parts)) (switches g.program kind parts) ((meaning_lawful on).0 (has_case parts))
      (λ a. switches_lawful g kind parts a lawful))

  pub break_lawful : LawfulDoing g break
  unfolding break
  break_lawful = gives_flow g Broke

  pub continue_lawful : LawfulDoing g continue
  unfolding continue
  continue_lawful = gives_flow g Continued

  returned_lawful : (place : Place) (e : Option TExpr) → Brings g [] of_flow (returns_value around place e)
  returned_lawful place None = gives_flow g (Returned None)
  returned_lawful place (Some e) =
      binds g [] of_operand of_flow ((means around e).value true) (returns_moved g.program place) ((meaning_lawful e).0 true)
      (λ a. binds g (a ∷ []) of_held of_flow (makes g.program class.Move place act.Move (a ∷ [])) (λ held. gives (Returned (Some held)))
      (makes_lawful g class.Move place act.Move (a ∷ []) (a ∷ []) (λ made w. w))
      (λ held. gives_lawful g (Holding held ∷ a ∷ []) of_flow (Returned (Some held)) (λ made w. (w.0, tt))))

  pub return_lawful : (spot : Spot) (e : Option TExpr) → LawfulDoing g (return around spot e)
  unfolding return
  return_lawful spot e = returned_lawful spot.place e

  pub declaration_lawful : (list : List TDeclarator) → LawfulDoing g (declaration around list)
  unfolding declaration
  declaration_lawful list = goes_on_lawful (declares_all around list) (declares_all_lawful list)
