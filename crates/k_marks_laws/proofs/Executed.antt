-- Statements keep a variable, where their parts do.
use Rattle.std.proofs.Common.{◌≡◌, ℕ, zero, suc, ◌+◌, ℤ, pos, List, [], ◌∷◌, map, Option, Some, None, Bool, true, false, not, nat_eq, if◌then◌else◌, refl, slice_get}
use Rattle.k_num.specs.declared.place.Place.{Place}
use Rattle.k_num.specs.declared.numbers.Kind.{Kind}
use Rattle.k_num.specs.declared.numbers.Bin.TheVariants as bin
use Rattle.k_optab.specs.declared.class.Class.TheVariants as class
use Rattle.k_types_meaning.specs.declared.tree.declaration.TDeclarator.{TDeclarator}
use Rattle.k_types_meaning.specs.declared.tree.declaration.TInit.{TInit}
use Rattle.k_types_meaning.specs.declared.tree.declaration.TInit.TheVariants as init
use Rattle.k_types_meaning.specs.declared.tree.declaration.TItem.{TItem}
use Rattle.k_types_meaning.specs.declared.tree.declaration.TItem.TheVariants as item
use Rattle.k_types_meaning.specs.declared.tree.expression.TExpr.{TExpr}
use Rattle.k_types_meaning.specs.declared.tree.statement.Spot.{Spot}
use Rattle.k_types_meaning.specs.declared.tree.statement.TFirst.{TFirst}
use Rattle.k_types_meaning.specs.declared.tree.statement.TFirst.TheVariants as first
use Rattle.k_mem.specs.declared.start.Start.TheVariants.{Unset}
use Rattle.k_world.specs.declared.act.Act.TheVariants as act
use Rattle.k_world.specs.declared.value.Held.{Held}
use Rattle.k_world.specs.declared.value.Value.TheVariants as value
use Rattle.k_marks_meaning.specs.Uses.{uses_of, all_uses, item_uses, init_uses, declarator_uses, declared_uses, first_uses, option_uses}
use Rattle.k_marks_meaning.specs.Jumps.{is_left}
use Rattle.k_evaluation.specs.declared.operand.Operand.{Operand}
use Rattle.k_evaluation.specs.declared.operand.Operand.TheVariants.{Constant}
use Rattle.k_evaluation.specs.declared.operand.Target.{Target}
use Rattle.k_evaluation.specs.declared.operand.Target.TheVariants.{InRegister, InMemory}
use Rattle.k_evaluation.specs.declared.flow.Flow.{Flow}
use Rattle.k_evaluation.specs.declared.flow.Flow.TheVariants.{Normal, Broke, Continued, Returned}
use Rattle.k_evaluation.specs.States.{Program, Part, ◌>>=◌, gives, makes, computes, sets, control, settles}
use Rattle.k_evaluation.specs.Objects.{makes_object, fills}
use Rattle.k_evaluation.specs.Meanings.{tests, holds}
use Rattle.k_evaluation.specs.Assignments.{writes}
use Rattle.k_evaluation.specs.Flows.{Doing, Within, means, drops, tests_at, goes_on, unless_left, in_order}
use Rattle.k_evaluation.specs.Loops.{LoopParts, Turn, Again, Ends, turn_of, resets, starts, stays_behind_body, stays_behind_loop, step_or_end, behind_body, turn, turn_if, turns, all_turns, begins, inside_loop, loop, loop_region, test_or_one, step_or_none, loop_parts, source_loop, while_loop, do_loop}
use Rattle.k_evaluation.specs.Declarations.{initialises, begins_register, values_from, element_of, stores, stores_item, stores_items, begins_object, begins_variable, declares_by, elements_of, declares, declares_all, starts_with}
use Rattle.k_evaluation.specs.Switches.{PartDoing, ACase, ADefault, AStatement, statements_of, behind_default, has_case, selects, chooses, behind_switch, runs_chosen, switches, switch_jumps, switch}
use Rattle.k_evaluation.specs.Statements.{expression, empty, compound, does_or_none, chosen_arm, if_jumps, if_else, for_loop, break, continue, returns_moved, returns_value, return, declaration}
use Rattle.k_marks_laws.specs.Frames.{IsSpared}
use Rattle.k_marks_laws.proofs.Parts.{Keeps, Any, binds, thus, gives_kept, makes_kept, computes_kept, sets_kept, settles_kept, settled_kept, region_kept, makes_object_kept, fills_kept, block_kept}
use Rattle.k_marks_laws.proofs.Rows.{IsAway, ValueKeeps, CallsKeep, tests_keep, writes_keep}
use Rattle.k_marks_laws.proofs.Evaluated.{front, behind, eval_keeps}

-- a statement keeps the variable
abbrev pub DoingKeeps : ℕ → Doing → Type 0
DoingKeeps n s = Keeps n Any s.does

-- so do several
abbrev pub DoingsKeep : ℕ → List Doing → Type 0
DoingsKeep n [] = Unit {0}
DoingsKeep n (s ∷ ss) = DoingKeeps n s × DoingsKeep n ss

-- a part of a switch does
abbrev pub PartKeeps : ℕ → PartDoing → Type 0
PartKeeps n (ACase place z) = Unit {0}
PartKeeps n ADefault = Unit {0}
PartKeeps n (AStatement s) = DoingKeeps n s

-- so do several
abbrev pub PartsKeep : ℕ → List PartDoing → Type 0
PartsKeep n [] = Unit {0}
PartsKeep n (p ∷ ps) = PartKeeps n p × PartsKeep n ps

-- a statement that may be left out does
abbrev pub KeepsIfThere : ℕ → Option Doing → Type 0
KeepsIfThere n None = Unit {0}
KeepsIfThere n (Some s) = DoingKeeps n s

module _ (n : ℕ) where
  unless_left_keeps : (next : Part Flow) → Keeps n Any next → (flow : Flow) → Keeps n Any (unless_left next flow)
  unless_left_keeps next kept Normal = kept
  unless_left_keeps next kept Broke = gives_kept n Broke
  unless_left_keeps next kept Continued = gives_kept n Continued
  unless_left_keeps next kept (Returned v) = gives_kept n (Returned v)

  -- statements in their order
  pub in_order_keeps : (ss : List Doing) → DoingsKeep n ss → Keeps n Any (in_order ss)
  in_order_keeps [] kept = gives_kept n Normal
  in_order_keeps (s ∷ ss) kept = thus n s.does (unless_left (in_order ss)) kept.0 (unless_left_keeps (in_order ss) (in_order_keeps ss kept.1))

  -- SWITCHES
  statements_keep : (parts : List PartDoing) → PartsKeep n parts → DoingsKeep n (statements_of parts)
  statements_keep [] kept = tt
  statements_keep (ACase place z ∷ parts) kept = statements_keep parts kept.1
  statements_keep (ADefault ∷ parts) kept = statements_keep parts kept.1
  statements_keep (AStatement s ∷ parts) kept = (kept.0, statements_keep parts kept.1)

  default_keeps : (parts : List PartDoing) → PartsKeep n parts → DoingsKeep n (behind_default parts)
  default_keeps [] kept = tt
  default_keeps (ACase place z ∷ parts) kept = default_keeps parts kept.1
  default_keeps (ADefault ∷ parts) kept = statements_keep parts kept.1
  default_keeps (AStatement s ∷ parts) kept = default_keeps parts kept.1

  gives_chosen : (chosen : List Doing) → DoingsKeep n chosen → Keeps n (DoingsKeep n) (gives chosen)
  gives_chosen chosen kept s = (refl, kept)

  module _ (program : Program) (kind : Kind) where
    pub selects_keep : (place : Place) (z : ℤ) (on : Operand) → Keeps n Any (selects program kind place z on)
    selects_keep place z on =
        thus n (computes program class.Simple place (act.Binary bin.Eq kind) (on ∷ Constant (value.Number z) ∷ [])) (λ same. makes program class.Select place act.Test (same ∷ []))
        (computes_kept n program class.Simple place (act.Binary bin.Eq kind) (on ∷ Constant (value.Number z) ∷ []))
        (λ same. makes_kept n program class.Select place act.Test (same ∷ []))

    chosen_by : (on : Operand) (default : List Doing) (parts : List PartDoing) (b : Bool) → DoingsKeep n (statements_of parts)
        → Keeps n (DoingsKeep n) (chooses program kind on default parts)
        → Keeps n (DoingsKeep n) (if b then gives (statements_of parts) else chooses program kind on default parts)
    chosen_by on default parts true statements others = gives_chosen (statements_of parts) statements
    chosen_by on default parts false statements others = others

    chooses_keep : (on : Operand) (default : List Doing) (parts : List PartDoing) → DoingsKeep n default → PartsKeep n parts
        → Keeps n (DoingsKeep n) (chooses program kind on default parts)
    chooses_keep on default [] one kept = gives_chosen default one
    chooses_keep on default (ACase place z ∷ parts) one kept =
        binds n Any (DoingsKeep n) (selects program kind place z on)
        (λ select. if holds select then gives (statements_of parts) else chooses program kind on default parts) (selects_keep place z on)
        (λ select p. chosen_by on default parts (holds select) (statements_keep parts kept.1) (chooses_keep on default parts one kept.1))
    chooses_keep on default (ADefault ∷ parts) one kept = chooses_keep on default parts one kept.1
    chooses_keep on default (AStatement s ∷ parts) one kept = chooses_keep on default parts one kept.1

    runs_chosen_keeps : (chosen : List Doing) → DoingsKeep n chosen → Keeps n Any (runs_chosen chosen)
    runs_chosen_keeps chosen kept =
        thus n (in_order chosen) (λ flow. gives (behind_switch flow)) (in_order_keeps chosen kept) (λ flow. gives_kept n (behind_switch flow))

    switches_keep : (parts : List PartDoing) (on : Operand) → PartsKeep n parts → Keeps n Any (switches program kind parts on)
    switches_keep parts on kept =
        binds n (DoingsKeep n) Any (chooses program kind on (behind_default parts) parts) runs_chosen
        (chooses_keep on (behind_default parts) parts (default_keeps parts kept) kept) runs_chosen_keeps

  -- LOOPS
  module _ (l : LoopParts) (test_keeps : Keeps n Any l.test) (step_keeps : Keeps n Any l.step) (body_keeps : Keeps n Any l.body) (before : Option ℕ) where
    starts_keep : {A : Type 0} (part : Part A) → Keeps n Any part → Keeps n Any (starts l before part)
    starts_keep part kept = thus n (resets l.counted before) (λ ready. part) (settles_kept n (not l.counted) before) (λ ready. kept)

    step_or_end_keeps : (next : Part Flow) → Keeps n Any next → (t : Turn) → Keeps n Any (step_or_end l before next t)
    step_or_end_keeps next kept Again = thus n (starts l before l.step) (λ done. next) (starts_keep l.step step_keeps) (λ done. kept)
    step_or_end_keeps next kept (Ends flow) = gives_kept n flow

    turn_keeps : (next : Part Flow) → Keeps n Any next → (last : Option ℕ) → Keeps n Any (turn l before next last)
    turn_keeps next kept last =
        thus n (starts l before l.body) (behind_body l before next last) (starts_keep l.body body_keeps)
        (λ flow. thus n (settles (stays_behind_body l.jumps) last) (λ done. step_or_end l before next (turn_of flow))
        (settles_kept n (stays_behind_body l.jumps) last) (λ done. step_or_end_keeps next kept (turn_of flow)))

    turn_if_keeps : (next : Part Flow) → Keeps n Any next → (test : Held) → Keeps n Any (turn_if l before next test)
    turn_if_keeps next kept test = by (holds test)
      where
        by : (b : Bool) → Keeps n Any (if b then turn l before next test.source else gives Normal)
        by true = turn_keeps next kept test.source
        by false = gives_kept n Normal

    pub tested_turn_keeps : (next : Part Flow) → Keeps n Any next → Keeps n Any (starts l before l.test >>= turn_if l before next)
    tested_turn_keeps next kept = thus n (starts l before l.test) (turn_if l before next) (starts_keep l.test test_keeps) (turn_if_keeps next kept)

    turns_keep : (count : ℕ) → Keeps n Any (turns count l before)
    unfolding turns
    turns_keep zero s = tt
    turns_keep (suc count) s = tested_turn_keeps (turns count l before) (turns_keep count) s

    all_turns_keep : Keeps n Any (all_turns l before)
    all_turns_keep s = turns_keep (s.world.left + 1) s

    begins_keep : (tested : Bool) → Keeps n Any (begins l tested before)
    begins_keep true = all_turns_keep
    begins_keep false = turn_keeps (all_turns l before) all_turns_keep before

  loop_keeps : (l : LoopParts) (number : ℕ) (tested : Bool) → Keeps n Any l.test → Keeps n Any l.step → Keeps n Any l.body → Keeps n Any (loop l number tested)
  loop_keeps l number tested test_keeps step_keeps body_keeps =
      thus n control (λ before. inside_loop l number tested before >>= λ flow. settles (stays_behind_loop l.counted l.jumps) before >>= λ done. gives flow)
      (λ s. (refl, tt))
      (λ before. thus n (inside_loop l number tested before) (λ flow. settles (stays_behind_loop l.counted l.jumps) before >>= λ done. gives flow)
      (region_kept n number (begins l tested before) (begins_keep l test_keeps step_keeps body_keeps before tested))
      (λ flow. thus n (settles (stays_behind_loop l.counted l.jumps) before) (λ done. gives flow) (settles_kept n (stays_behind_loop l.counted l.jumps) before)
      (λ done. gives_kept n flow)))

  module _ (w : Within) (calls_keep : CallsKeep n w.calls) where
    pub value_keeps : (e : TExpr) → IsSpared n (uses_of e) → ValueKeeps n (means w e)
    value_keeps e h = (eval_keeps n w.program w.vars w.calls calls_keep e h).0

    pub drops_keep : (e : TExpr) → IsSpared n (uses_of e) → Keeps n Any (drops w e)
    drops_keep e h = thus n ((means w e).value false) (λ a. gives tt) (value_keeps e h false) (λ a. gives_kept {A = Unit {0}} n tt)

    pub tests_at_keep : (place : Place) (e : TExpr) → IsSpared n (uses_of e) → Keeps n Any (tests_at w place e)
    tests_at_keep place e h = thus n ((means w e).value true) (tests w.program place) (value_keeps e h true) (tests_keep n w.program place)

    goes_on_keeps : (part : Part (Unit {0})) → Keeps n Any part → Keeps n Any (goes_on part)
    goes_on_keeps part kept = thus n part (λ done. gives Normal) kept (λ done. gives_kept n Normal)

    -- DECLARATIONS
    initialises_keeps : (d : TDeclarator) (e : TExpr) (target : Target) → IsSpared n (uses_of e) → IsAway n target → Keeps n Any (initialises w d e target)
    initialises_keeps d e target h away =
        thus n ((means w e).value true) (λ a. writes w.program d.place target a >>= λ v. gives tt) (value_keeps e h true)
        (λ a. thus n (writes w.program d.place target a) (λ v. gives tt) (writes_keep n w.program d.place target a away) (λ v. gives_kept {A = Unit {0}} n tt))

    begins_register_keeps : (d : TDeclarator) (i : TInit) → nat_eq d.variable n ≡ false → IsSpared n (init_uses i) → Keeps n Any (begins_register w d i)
    begins_register_keeps d init.Nothing differ h = sets_kept n d.variable None differ
    begins_register_keeps d (init.Value e) differ h = initialises_keeps d e (InRegister d.variable false) h differ
    begins_register_keeps d (init.Elements items) differ h = gives_kept {A = Unit {0}} n tt

    stores_item_keeps : (home : Held) (i : TItem) → IsSpared n (item_uses i) → Keeps n Any (stores_item w home i)
    stores_item_keeps home (item.Bytes k bytes) h = gives_kept {A = Unit {0}} n tt
    stores_item_keeps home (item.Value place k e) h =
        thus n ((means w e).value true) (stores w.program place (element_of home k)) (value_keeps e h true)
        (λ a. thus n (computes w.program class.Store place act.Store (element_of home k ∷ a ∷ [])) (λ v. gives tt)
        (computes_kept n w.program class.Store place act.Store (element_of home k ∷ a ∷ [])) (λ v. gives_kept {A = Unit {0}} n tt))

    stores_items_keep : (home : Held) (items : List TItem) → IsSpared n (all_uses (map item_uses items)) → Keeps n Any (stores_items w home items)
    stores_items_keep home [] h = gives_kept {A = Unit {0}} n tt
    stores_items_keep home (i ∷ items) h =
        thus n (stores_item w home i) (λ done. stores_items w home items)
        (stores_item_keeps home i (front n (item_uses i) (all_uses (map item_uses items)) h))
        (λ done. stores_items_keep home items (behind n (item_uses i) (all_uses (map item_uses items)) h))

    begins_object_keeps : (d : TDeclarator) (i : TInit) (home : Held) → IsSpared n (init_uses i) → Keeps n Any (begins_object w d i home)
    begins_object_keeps d init.Nothing home h = gives_kept {A = Unit {0}} n tt
    begins_object_keeps d (init.Value e) home h = initialises_keeps d e (InMemory (Constant home.value)) h tt
    begins_object_keeps d (init.Elements items) home h =
        thus n (fills home (values_from items)) (λ done. stores_items w home items) (fills_kept n home (values_from items)) (λ done. stores_items_keep home items h)

    begins_variable_keeps : (d : TDeclarator) (home : Held) → nat_eq d.variable n ≡ false → IsSpared n (init_uses d.init) → Keeps n Any (begins_variable w d home)
    begins_variable_keeps d home differ h =
        thus n (sets d.variable (Some home)) (λ done. begins_object w d d.init home) (sets_kept n d.variable (Some home) differ)
        (λ done. begins_object_keeps d d.init home h)

    declares_by_keeps : (d : TDeclarator) (count : ℕ) → IsSpared n (declarator_uses d) → Keeps n Any (declares_by w d count)
    declares_by_keeps d zero h = begins_register_keeps d d.init h.0 h.1
    declares_by_keeps d (suc count) h =
        thus n (makes_object d.place Unset (suc count)) (begins_variable w d) (makes_object_kept n d.place Unset (suc count)) (λ home. begins_variable_keeps d home h.0 h.1)

    declares_keeps : (d : TDeclarator) → IsSpared n (declarator_uses d) → Keeps n Any (declares w d)
    unfolding declares
    declares_keeps d h = declares_by_keeps d (elements_of (slice_get w.vars d.variable)) h

    declares_all_keep : (ds : List TDeclarator) → IsSpared n (declared_uses ds) → Keeps n Any (declares_all w ds)
    declares_all_keep [] h = gives_kept {A = Unit {0}} n tt
    declares_all_keep (d ∷ ds) h =
        thus n (declares w d) (λ done. declares_all w ds) (declares_keeps d (front n (declarator_uses d) (all_uses (map declarator_uses ds)) h))
        (λ done. declares_all_keep ds (behind n (declarator_uses d) (all_uses (map declarator_uses ds)) h))

    pub starts_with_keeps : (f : TFirst) → IsSpared n (first_uses f) → Keeps n Any (starts_with w f)
    starts_with_keeps first.Nothing h = gives_kept {A = Unit {0}} n tt
    starts_with_keeps (first.Value e) h = drops_keep e h
    starts_with_keeps (first.Declare list) h = declares_all_keep list h

    -- LOOPS OF THE SOURCE
    pub test_keeps : (place : Place) (test : Option TExpr) → IsSpared n (option_uses test) → Keeps n Any (test_or_one w place test)
    test_keeps place None h = tests_keep n w.program place (Constant (value.Number (pos 1)))
    test_keeps place (Some e) h = tests_at_keep place e h

    pub step_keeps : (step : Option TExpr) → IsSpared n (option_uses step) → Keeps n Any (step_or_none w step)
    step_keeps None h = gives_kept {A = Unit {0}} n tt
    step_keeps (Some e) h = drops_keep e h

    source_loop_keeps : (spot : Spot) (number : ℕ) (test step : Option TExpr) (body : Doing) (tested : Bool) → IsSpared n (option_uses test) → IsSpared n (option_uses step)
        → DoingKeeps n body → Keeps n Any (source_loop w spot number test step body tested)
    source_loop_keeps spot number test step body tested h k kept =
        loop_keeps (loop_parts w spot.place number test step body) (loop_region w.function number) tested (test_keeps spot.place test h) (step_keeps step k)
        (region_kept n (loop_region w.function number + 1) body.does kept)

    pub while_keeps : (spot : Spot) (number : ℕ) (test : TExpr) (body : Doing) → IsSpared n (uses_of test) → DoingKeeps n body → DoingKeeps n (while_loop w spot number test body)
    unfolding while_loop
    while_keeps spot number test body h kept = source_loop_keeps spot number (Some test) None body true h tt kept

    pub do_keeps : (spot : Spot) (number : ℕ) (body : Doing) (test : TExpr) → IsSpared n (uses_of test) → DoingKeeps n body → DoingKeeps n (do_loop w spot number body test)
    unfolding do_loop
    do_keeps spot number body test h kept = source_loop_keeps spot number (Some test) None body false h tt kept

    pub for_keeps : (spot : Spot) (number : ℕ) (start : TFirst) (test step : Option TExpr) (body : Doing) → IsSpared n (first_uses start)
        → IsSpared n (option_uses test) → IsSpared n (option_uses step) → DoingKeeps n body → DoingKeeps n (for_loop w spot number start test step body)
    unfolding for_loop
    for_keeps spot number start test step body f h k kept =
        block_kept n (starts_with w start >>= λ done. source_loop w spot number test step body true)
        (thus n (starts_with w start) (λ done. source_loop w spot number test step body true) (starts_with_keeps start f)
        (λ done. source_loop_keeps spot number test step body true h k kept))

    -- THE OTHERS
    pub expression_keeps : (e : TExpr) → IsSpared n (uses_of e) → DoingKeeps n (expression w e)
    unfolding expression
    expression_keeps e h = goes_on_keeps (drops w e) (drops_keep e h)

    pub empty_keeps : DoingKeeps n empty
    unfolding empty
    empty_keeps = gives_kept n Normal

    pub compound_keeps : (parts : List Doing) → DoingsKeep n parts → DoingKeeps n (compound parts)
    unfolding compound
    compound_keeps parts kept = block_kept n (in_order parts) (in_order_keeps parts kept)

    or_none_keeps : (s : Option Doing) → KeepsIfThere n s → Keeps n Any (does_or_none s)
    or_none_keeps None kept = gives_kept n Normal
    or_none_keeps (Some s) kept = kept

    pub if_keeps : (spot : Spot) (test : TExpr) (a : Doing) (b : Option Doing) → IsSpared n (uses_of test) → DoingKeeps n a → KeepsIfThere n b
        → DoingKeeps n (if_else w spot test a b)
    unfolding if_else
    if_keeps spot test a b h one two =
        settled_kept n (is_left (if_jumps a b)) (tests_at w spot.place test >>= chosen_arm a.does (does_or_none b))
        (thus n (tests_at w spot.place test) (chosen_arm a.does (does_or_none b)) (tests_at_keep spot.place test h) (λ t. by (holds t)))
      where
        by : (chosen : Bool) → Keeps n Any (if chosen then a.does else does_or_none b)
        by true = one
        by false = or_none_keeps b two

    pub switch_keeps : (kind : Kind) (on : TExpr) (parts : List PartDoing) → IsSpared n (uses_of on) → PartsKeep n parts → DoingKeeps n (switch w kind on parts)
    unfolding switch
    switch_keeps kind on parts h kept =
        settled_kept n (is_left (switch_jumps parts)) ((means w on).value (has_case parts) >>= switches w.program kind parts)
        (thus n ((means w on).value (has_case parts)) (switches w.program kind parts) (value_keeps on h (has_case parts)) (λ a. switches_keep w.program kind parts a kept))

    pub break_keeps : DoingKeeps n break
    unfolding break
    break_keeps = gives_kept n Broke

    pub continue_keeps : DoingKeeps n continue
    unfolding continue
    continue_keeps = gives_kept n Continued

    returned_keeps : (place : Place) (e : Option TExpr) → IsSpared n (option_uses e) → Keeps n Any (returns_value w place e)
    returned_keeps place None h = gives_kept n (Returned None)
    returned_keeps place (Some e) h =
        thus n ((means w e).value true) (returns_moved w.program place) (value_keeps e h true)
        (λ a. thus n (makes w.program class.Move place act.Move (a ∷ [])) (λ held. gives (Returned (Some held))) (makes_kept n w.program class.Move place act.Move (a ∷ []))
        (λ held. gives_kept n (Returned (Some held))))

    pub return_keeps : (spot : Spot) (e : Option TExpr) → IsSpared n (option_uses e) → DoingKeeps n (return w spot e)
    unfolding return
    return_keeps spot e h = returned_keeps spot.place e h

    pub declaration_keeps : (list : List TDeclarator) → IsSpared n (declared_uses list) → DoingKeeps n (declaration w list)
    unfolding declaration
    declaration_keeps list h = goes_on_keeps (declares_all w list) (declares_all_keep list h)
