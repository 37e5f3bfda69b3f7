-- Statements keep states right and return what the result is, where their parts do.
use Rattle.std.proofs.Common.{◌≡◌, ℕ, zero, suc, ◌+◌, ℤ, pos, List, [], ◌∷◌, ◌++◌, map, length, slice_get, Option, Some, None, Bool, true, false, if◌then◌else◌, refl, sym, ◌∙◌, ap, subst}
use Rattle.std.specs.Prelude.{not}
use Rattle.std.proofs.lemmas.Bool.{and_parts}
use Rattle.std.proofs.lemmas.Option.{none-some, same_Some}
use Rattle.k_num.specs.declared.initial.Initial.{Initial}
use Rattle.k_num.specs.declared.place.Place.{Place}
use Rattle.k_num.specs.declared.numbers.Kind.{Kind}
use Rattle.k_num.specs.declared.numbers.Kind.TheVariants.{I8, I32}
use Rattle.k_num.specs.declared.numbers.Bin.TheVariants as bin
use Rattle.k_num.proofs.KindLaws.{held_converted}
use Rattle.k_optab.specs.declared.class.Class.TheVariants as class
use Rattle.k_types_meaning.specs.declared.tree.declaration.TDeclarator.{TDeclarator}
use Rattle.k_types_meaning.specs.declared.tree.declaration.TInit.{TInit}
use Rattle.k_types_meaning.specs.declared.tree.declaration.TInit.TheVariants as init
use Rattle.k_types_meaning.specs.declared.tree.declaration.TItem.{TItem}
use Rattle.k_types_meaning.specs.declared.tree.declaration.TItem.TheVariants as item
use Rattle.k_types_meaning.specs.declared.tree.expression.TExpr.{TExpr}
use Rattle.k_types_meaning.specs.declared.tree.statement.Spot.{Spot}
use Rattle.k_types_meaning.specs.declared.tree.statement.TFirst.{TFirst}
use Rattle.k_types_meaning.specs.declared.tree.statement.TFirst.TheVariants as first
use Rattle.k_types_meaning.specs.declared.tree.unit.TVariable.{TVariable}
use Rattle.k_types_meaning.specs.Initialisers.{bytes_from}
use Rattle.k_mem.specs.declared.start.Start.TheVariants.{Unset}
use Rattle.k_world.specs.declared.act.Act.TheVariants as act
use Rattle.k_world.specs.declared.value.Held.{Held}
use Rattle.k_world.specs.declared.value.Value.{Value}
use Rattle.k_world.specs.declared.value.Value.TheVariants as value
use Rattle.k_world.specs.Operands.{values_of}
use Rattle.k_marks_meaning.specs.Jumps.{is_left}
use Rattle.k_evaluation.specs.declared.operand.Operand.{Operand}
use Rattle.k_evaluation.specs.declared.operand.Operand.TheVariants.{Constant, Holding}
use Rattle.k_evaluation.specs.declared.operand.Target.{Target}
use Rattle.k_evaluation.specs.declared.operand.Target.TheVariants.{InRegister, InMemory}
use Rattle.k_evaluation.specs.declared.flow.Flow.{Flow}
use Rattle.k_evaluation.specs.declared.flow.Flow.TheVariants.{Normal, Broke, Continued, Returned}
use Rattle.k_evaluation.specs.States.{Program, State, Outcome, Goes, Stops, Part, follow, ◌>>=◌, gives, read, makes, computes, sets, control, settles}
use Rattle.k_evaluation.specs.Objects.{makes_object, fills}
use Rattle.k_evaluation.specs.Meanings.{tests, holds}
use Rattle.k_evaluation.specs.Assignments.{writes}
use Rattle.k_evaluation.specs.Expressions.{Calls}
use Rattle.k_evaluation.specs.Flows.{Doing, Within, means, drops, tests_at, goes_on, unless_left, in_order}
use Rattle.k_evaluation.specs.Loops.{LoopParts, Again, turn_of, resets, starts, stays_behind_body, stays_behind_loop, step_or_end, behind_body, turn, turn_if, turns, all_turns, begins, inside_loop, loop, loop_region, test_or_one, step_or_none, loop_parts, source_loop, while_loop, do_loop}
use Rattle.k_evaluation.specs.Declarations.{initialises, begins_register, values_from, element_value, element_of, stores, stores_item, stores_items, begins_object, begins_variable, declares_by, elements_of, declares, declares_all, starts_with}
use Rattle.k_evaluation.specs.Switches.{PartDoing, ACase, ADefault, AStatement, statements_of, behind_default, has_case, selects, chooses, behind_switch, runs_chosen, switches, switch_jumps, switch}
use Rattle.k_evaluation.specs.Statements.{expression, empty, compound, does_or_none, chosen_arm, if_jumps, if_else, for_loop, break, continue, returns_moved, returns_value, return, declaration}
use Rattle.k_evaluation_laws.specs.Kinds.{Sort, NoValue, ANumber, APointer, sort_of, kind_in, IsValue, IsIn, IsRight, Grows}
use Rattle.k_evaluation_laws.proofs.Fits.{Around, same, see, expr_fits, value_fits, option_fits, item_fits, items_fit, init_fits, init_of, declarator_fits, declared_fit, first_fits, return_fits}
use Rattle.k_evaluation_laws.proofs.Ranges.{expr_in_range, option_in_range, item_in_range, items_in_range, init_in_range, declared_in_range, first_in_range}
use Rattle.k_evaluation_laws.proofs.Acts.{IsAddress, IsStored, held_so, stored_value, is_write, store_given, move_given, number_given, test_given}
use Rattle.k_evaluation_laws.proofs.Evaluated.{mapped_at, around, see_sort, eval_right}
use Rattle.k_evaluation_laws.proofs.Keeping.{Here, Waiting, AValue, AResult, AllHold, hold_both, hold_front, all_later, Fine, fine_from, Brings, of_none, of_operand, of_held, of_target, binds, anywhere, so, gives_right, sets_right, settles_right, control_right, region_right, settled_right, block_right, operand_read, makes_right, computes_right, makes_object_right, fills_right}
use Rattle.k_evaluation_laws.proofs.Memory.{AreItemsOf}
use Rattle.k_evaluation_laws.proofs.Rows.{sort, IsRightMeaning, here, AreRightCalls, tests_right, writes_right}
use Rattle.k_evaluation_laws.proofs.Slots.{grows_then, one_kind, one_sort, some_sort, home_in}

-- what a part always gives, in whatever state it begins
abbrev Gave : {A : Type 0} → (A → Type 0) → Outcome A → Type 0
Gave P (Goes a t) = P a
Gave P (Stops end w) = Unit {0}

gave_follow : {A B : Type 0} (P : B → Type 0) (o : Outcome A) (next : A → Part B) → ((a : A) (t : State) → Gave P (next a t)) → Gave P (follow o next)
gave_follow P (Goes a t) next h = h a t
gave_follow P (Stops end w) next h = tt

fine_gave : {A B : Type 0} (vs : Here) (P : A → Type 0) (carries : A → List Waiting) (carried : B → List Waiting) (kinds : List Kind) (o : Outcome A) (next : A → Part B)
    → Gave P o → Fine vs carries kinds o
    → ((a : A) (more : List Kind) (t : State) → P a → Grows kinds more → IsRight more vs.vars t → AllHold more vs (carries a) → Fine vs carried more (next a t))
    → Fine vs carried kinds (follow o next)
fine_gave vs P carries carried kinds (Goes a t) next p h k = fine_from vs carried kinds h.0 (next a t) h.1 (k a h.0 t p h.1 h.2 h.3)
fine_gave vs P carries carried kinds (Stops end w) next p h k = tt

-- one part behind another that always gives what is like this
binds_given : {A B : Type 0} (vs : Here) (waiting : List Waiting) (P : A → Type 0) (carries : A → List Waiting) (carried : B → List Waiting) (part : Part A) (next : A → Part B)
    → Brings vs waiting carries part → ((s : State) → Gave P (part s)) → ((a : A) → P a → Brings vs (carries a ++ waiting) carried (next a)) → Brings vs waiting carried (part >>= next)
binds_given vs waiting P carries carried part next first always second = record {
  brings = λ kinds s begins right wait.
      fine_gave vs P carries carried kinds (part s) next (always s) (first.brings kinds s begins right wait)
      (λ a more t p grows well gave.
      (second a p).brings more t (grows_then vs.start kinds more begins grows) well (hold_both more vs (carries a) waiting gave (all_later kinds more vs grows waiting wait)));
}

-- how a statement ends: by a `return` with what the result is
abbrev pub of_flow : Sort → Flow → List Waiting
of_flow s Normal = []
of_flow s Broke = []
of_flow s Continued = []
of_flow s (Returned v) = AResult s v ∷ []

-- A STATEMENT IS RIGHT
abbrev pub DoingRight : Here → Sort → Doing → Type 0
DoingRight vs s d = Brings vs [] (of_flow s) d.does

abbrev pub DoingsRight : Here → Sort → List Doing → Type 0
DoingsRight vs s [] = Unit {0}
DoingsRight vs s (d ∷ ds) = DoingRight vs s d × DoingsRight vs s ds

abbrev pub PartRight : Here → Sort → PartDoing → Type 0
PartRight vs s (ACase place z) = Unit {0}
PartRight vs s ADefault = Unit {0}
PartRight vs s (AStatement d) = DoingRight vs s d

abbrev pub PartsRight : Here → Sort → List PartDoing → Type 0
PartsRight vs s [] = Unit {0}
PartsRight vs s (p ∷ ps) = PartRight vs s p × PartsRight vs s ps

abbrev pub RightIfThere : Here → Sort → Option Doing → Type 0
RightIfThere vs s None = Unit {0}
RightIfThere vs s (Some d) = DoingRight vs s d

module _ (vs : Here) (s : Sort) where
  gives_normal : (waiting : List Waiting) → Brings vs waiting (of_flow s) (gives Normal)
  gives_normal waiting = gives_right vs waiting (of_flow s) Normal (λ kinds wait. tt)

  unless_left_right : (next : Part Flow) → Brings vs [] (of_flow s) next → (flow : Flow) → Brings vs (of_flow s flow ++ []) (of_flow s) (unless_left next flow)
  unless_left_right next right Normal = right
  unless_left_right next right Broke = gives_right vs [] (of_flow s) Broke (λ kinds wait. tt)
  unless_left_right next right Continued = gives_right vs [] (of_flow s) Continued (λ kinds wait. tt)
  unless_left_right next right (Returned v) = gives_right vs (AResult s v ∷ []) (of_flow s) (Returned v) (λ kinds wait. wait)

  -- statements in their order
  pub in_order_right : (ds : List Doing) → DoingsRight vs s ds → Brings vs [] (of_flow s) (in_order ds)
  in_order_right [] right = gives_normal []
  in_order_right (d ∷ ds) right = binds vs [] (of_flow s) (of_flow s) d.does (unless_left (in_order ds)) right.0 (unless_left_right (in_order ds) (in_order_right ds right.1))

  -- SWITCHES
  statements_right : (parts : List PartDoing) → PartsRight vs s parts → DoingsRight vs s (statements_of parts)
  statements_right [] right = tt
  statements_right (ACase place z ∷ parts) right = statements_right parts right.1
  statements_right (ADefault ∷ parts) right = statements_right parts right.1
  statements_right (AStatement d ∷ parts) right = (right.0, statements_right parts right.1)

  default_right : (parts : List PartDoing) → PartsRight vs s parts → DoingsRight vs s (behind_default parts)
  default_right [] right = tt
  default_right (ACase place z ∷ parts) right = default_right parts right.1
  default_right (ADefault ∷ parts) right = statements_right parts right.1
  default_right (AStatement d ∷ parts) right = default_right parts right.1

  module _ (program : Program) (kind : Kind) where
    selects_right : (waiting : List Waiting) (place : Place) (z : ℤ) (on : Operand) → Brings vs waiting of_none (selects program kind place z on)
    selects_right waiting place z on =
        binds vs waiting (of_operand (ANumber kind)) of_none (computes program class.Simple place (act.Binary bin.Eq kind) (on ∷ Constant (value.Number z) ∷ []))
        (λ same. makes program class.Select place act.Test (same ∷ []))
        (computes_right vs waiting (ANumber kind) program class.Simple place (act.Binary bin.Eq kind) (on ∷ Constant (value.Number z) ∷ [])
        (λ kinds t right wait. (number_given kinds t.world (act.Binary bin.Eq kind) kind (values_of (map (read t) (on ∷ Constant (value.Number z) ∷ []))) refl, tt)))
        (λ same. so vs (AValue (ANumber kind) same ∷ waiting) (of_held (ANumber I32)) of_none (makes program class.Select place act.Test (same ∷ [])) (λ a kinds wait. tt)
        (makes_right vs (AValue (ANumber kind) same ∷ waiting) (ANumber I32) program class.Select place act.Test (same ∷ [])
        (λ kinds t right wait. (test_given kinds t.world I32 (values_of (map (read t) (same ∷ []))), tt))))

    chosen_by : (on : Operand) (default : List Doing) (parts : List PartDoing) (b : Bool) → Brings vs [] of_none (chooses program kind on default parts)
        → Brings vs [] of_none (if b then gives (statements_of parts) else chooses program kind on default parts)
    chosen_by on default parts true others = gives_right vs [] of_none (statements_of parts) (λ kinds wait. tt)
    chosen_by on default parts false others = others

    chooses_right : (on : Operand) (default : List Doing) (parts : List PartDoing) → Brings vs [] of_none (chooses program kind on default parts)
    chooses_right on default [] = gives_right vs [] of_none default (λ kinds wait. tt)
    chooses_right on default (ACase place z ∷ parts) =
        binds vs [] of_none of_none (selects program kind place z on) (λ select. if holds select then gives (statements_of parts) else chooses program kind on default parts)
        (selects_right [] place z on) (λ select. chosen_by on default parts (holds select) (chooses_right on default parts))
    chooses_right on default (ADefault ∷ parts) = chooses_right on default parts
    chooses_right on default (AStatement d ∷ parts) = chooses_right on default parts

    gave_by : (on : Operand) (default : List Doing) (parts : List PartDoing) (b : Bool) (t : State) → DoingsRight vs s (statements_of parts)
        → Gave (DoingsRight vs s) (chooses program kind on default parts t)
        → Gave (DoingsRight vs s) ((if b then gives (statements_of parts) else chooses program kind on default parts) t)
    gave_by on default parts true t statements others = statements
    gave_by on default parts false t statements others = others

    chooses_gave : (on : Operand) (default : List Doing) (parts : List PartDoing) (t : State) → DoingsRight vs s default → PartsRight vs s parts
        → Gave (DoingsRight vs s) (chooses program kind on default parts t)
    chooses_gave on default [] t one right = one
    chooses_gave on default (ACase place z ∷ parts) t one right =
        gave_follow (DoingsRight vs s) (selects program kind place z on t) (λ select. if holds select then gives (statements_of parts) else chooses program kind on default parts)
        (λ select u. gave_by on default parts (holds select) u (statements_right parts right.1) (chooses_gave on default parts u one right.1))
    chooses_gave on default (ADefault ∷ parts) t one right = chooses_gave on default parts t one right.1
    chooses_gave on default (AStatement d ∷ parts) t one right = chooses_gave on default parts t one right.1

    behind_right : (flow : Flow) → Brings vs (of_flow s flow ++ []) (of_flow s) (gives (behind_switch flow))
    behind_right Normal = gives_normal []
    behind_right Broke = gives_normal []
    behind_right Continued = gives_right vs [] (of_flow s) Continued (λ kinds wait. tt)
    behind_right (Returned v) = gives_right vs (AResult s v ∷ []) (of_flow s) (Returned v) (λ kinds wait. wait)

    runs_chosen_right : (chosen : List Doing) → DoingsRight vs s chosen → Brings vs [] (of_flow s) (runs_chosen chosen)
    runs_chosen_right chosen right = binds vs [] (of_flow s) (of_flow s) (in_order chosen) (λ flow. gives (behind_switch flow)) (in_order_right chosen right) behind_right

    switches_right : (parts : List PartDoing) (on : Operand) → PartsRight vs s parts → Brings vs [] (of_flow s) (switches program kind parts on)
    switches_right parts on right =
        binds_given vs [] (DoingsRight vs s) of_none (of_flow s) (chooses program kind on (behind_default parts) parts) runs_chosen (chooses_right on (behind_default parts) parts)
        (λ t. chooses_gave on (behind_default parts) parts t (default_right parts right) right) runs_chosen_right

  -- LOOPS
  module _ (l : LoopParts) (test_right : Brings vs [] of_none l.test) (step_right : Brings vs [] of_none l.step) (body_right : Brings vs [] (of_flow s) l.body) (before : Option ℕ) where
    starts_right : {A : Type 0} (carries : A → List Waiting) (part : Part A) → Brings vs [] carries part → Brings vs [] carries (starts l before part)
    starts_right {A = A} carries part right = binds {B = A} vs [] of_none carries (resets l.counted before) (λ ready. part) (settles_right vs [] (not l.counted) before) (λ ready. right)

    next_right : (next : Part Flow) → Brings vs [] (of_flow s) next → Brings vs [] (of_flow s) (step_or_end l before next Again)
    next_right next right = binds vs [] of_none (of_flow s) (starts l before l.step) (λ done. next) (starts_right of_none l.step step_right) (λ done. right)

    ended_right : (next : Part Flow) → Brings vs [] (of_flow s) next → (flow : Flow) → Brings vs (of_flow s flow ++ []) (of_flow s) (step_or_end l before next (turn_of flow))
    ended_right next right Normal = next_right next right
    ended_right next right Broke = gives_normal []
    ended_right next right Continued = next_right next right
    ended_right next right (Returned v) = gives_right vs (AResult s v ∷ []) (of_flow s) (Returned v) (λ kinds wait. wait)

    turn_right : (next : Part Flow) → Brings vs [] (of_flow s) next → (last : Option ℕ) → Brings vs [] (of_flow s) (turn l before next last)
    turn_right next right last =
        binds vs [] (of_flow s) (of_flow s) (starts l before l.body) (behind_body l before next last) (starts_right (of_flow s) l.body body_right)
        (λ flow. binds vs (of_flow s flow ++ []) of_none (of_flow s) (settles (stays_behind_body l.jumps) last) (λ done. step_or_end l before next (turn_of flow))
        (settles_right vs (of_flow s flow ++ []) (stays_behind_body l.jumps) last) (λ done. ended_right next right flow))

    turn_if_right : (next : Part Flow) → Brings vs [] (of_flow s) next → (test : Held) → Brings vs [] (of_flow s) (turn_if l before next test)
    turn_if_right next right test = by (holds test)
      where
        by : (b : Bool) → Brings vs [] (of_flow s) (if b then turn l before next test.source else gives Normal)
        by true = turn_right next right test.source
        by false = gives_normal []

    turns_right : (count : ℕ) → Brings vs [] (of_flow s) (turns count l before)
    unfolding turns
    turns_right zero = record { brings = λ kinds t begins right wait. tt }
    turns_right (suc count) =
        let one = binds vs [] of_none (of_flow s) (starts l before l.test) (turn_if l before (turns count l before)) (starts_right of_none l.test test_right)
        (turn_if_right (turns count l before) (turns_right count)) in
        record { brings = λ kinds t begins right wait. one.brings kinds t begins right wait }

    all_turns_right : Brings vs [] (of_flow s) (all_turns l before)
    all_turns_right = record { brings = λ kinds t begins right wait. (turns_right (t.world.left + 1)).brings kinds t begins right wait }

    begins_right : (tested : Bool) → Brings vs [] (of_flow s) (begins l tested before)
    begins_right true = all_turns_right
    begins_right false = turn_right (all_turns l before) all_turns_right before

  loop_right : (l : LoopParts) (number : ℕ) (tested : Bool) → Brings vs [] of_none l.test → Brings vs [] of_none l.step → Brings vs [] (of_flow s) l.body → Brings vs [] (of_flow s) (loop l number tested)
  loop_right l number tested test_right step_right body_right =
      binds vs [] of_none (of_flow s) control (λ before. inside_loop l number tested before >>= λ flow. settles (stays_behind_loop l.counted l.jumps) before >>= λ done. gives flow)
      (control_right vs [])
      (λ before. binds vs [] (of_flow s) (of_flow s) (inside_loop l number tested before) (λ flow. settles (stays_behind_loop l.counted l.jumps) before >>= λ done. gives flow)
      (region_right vs [] (of_flow s) number (begins l tested before) (begins_right l test_right step_right body_right before tested))
      (λ flow. binds vs (of_flow s flow ++ []) of_none (of_flow s) (settles (stays_behind_loop l.counted l.jumps) before) (λ done. gives flow)
      (settles_right vs (of_flow s flow ++ []) (stays_behind_loop l.counted l.jumps) before)
      (λ done. gives_right vs (of_flow s flow ++ []) (of_flow s) flow (λ kinds wait. hold_front kinds vs (of_flow s flow) [] wait))))

-- ITEMS of strings and of braces
items_both : (kind : Kind) (xs ys : List Initial) → AreItemsOf kind xs → AreItemsOf kind ys → AreItemsOf kind (xs ++ ys)
items_both kind [] ys h k = k
items_both kind (x ∷ xs) ys h k = (h.0, items_both kind xs ys h.1 k)

bytes_held : (n : ℕ) (bytes : List ℕ) → AreItemsOf I8 (bytes_from n bytes)
bytes_held n [] = tt
bytes_held n (b ∷ bytes) = (held_converted I8 (pos b), bytes_held (n + 1) bytes)

element_is : (kinds : List Kind) (kind : Kind) (v : Value) (n : ℕ) → IsValue kinds (APointer kind) v → IsAddress kinds kind (element_value v n)
element_is kinds kind (value.Number z) n h = tt
element_is kinds kind (value.Pointer p) n h = h.0

module _ (program : Program) (variables : List TVariable) (result : Sort) (function : ℕ) (calls : Calls) (calls_right : AreRightCalls program calls) where
  abbrev pub inside : Within
  inside = record { program = program; function = function; vars = variables; calls = calls }

  abbrev w : Within
  w = inside

  abbrev vs : Here
  vs = here program variables

  abbrev known : Around
  known = around program variables result calls

  abbrev range : ℕ
  range = length program.unit.strings

  -- EXPRESSIONS
  right_of : (e : TExpr) → expr_fits known e ≡ true → expr_in_range range e ≡ true → IsRightMeaning vs (means w e)
  right_of e fits in_range = eval_right program variables result calls calls_right e fits in_range

  drops_right : (waiting : List Waiting) (e : TExpr) → expr_fits known e ≡ true → expr_in_range range e ≡ true → Brings vs waiting of_none (drops w e)
  drops_right waiting e fits in_range =
      anywhere vs waiting of_none (drops w e)
      (binds vs [] (of_operand (sort (means w e))) of_none ((means w e).value false) (λ a. gives tt) ((right_of e fits in_range).value false)
      (λ a. gives_right {A = Unit {0}} vs (AValue (sort (means w e)) a ∷ []) of_none tt (λ kinds wait. tt)))

  tests_at_right : (place : Place) (e : TExpr) → expr_fits known e ≡ true → expr_in_range range e ≡ true → Brings vs [] of_none (tests_at w place e)
  tests_at_right place e fits in_range =
      binds vs [] (of_operand (sort (means w e))) of_none ((means w e).value true) (tests program place) ((right_of e fits in_range).value true)
      (λ a. so vs (AValue (sort (means w e)) a ∷ []) (of_held (ANumber I32)) of_none (tests program place a) (λ held kinds wait. tt)
      (tests_right program vs (AValue (sort (means w e)) a ∷ []) place a I32))

  -- an expression whose value is of a sort
  value_of : (s : Sort) (e : TExpr) → value_fits known s e ≡ true → expr_in_range range e ≡ true → Brings vs [] (of_operand s) ((means w e).value true)
  value_of s e fits in_range =
      let h = and_parts (same s (see known e).of) (expr_fits known e) fits in
      subst (λ (t : Sort). Brings vs [] (of_operand t) ((means w e).value true)) (sym (one_sort s (see known e).of h.0 ∙ see_sort program variables result calls e))
      ((right_of e h.1 in_range).value true)

  value_some : (s : Sort) (e : TExpr) → value_fits known s e ≡ true → s ≡ NoValue → ⊥
  value_some s e fits = some_sort s (see known e).of (and_parts (same s (see known e).of) (expr_fits known e) fits).0

  goes_on_right : (part : Part (Unit {0})) → Brings vs [] of_none part → Brings vs [] (of_flow result) (goes_on part)
  goes_on_right part right = binds vs [] of_none (of_flow result) part (λ done. gives Normal) right (λ done. gives_normal vs result [])

  -- DECLARATIONS
  initialises_right : (d : TDeclarator) (e : TExpr) (target : Target) (s : Sort) (waiting : List Waiting) → value_fits known s e ≡ true → expr_in_range range e ≡ true
      → ((kinds : List Kind) → AllHold kinds vs waiting → AllHold kinds vs (of_target s target)) → Brings vs waiting of_none (initialises w d e target)
  initialises_right d e target s waiting fits in_range from =
      binds vs waiting (of_operand s) of_none ((means w e).value true) (λ a. writes program d.place target a >>= λ v. gives tt)
      (anywhere vs waiting (of_operand s) ((means w e).value true) (value_of s e fits in_range))
      (λ a. binds vs (AValue s a ∷ waiting) (of_operand s) of_none (writes program d.place target a) (λ v. gives tt)
      (writes_right program vs d.place target a s (AValue s a ∷ waiting) (value_some s e fits) (λ kinds wait. (wait.0, from kinds wait.1)))
      (λ v. gives_right {A = Unit {0}} vs (AValue s v ∷ AValue s a ∷ waiting) of_none tt (λ kinds wait. tt)))

  begins_register_right : (d : TDeclarator) (v : TVariable) (i : TInit) → slice_get variables d.variable ≡ Some v → v.elements ≡ 0 → init_fits known (sort_of v.of) i ≡ true
      → init_in_range range i ≡ true → Brings vs [] of_none (begins_register w d i)
  begins_register_right d v init.Nothing there none fits in_range = sets_right vs [] d.variable None (λ kinds u wait at. tt)
  begins_register_right d v (init.Value e) there none fits in_range =
      initialises_right d e (InRegister d.variable false) (sort_of v.of) [] fits in_range (λ kinds wait. ((v, there, none, refl), tt))
  begins_register_right d v (init.Elements items) there none fits in_range = gives_right {A = Unit {0}} vs [] of_none tt (λ kinds wait. tt)

  items_held : (kind : Kind) (items : List TItem) → items_fit known kind items ≡ true → AreItemsOf kind (values_from items)
  items_held kind [] fits = tt
  items_held kind (item.Bytes n bytes ∷ items) fits =
      let h = and_parts (item_fits known kind (item.Bytes n bytes)) (items_fit known kind items) fits in
      items_both kind (bytes_from n bytes) (values_from items) (subst (λ (k : Kind). AreItemsOf k (bytes_from n bytes)) (sym (one_kind kind I8 h.0)) (bytes_held n bytes)) (items_held kind items h.1)
  items_held kind (item.Value place n e ∷ items) fits = items_held kind items (and_parts (item_fits known kind (item.Value place n e)) (items_fit known kind items) fits).1

  -- the pointer to an object waits
  abbrev of_home : Kind → Held → List Waiting
  of_home kind home = AValue (APointer kind) (Holding home) ∷ []

  stores_item_right : (kind : Kind) (home : Held) (i : TItem) → item_fits known kind i ≡ true → item_in_range range i ≡ true → Brings vs (of_home kind home) of_none (stores_item w home i)
  stores_item_right kind home (item.Bytes n bytes) fits in_range = gives_right {A = Unit {0}} vs (of_home kind home) of_none tt (λ kinds wait. tt)
  stores_item_right kind home (item.Value place n e) fits in_range =
      binds vs (of_home kind home) (of_operand (ANumber kind)) of_none ((means w e).value true) (stores program place (element_of home n))
      (anywhere vs (of_home kind home) (of_operand (ANumber kind)) ((means w e).value true) (value_of (ANumber kind) e fits in_range))
      (λ a. binds vs (AValue (ANumber kind) a ∷ of_home kind home) (of_operand (ANumber kind)) of_none (computes program class.Store place act.Store (element_of home n ∷ a ∷ [])) (λ v. gives tt)
      (computes_right vs (AValue (ANumber kind) a ∷ of_home kind home) (ANumber kind) program class.Store place act.Store (element_of home n ∷ a ∷ [])
      (λ kinds t right wait.
      let write = is_write kinds kind (read t (element_of home n)) (read t a) (element_is kinds kind home.value n wait.1.0)
      (held_so (IsValue kinds (ANumber kind)) (IsStored kind) (read t a).slot (λ v one. stored_value kinds (ANumber kind) v (λ is. cc is) one)
      (operand_read kinds vs t (ANumber kind) a right wait.0)) in
      (store_given kinds t.world kind (values_of (map (read t) (element_of home n ∷ a ∷ []))) write, (kind, write))))
      (λ v. gives_right {A = Unit {0}} vs (AValue (ANumber kind) v ∷ AValue (ANumber kind) a ∷ of_home kind home) of_none tt (λ kinds wait. tt)))

  stores_items_right : (kind : Kind) (home : Held) (items : List TItem) → items_fit known kind items ≡ true → items_in_range range items ≡ true
      → Brings vs (of_home kind home) of_none (stores_items w home items)
  stores_items_right kind home [] fits in_range = gives_right {A = Unit {0}} vs (of_home kind home) of_none tt (λ kinds wait. tt)
  stores_items_right kind home (i ∷ items) fits in_range =
      let h = and_parts (item_fits known kind i) (items_fit known kind items) fits in
      let r = and_parts (item_in_range range i) (items_in_range range items) in_range in
      binds vs (of_home kind home) of_none of_none (stores_item w home i) (λ done. stores_items w home items) (stores_item_right kind home i h.0 r.0)
      (λ done. stores_items_right kind home items h.1 r.1)

  begins_object_right : (d : TDeclarator) (i : TInit) (s : Sort) (home : Held) → init_fits known s i ≡ true → init_in_range range i ≡ true
      → Brings vs (of_home (kind_in s) home) of_none (begins_object w d i home)
  begins_object_right d init.Nothing s home fits in_range = gives_right {A = Unit {0}} vs (of_home (kind_in s) home) of_none tt (λ kinds wait. tt)
  begins_object_right d (init.Value e) s home fits in_range =
      initialises_right d e (InMemory (Constant home.value)) s (of_home (kind_in s) home) fits in_range (λ kinds wait. wait)
  begins_object_right d (init.Elements items) s home fits in_range =
      binds vs (of_home (kind_in s) home) of_none of_none (fills home (values_from items)) (λ done. stores_items w home items)
      (fills_right vs (of_home (kind_in s) home) (kind_in s) home (values_from items) (λ kinds wait. wait.0) (items_held (kind_in s) items fits))
      (λ done. stores_items_right (kind_in s) home items fits in_range)

  -- the variable holds the pointer to its object
  home_slot : (kinds : List Kind) (v u : TVariable) (count : ℕ) (home : Held) → v ≡ u → v.elements ≡ suc count → IsValue kinds (APointer (kind_in (sort_of v.of))) home.value
      → IsIn kinds u.elements (sort_of u.of) home.value
  home_slot kinds v u count home is some h =
      subst (λ (x : TVariable). IsIn kinds x.elements (sort_of x.of) home.value) is
      (subst (λ (n : ℕ). IsIn kinds n (sort_of v.of) home.value) (sym some) (home_in kinds count (sort_of v.of) home.value h))

  declares_by_right : (d : TDeclarator) (v : TVariable) (count : ℕ) → slice_get variables d.variable ≡ Some v → v.elements ≡ count → init_fits known (sort_of v.of) d.init ≡ true
      → init_in_range range d.init ≡ true → Brings vs [] of_none (declares_by w d count)
  declares_by_right d v zero there none fits in_range = begins_register_right d v d.init there none fits in_range
  declares_by_right d v (suc count) there some fits in_range =
      let kind : Kind = kind_in (sort_of v.of) in
      binds vs [] (of_held (APointer kind)) of_none (makes_object d.place Unset (suc count)) (begins_variable w d) (makes_object_right vs [] kind d.place Unset (suc count) tt)
      (λ home. binds vs (of_home kind home) of_none of_none (sets d.variable (Some home)) (λ done. begins_object w d d.init home)
      (sets_right vs (of_home kind home) d.variable (Some home)
      (λ kinds u wait at. home_slot kinds v u count home (same_Some v u (sym there ∙ at)) some wait.0))
      (λ done. begins_object_right d d.init (sort_of v.of) home fits in_range))

  declares_right : (d : TDeclarator) → declarator_fits known d ≡ true → init_in_range range d.init ≡ true → Brings vs [] of_none (declares w d)
  unfolding declares
  declares_right d fits in_range = by (slice_get known.variables d.variable) refl fits
    where
      there_is : (o : Option TVariable) (v : TVariable) → o ≡ Some v → v.elements ≡ elements_of o
      there_is None v is = absurd (none-some v is)
      there_is (Some u) v is = ap (λ (x : TVariable). x.elements) (sym (same_Some u v is))

      by : (o : Option Sort) → slice_get known.variables d.variable ≡ o → init_of known o d.init ≡ true → Brings vs [] of_none (declares_by w d (elements_of (slice_get variables d.variable)))
      by None at is = absurd (cc is)
      by (Some s) at is =
          let v = mapped_at (λ (v : TVariable). sort_of v.of) variables d.variable s at in
          declares_by_right d v.0 (elements_of (slice_get variables d.variable)) v.1 (there_is (slice_get variables d.variable) v.0 v.1)
          (subst (λ (t : Sort). init_fits known t d.init ≡ true) (sym v.2) is) in_range

  declares_all_right : (ds : List TDeclarator) → declared_fit known ds ≡ true → declared_in_range range ds ≡ true → Brings vs [] of_none (declares_all w ds)
  declares_all_right [] fits in_range = gives_right {A = Unit {0}} vs [] of_none tt (λ kinds wait. tt)
  declares_all_right (d ∷ ds) fits in_range =
      let h = and_parts (declarator_fits known d) (declared_fit known ds) fits in
      let r = and_parts (init_in_range range d.init) (declared_in_range range ds) in_range in
      binds vs [] of_none of_none (declares w d) (λ done. declares_all w ds) (declares_right d h.0 r.0) (λ done. declares_all_right ds h.1 r.1)

  starts_with_right : (f : TFirst) → first_fits known f ≡ true → first_in_range range f ≡ true → Brings vs [] of_none (starts_with w f)
  starts_with_right first.Nothing fits in_range = gives_right {A = Unit {0}} vs [] of_none tt (λ kinds wait. tt)
  starts_with_right (first.Value e) fits in_range = drops_right [] e fits in_range
  starts_with_right (first.Declare list) fits in_range = declares_all_right list fits in_range

  -- LOOPS OF THE SOURCE
  test_right : (place : Place) (test : Option TExpr) → option_fits known test ≡ true → option_in_range range test ≡ true → Brings vs [] of_none (test_or_one w place test)
  test_right place None fits in_range =
      so vs [] (of_held (ANumber I32)) of_none (tests program place (Constant (value.Number (pos 1)))) (λ held kinds wait. tt) (tests_right program vs [] place (Constant (value.Number (pos 1))) I32)
  test_right place (Some e) fits in_range = tests_at_right place e fits in_range

  step_right : (step : Option TExpr) → option_fits known step ≡ true → option_in_range range step ≡ true → Brings vs [] of_none (step_or_none w step)
  step_right None fits in_range = gives_right {A = Unit {0}} vs [] of_none tt (λ kinds wait. tt)
  step_right (Some e) fits in_range = drops_right [] e fits in_range

  source_loop_right : (spot : Spot) (number : ℕ) (test step : Option TExpr) (body : Doing) (tested : Bool) → option_fits known test ≡ true → option_in_range range test ≡ true
      → option_fits known step ≡ true → option_in_range range step ≡ true → DoingRight vs result body → Brings vs [] (of_flow result) (source_loop w spot number test step body tested)
  source_loop_right spot number test step body tested fits in_range also also_range right =
      loop_right vs result (loop_parts w spot.place number test step body) (loop_region w.function number) tested (test_right spot.place test fits in_range) (step_right step also also_range)
      (region_right vs [] (of_flow result) (loop_region w.function number + 1) body.does right)

  pub while_right : (spot : Spot) (number : ℕ) (test : TExpr) (body : Doing) → expr_fits known test ≡ true → expr_in_range range test ≡ true → DoingRight vs result body
      → DoingRight vs result (while_loop w spot number test body)
  unfolding while_loop
  while_right spot number test body fits in_range right = source_loop_right spot number (Some test) None body true fits in_range refl refl right

  pub do_right : (spot : Spot) (number : ℕ) (body : Doing) (test : TExpr) → expr_fits known test ≡ true → expr_in_range range test ≡ true → DoingRight vs result body
      → DoingRight vs result (do_loop w spot number body test)
  unfolding do_loop
  do_right spot number body test fits in_range right = source_loop_right spot number (Some test) None body false fits in_range refl refl right

  pub for_right : (spot : Spot) (number : ℕ) (start : TFirst) (test step : Option TExpr) (body : Doing) → first_fits known start ≡ true → first_in_range range start ≡ true
      → option_fits known test ≡ true → option_in_range range test ≡ true → option_fits known step ≡ true → option_in_range range step ≡ true → DoingRight vs result body
      → DoingRight vs result (for_loop w spot number start test step body)
  unfolding for_loop
  for_right spot number start test step body f fr t tr p pr right =
      block_right vs [] (of_flow result) (starts_with w start >>= λ done. source_loop w spot number test step body true)
      (binds vs [] of_none (of_flow result) (starts_with w start) (λ done. source_loop w spot number test step body true) (starts_with_right start f fr)
      (λ done. source_loop_right spot number test step body true t tr p pr right))

  -- THE OTHERS
  pub expression_right : (e : TExpr) → expr_fits known e ≡ true → expr_in_range range e ≡ true → DoingRight vs result (expression w e)
  unfolding expression
  expression_right e fits in_range = goes_on_right (drops w e) (drops_right [] e fits in_range)

  pub empty_right : DoingRight vs result empty
  unfolding empty
  empty_right = gives_normal vs result []

  pub compound_right : (parts : List Doing) → DoingsRight vs result parts → DoingRight vs result (compound parts)
  unfolding compound
  compound_right parts right = block_right vs [] (of_flow result) (in_order parts) (in_order_right vs result parts right)

  or_none_right : (s : Option Doing) → RightIfThere vs result s → Brings vs [] (of_flow result) (does_or_none s)
  or_none_right None right = gives_normal vs result []
  or_none_right (Some s) right = right

  pub if_right : (spot : Spot) (test : TExpr) (a : Doing) (b : Option Doing) → expr_fits known test ≡ true → expr_in_range range test ≡ true → DoingRight vs result a → RightIfThere vs result b
      → DoingRight vs result (if_else w spot test a b)
  unfolding if_else
  if_right spot test a b fits in_range one two =
      settled_right vs [] (of_flow result) (is_left (if_jumps a b)) (tests_at w spot.place test >>= chosen_arm a.does (does_or_none b))
      (binds vs [] of_none (of_flow result) (tests_at w spot.place test) (chosen_arm a.does (does_or_none b)) (tests_at_right spot.place test fits in_range) (λ t. by (holds t)))
    where
      by : (chosen : Bool) → Brings vs [] (of_flow result) (if chosen then a.does else does_or_none b)
      by true = one
      by false = or_none_right b two

  pub switch_right : (kind : Kind) (on : TExpr) (parts : List PartDoing) → expr_fits known on ≡ true → expr_in_range range on ≡ true → PartsRight vs result parts
      → DoingRight vs result (switch w kind on parts)
  unfolding switch
  switch_right kind on parts fits in_range right =
      settled_right vs [] (of_flow result) (is_left (switch_jumps parts)) ((means w on).value (has_case parts) >>= switches program kind parts)
      (binds vs [] (of_operand (sort (means w on))) (of_flow result) ((means w on).value (has_case parts)) (switches program kind parts) ((right_of on fits in_range).value (has_case parts))
      (λ a. anywhere vs (AValue (sort (means w on)) a ∷ []) (of_flow result) (switches program kind parts a) (switches_right vs result program kind parts a right)))

  pub break_right : DoingRight vs result break
  unfolding break
  break_right = gives_right vs [] (of_flow result) Broke (λ kinds wait. tt)

  pub continue_right : DoingRight vs result continue
  unfolding continue
  continue_right = gives_right vs [] (of_flow result) Continued (λ kinds wait. tt)

  returned_right : (place : Place) (e : Option TExpr) → return_fits known e ≡ true → option_in_range range e ≡ true → Brings vs [] (of_flow result) (returns_value w place e)
  returned_right place None fits in_range = gives_right vs [] (of_flow result) (Returned None) (λ kinds wait. (tt, tt))
  returned_right place (Some e) fits in_range =
      binds vs [] (of_operand result) (of_flow result) ((means w e).value true) (returns_moved program place) (value_of result e fits in_range)
      (λ a. binds vs (AValue result a ∷ []) (of_held result) (of_flow result) (makes program class.Move place act.Move (a ∷ [])) (λ held. gives (Returned (Some held)))
      (moved a)
      (λ held. gives_right vs (AValue result (Holding held) ∷ AValue result a ∷ []) (of_flow result) (Returned (Some held)) (λ kinds wait. (wait.0, tt))))
    where
      moved : (a : Operand) → Brings vs (AValue result a ∷ []) (of_held result) (makes program class.Move place act.Move (a ∷ []))
      moved a =
          makes_right vs (AValue result a ∷ []) result program class.Move place act.Move (a ∷ [])
          (λ kinds t right wait. (move_given kinds t.world result (read t a) (operand_read kinds vs t result a right wait.0), tt))

  pub return_right : (spot : Spot) (e : Option TExpr) → return_fits known e ≡ true → option_in_range range e ≡ true → DoingRight vs result (return w spot e)
  unfolding return
  return_right spot e fits in_range = returned_right spot.place e fits in_range

  pub declaration_right : (list : List TDeclarator) → declared_fit known list ≡ true → declared_in_range range list ≡ true → DoingRight vs result (declaration w list)
  unfolding declaration
  declaration_right list fits in_range = goes_on_right (declares_all w list) (declares_all_right list fits in_range)
