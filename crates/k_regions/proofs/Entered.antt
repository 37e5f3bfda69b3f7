-- The events of what a function does: a call enters the region of the function that is called, a loop its own and that of its body, and nothing else
-- enters one. The operation of a call pays for its region and a first turn of each of its loops, and each test for the turn behind it.
use Rattle.std.proofs.Common.{ℕ, zero, suc, ◌+◌, ◌*◌, ◌≤◌, arith, length, ℤ, pos, List, [], ◌∷◌, ◌++◌, map, Option, Some, None, Bool, true, false, nat_eq, if◌then◌else◌, ◌≡◌, refl, sym, subst, slice_get}
use Rattle.std.proofs.lemmas.List.{length-append}
use Rattle.k_num.specs.declared.place.Place.{Place}
use Rattle.k_num.specs.declared.numbers.Kind.{Kind}
use Rattle.k_num.specs.declared.numbers.Bin.TheVariants as bin
use Rattle.k_optab.specs.declared.class.Class.TheVariants as class
use Rattle.k_ending.specs.declared.ending.Trap.TheVariants.{StackOverflow, FallOff}
use Rattle.k_types_meaning.specs.declared.types.TType.{TType}
use Rattle.k_types_meaning.specs.declared.types.TType.TheVariants as ttype
use Rattle.k_types_meaning.specs.declared.tree.declaration.TDeclarator.{TDeclarator}
use Rattle.k_types_meaning.specs.declared.tree.declaration.TInit.{TInit}
use Rattle.k_types_meaning.specs.declared.tree.declaration.TInit.TheVariants as init
use Rattle.k_types_meaning.specs.declared.tree.declaration.TItem.{TItem}
use Rattle.k_types_meaning.specs.declared.tree.declaration.TItem.TheVariants as item
use Rattle.k_types_meaning.specs.declared.tree.expression.TExpr.{TExpr}
use Rattle.k_types_meaning.specs.declared.tree.statement.Spot.{Spot}
use Rattle.k_types_meaning.specs.declared.tree.statement.TFirst.{TFirst}
use Rattle.k_types_meaning.specs.declared.tree.statement.TFirst.TheVariants as first
use Rattle.k_types_meaning.specs.declared.tree.statement.TPart.{TPart, fold-TPart, fold-roll-TPart, map-TPart, roll-TPart}
use Rattle.k_types_meaning.specs.declared.tree.statement.TPart.TheOpen.{TPart-F, TStmt-F}
use Rattle.k_types_meaning.specs.declared.tree.statement.TStmt.{TStmt, fold-roll-TStmt, ind-TStmt, map-TStmt, roll-TStmt}
use Rattle.k_types_meaning.specs.declared.tree.unit.TFunc.{TFunc}
use Rattle.k_types_meaning.specs.declared.tree.unit.TVariable.{TVariable}
use Rattle.k_mem.specs.declared.start.Start.TheVariants.{Unset}
use Rattle.k_world.specs.declared.act.Act.TheVariants as act
use Rattle.k_world.specs.declared.value.Held.{Held}
use Rattle.k_world.specs.declared.value.Value.TheVariants as value
use Rattle.k_evaluation.specs.declared.operand.Operand.{Operand}
use Rattle.k_evaluation.specs.declared.operand.Operand.TheVariants.{Constant, Register}
use Rattle.k_evaluation.specs.declared.operand.Target.{Target}
use Rattle.k_evaluation.specs.declared.operand.Target.TheVariants.{InRegister, InMemory}
use Rattle.k_evaluation.specs.declared.flow.Flow.{Flow}
use Rattle.k_evaluation.specs.declared.flow.Flow.TheVariants.{Normal, Broke, Continued, Returned}
use Rattle.k_evaluation.specs.States.{Program, State, Outcome, Goes, Stops, Part, follow, ◌>>=◌, gives, traps, read, sets, control, settles, region}
use Rattle.k_evaluation.specs.Objects.{makes_object, fills, block}
use Rattle.k_marks_meaning.specs.Jumps.{is_left}
use Rattle.k_evaluation.specs.Meanings.{tests, holds}
use Rattle.k_evaluation.specs.Assignments.{writes}
use Rattle.k_evaluation.specs.Expressions.{Calls}
use Rattle.k_evaluation.specs.Flows.{Doing, Within, means, drops, tests_at, goes_on, unless_left, in_order}
use Rattle.k_evaluation.specs.Loops.{LoopParts, Turn, Again, Ends, turn_of, resets, starts, stays_behind_body, stays_behind_loop, step_or_end, behind_body, turn, turn_if, turns, all_turns, begins, inside_loop, loop, loop_region, test_or_one, step_or_none, loop_parts, source_loop, while_loop, do_loop}
use Rattle.k_evaluation.specs.Declarations.{stores, initialises, begins_register, values_from, element_of, stores_item, stores_items, begins_object, begins_variable, declares_by, elements_of, declares, declares_all, starts_with}
use Rattle.k_evaluation.specs.Switches.{PartDoing, ACase, ADefault, AStatement, statements_of, behind_default, has_case, selects, chooses, behind_switch, runs_chosen, switches, switch_jumps, switch}
use Rattle.k_evaluation.specs.Statements.{expression, empty, compound, does_or_none, chosen_arm, if_jumps, if_else, for_loop, break, continue, returns_moved, returns_value, return, declaration, does_step, part_step, does}
use Rattle.k_evaluation.specs.Calls.{serves_by, serves, falls_off, at_end, result_of, function_region, within, body, runs, is_too_large, entered, back_to, enters_function, enters_number, calls_operation, calls}
use Rattle.k_optab.specs.declared.event.Event.{Event}
use Rattle.k_optab.specs.Instances.{Balanced}
use Rattle.k_regions.specs.declared.loops.LoopAt.{LoopAt}
use Rattle.k_regions.specs.Regions.{Located, find, find_part, loops_of, loops_of_all}
use Rattle.k_regions.specs.Regions as regions
use Rattle.k_regions.proofs.Added.{Policy, Added, AddsUp, all_free, on_credit, pays, to_spare, spared, spent_behind, none_added, weaker, Leaves, Spends, Adds, leaves_from, then_spends, then_adds, more_spends, credited, between_spends, gives_adds, traps_adds, sets_adds, control_adds, settles_adds, settled_spends, region_spends, block_spends, makes_object_adds, fills_adds, makes_spends, makes_adds, computes_adds}
use Rattle.k_regions.proofs.Rows.{MeaningAdds, CallsAdd, writes_adds, eval_adds}

module _ (P : Policy) where
  -- STATEMENTS: so many regions may be entered on credit
  abbrev DoingAdds : ℕ → Doing → Type 0
  DoingAdds w s = Spends P w 0 s.does

  abbrev PartAdds : ℕ → PartDoing → Type 0
  PartAdds w (ACase place z) = Unit {0}
  PartAdds w ADefault = Unit {0}
  PartAdds w (AStatement s) = DoingAdds w s

  -- by several together
  abbrev Together : {A : Type 0} → (ℕ → A → Type 0) → ℕ → List A → Type 0
  Together Q w [] = Unit {0}
  Together Q w (x ∷ xs) = (c : ℕ) × (d : ℕ) × (c + d ≤ w) × Q c x × Together Q d xs

  abbrev AllAdd : ℕ → List Doing → Type 0
  AllAdd w ss = Together DoingAdds w ss

  abbrev PartsAdd : ℕ → List PartDoing → Type 0
  PartsAdd w parts = Together PartAdds w parts

  more_adds : (v w : ℕ) (ss : List Doing) → v ≤ w → AllAdd v ss → AllAdd w ss
  more_adds v w [] le h = tt
  more_adds v w (s ∷ ss) le (c, d, both, one, rest) = (c, d, omega (arith, both, le), one, rest)

  unless_left_adds : (w : ℕ) (next : Part Flow) → Spends P w 0 next → (flow : Flow) → Spends P w 0 (unless_left next flow)
  unless_left_adds w next h Normal = h
  unless_left_adds w next h Broke = credited P w (gives Broke) (gives_adds P Broke)
  unless_left_adds w next h Continued = credited P w (gives Continued) (gives_adds P Continued)
  unless_left_adds w next h (Returned v) = credited P w (gives (Returned v)) (gives_adds P (Returned v))

  in_order_adds : (w : ℕ) (ss : List Doing) → AllAdd w ss → Spends P w 0 (in_order ss)
  in_order_adds w [] h = credited P w (gives Normal) (gives_adds P Normal)
  in_order_adds w (s ∷ ss) (c, d, both, one, rest) =
      then_spends P (on_credit c d w both) s.does (unless_left (in_order ss)) one (unless_left_adds d (in_order ss) (in_order_adds d ss rest))

  -- LOOPS: the test pays for the turn behind it, so one turn is on credit
  record LoopAdds (w : ℕ) (l : LoopParts) : Type 0 where
    test : Spends P 0 P.price l.test
    step : Adds P l.step
    body : Spends P w 0 l.body
    payable : w ≤ P.price

  module _ (w : ℕ) (l : LoopParts) (h : LoopAdds w l) (before : Option ℕ) where
    starts_adds : {A : Type 0} {c b : ℕ} (up : AddsUp 0 0 c b c b) (part : Part A) → Spends P c b part → Spends P c b (starts l before part)
    starts_adds up part k = then_spends P up (resets l.counted before) (λ ready. part) (settles_adds P _ before) (λ ready. k)

    step_or_end_adds : (next : Part Flow) → Adds P next → (t : Turn) → Adds P (step_or_end l before next t)
    step_or_end_adds next k Again = then_adds P (starts l before l.step) (λ done. next) (starts_adds all_free l.step h.step) (λ done. k)
    step_or_end_adds next k (Ends flow) = gives_adds P flow

    turn_adds : (next : Part Flow) → Adds P next → (last : Option ℕ) → Spends P w 0 (turn l before next last)
    turn_adds next k last =
        then_spends P (on_credit w 0 w (omega arith)) (starts l before l.body) (behind_body l before next last) (starts_adds (on_credit 0 w w (omega arith)) l.body h.body)
        (λ flow. then_adds P (settles (stays_behind_body l.jumps) last) (λ done. step_or_end l before next (turn_of flow)) (settles_adds P (stays_behind_body l.jumps) last)
        (λ done. step_or_end_adds next k (turn_of flow)))

    turn_if_adds : (next : Part Flow) → Adds P next → (test : Held) → Spends P P.price 0 (turn_if l before next test)
    turn_if_adds next k test = by (holds test)
      where
        by : (b : Bool) → Spends P P.price 0 (if b then turn l before next test.source else gives Normal)
        by true = more_spends P w P.price (turn l before next test.source) h.payable (turn_adds next k test.source)
        by false = credited P P.price (gives Normal) (gives_adds P Normal)

    turns_adds : (n : ℕ) → Adds P (turns n l before)
    unfolding turns
    turns_adds zero = record { adds = λ s. (tt, none_added P s.world.events s.world.events refl) }
    turns_adds (suc n) = record {
      adds = (then_spends P (pays P.price) (starts l before l.test) (turn_if l before (turns n l before)) (starts_adds (to_spare P.price) l.test h.test)
          (turn_if_adds (turns n l before) (turns_adds n))).adds;
    }

    all_turns_adds : Adds P (all_turns l before)
    all_turns_adds = record { adds = λ s. (turns_adds (s.world.left + 1)).adds s }

    begins_adds : (tested : Bool) → Spends P w 0 (begins l tested before)
    begins_adds true = credited P w (all_turns l before) all_turns_adds
    begins_adds false = turn_adds (all_turns l before) all_turns_adds before

  loop_adds : (w : ℕ) (l : LoopParts) (number : ℕ) (tested : Bool) → P.Allows number → LoopAdds w l → Spends P (1 + w) 0 (loop l number tested)
  loop_adds w l number tested one h =
      between_spends P (1 + w) control (inside_loop l number tested) (λ before flow. settles (stays_behind_loop l.counted l.jumps) before) (control_adds P)
      (λ before. region_spends P number w 0 (begins l tested before) one (begins_adds w l h before tested))
      (λ before flow. settles_adds P (stays_behind_loop l.counted l.jumps) before)

  -- SWITCHES: what is chosen may enter so many regions on credit
  abbrev ChoiceLeaves : ℕ → List Event → Outcome (List Doing) → Type 0
  ChoiceLeaves w u (Goes chosen t) = AllAdd w chosen × Leaves P 0 0 u (Goes chosen t)
  ChoiceLeaves w u (Stops end x) = Leaves {A = List Doing} P 0 0 u (Stops end x)

  record ChoiceAdds (w : ℕ) (part : Part (List Doing)) : Type 0 where
    adds : (s : State) → ChoiceLeaves w s.world.events (part s)

  choice_from : (w : ℕ) (u v : List Event) (o : Outcome (List Doing)) → (h : Added P 0 0 u v) → Balanced h.events → ChoiceLeaves w v o → ChoiceLeaves w u o
  choice_from w u v (Goes chosen t) h b k = (k.0, leaves_from P all_free u v (Goes chosen t) h b k.1)
  choice_from w u v (Stops end x) h b k = leaves_from P {A = List Doing} all_free u v (Stops end x) h b k

  choice_follow : (w : ℕ) (u : List Event) (o : Outcome Held) (next : Held → Part (List Doing)) → Leaves P 0 0 u o → ((a : Held) → ChoiceAdds w (next a)) → ChoiceLeaves w u (follow o next)
  choice_follow w u (Goes a t) next h k = choice_from w u t.world.events (next a t) h.0 h.1 ((k a).adds t)
  choice_follow w u (Stops end x) next h k = h

  statements_adds : (w : ℕ) (parts : List PartDoing) → PartsAdd w parts → AllAdd w (statements_of parts)
  statements_adds w [] h = tt
  statements_adds w (ACase place z ∷ parts) (c, d, both, one, rest) = more_adds d w (statements_of parts) (omega (arith, both)) (statements_adds d parts rest)
  statements_adds w (ADefault ∷ parts) (c, d, both, one, rest) = more_adds d w (statements_of parts) (omega (arith, both)) (statements_adds d parts rest)
  statements_adds w (AStatement s ∷ parts) (c, d, both, one, rest) = (c, d, both, one, statements_adds d parts rest)

  default_adds : (w : ℕ) (parts : List PartDoing) → PartsAdd w parts → AllAdd w (behind_default parts)
  default_adds w [] h = tt
  default_adds w (ACase place z ∷ parts) (c, d, both, one, rest) = more_adds d w (behind_default parts) (omega (arith, both)) (default_adds d parts rest)
  default_adds w (ADefault ∷ parts) (c, d, both, one, rest) = more_adds d w (statements_of parts) (omega (arith, both)) (statements_adds d parts rest)
  default_adds w (AStatement s ∷ parts) (c, d, both, one, rest) = more_adds d w (behind_default parts) (omega (arith, both)) (default_adds d parts rest)

  selects_adds : (program : Program) (kind : Kind) (place : Place) (z : ℤ) (on : Operand) → Adds P (selects program kind place z on)
  selects_adds program kind place z on =
      then_adds P _ _ (computes_adds P program class.Simple place (act.Binary bin.Eq kind) (on ∷ Constant (value.Number z) ∷ []))
      (λ same. makes_adds P program class.Select place act.Test (same ∷ []))

  gives_choice : (w : ℕ) (chosen : List Doing) → AllAdd w chosen → ChoiceAdds w (gives chosen)
  gives_choice w chosen h = record { adds = λ s. (h, (gives_adds P chosen).adds s) }

  choose_by : (w : ℕ) (program : Program) (kind : Kind) (on : Operand) (default : List Doing) (parts : List PartDoing) (b : Bool) → AllAdd w (statements_of parts)
      → ChoiceAdds w (chooses program kind on default parts) → ChoiceAdds w (if b then gives (statements_of parts) else chooses program kind on default parts)
  choose_by w program kind on default parts true h k = gives_choice w (statements_of parts) h
  choose_by w program kind on default parts false h k = k

  -- these parts may enter no more than all of them
  chooses_adds : (v w : ℕ) (program : Program) (kind : Kind) (on : Operand) (default : List Doing) (parts : List PartDoing) → v ≤ w → AllAdd w default → PartsAdd v parts
      → ChoiceAdds w (chooses program kind on default parts)
  chooses_adds v w program kind on default [] le h k = gives_choice w default h
  chooses_adds v w program kind on default (ACase place z ∷ parts) le h (c, d, both, one, rest) = record {
    adds =
        λ s. choice_follow w s.world.events (selects program kind place z on s)
        (λ select. if holds select then gives (statements_of parts) else chooses program kind on default parts)
        ((selects_adds program kind place z on).adds s)
        (λ select. choose_by w program kind on default parts (holds select) (more_adds d w (statements_of parts) (omega (arith, both, le)) (statements_adds d parts rest))
        (chooses_adds d w program kind on default parts (omega (arith, both, le)) h rest));
  }
  chooses_adds v w program kind on default (ADefault ∷ parts) le h (c, d, both, one, rest) = chooses_adds d w program kind on default parts (omega (arith, both, le)) h rest
  chooses_adds v w program kind on default (AStatement s ∷ parts) le h (c, d, both, one, rest) = chooses_adds d w program kind on default parts (omega (arith, both, le)) h rest

  runs_chosen_adds : (w : ℕ) (chosen : List Doing) → AllAdd w chosen → Spends P w 0 (runs_chosen chosen)
  runs_chosen_adds w chosen h =
      then_spends P (on_credit w 0 w (omega arith)) (in_order chosen) (λ flow. gives (behind_switch flow)) (in_order_adds w chosen h) (λ flow. gives_adds P (behind_switch flow))

  choice_runs : (w : ℕ) (u : List Event) (o : Outcome (List Doing)) → ChoiceLeaves w u o → Leaves P w 0 u (follow o runs_chosen)
  choice_runs w u (Goes chosen t) h = leaves_from P (on_credit 0 w w (omega arith)) u t.world.events (runs_chosen chosen t) h.1.0 h.1.1 ((runs_chosen_adds w chosen h.0).adds t)
  choice_runs w u (Stops end x) h = (h.0, weaker P 0 0 w 0 u x.events (omega arith) h.1)

  switches_adds : (w : ℕ) (program : Program) (kind : Kind) (parts : List PartDoing) (on : Operand) → PartsAdd w parts → Spends P w 0 (switches program kind parts on)
  switches_adds w program kind parts on h = record {
    adds =
        λ s. choice_runs w s.world.events (chooses program kind on (behind_default parts) parts s)
        ((chooses_adds w w program kind on (behind_default parts) parts (omega arith) (default_adds w parts h) h).adds s);
  }

  -- the regions of these loops of the function of this number may be entered, and those of their bodies, and an operation pays for them all
  abbrev pub LoopsHold : ℕ → List LoopAt → Type 0
  LoopsHold n [] = Unit {0}
  LoopsHold n (l ∷ loops) = P.Allows (loop_region n l.number) × P.Allows (loop_region n l.number + 1) × (2 + 2 * length loops ≤ P.price) × LoopsHold n loops

  -- so many regions are entered on credit where each of these loops begins
  abbrev spent : List LoopAt → ℕ
  spent loops = 2 * length loops

  spent_both : (xs ys : List LoopAt) → spent xs + spent ys ≤ spent (xs ++ ys)
  spent_both xs ys = let both : length (xs ++ ys) ≡ length xs + length ys = length-append xs ys in omega (arith, both)

  loops_first : (n : ℕ) (xs ys : List LoopAt) → LoopsHold n (xs ++ ys) → LoopsHold n xs
  loops_first n [] ys h = tt
  loops_first n (l ∷ xs) ys h =
      let pays : 2 + spent (xs ++ ys) ≤ P.price = h.2 in
      let both : spent xs + spent ys ≤ spent (xs ++ ys) = spent_both xs ys in
      (h.0, h.1, omega (arith, pays, both), loops_first n xs ys h.3)

  loops_second : (n : ℕ) (xs ys : List LoopAt) → LoopsHold n (xs ++ ys) → LoopsHold n ys
  loops_second n [] ys h = h
  loops_second n (l ∷ xs) ys h = loops_second n xs ys h.3

  module _ (program : Program) (function : ℕ) (vs : List TVariable) (calls : Calls) (calls_adds : CallsAdd P calls) where
    abbrev here : Within
    here = record { program = program; function = function; vars = vs; calls = calls }

    means_adds : (e : TExpr) → MeaningAdds P (means here e)
    means_adds e = eval_adds P program vs calls calls_adds e

    drops_adds : (e : TExpr) → Adds P (drops here e)
    drops_adds e = then_adds P ((means here e).value false) (λ a. gives {A = Unit {0}} tt) ((means_adds e).value false) (λ a. gives_adds P {A = Unit {0}} tt)

    -- a test pays for what follows
    tests_at_adds : (place : Place) (e : TExpr) → Spends P 0 P.price (tests_at here place e)
    tests_at_adds place e =
        then_spends P (to_spare P.price) ((means here e).value true) (tests program place) ((means_adds e).value true) (λ a. makes_spends P program class.Test place act.Test (a ∷ []))

    goes_on_adds : (part : Part (Unit {0})) → Adds P part → Adds P (goes_on part)
    goes_on_adds part h = then_adds P part (λ done. gives Normal) h (λ done. gives_adds P Normal)

    -- DECLARATIONS
    initialises_adds : (d : TDeclarator) (e : TExpr) (target : Target) → Adds P (initialises here d e target)
    initialises_adds d e target =
        then_adds P ((means here e).value true) (λ a. writes program d.place target a >>= λ v. gives {A = Unit {0}} tt) ((means_adds e).value true)
        (λ a. then_adds P (writes program d.place target a) (λ v. gives {A = Unit {0}} tt) (writes_adds P program d.place target a) (λ v. gives_adds P {A = Unit {0}} tt))

    begins_register_adds : (d : TDeclarator) (i : TInit) → Adds P (begins_register here d i)
    begins_register_adds d init.Nothing = sets_adds P d.variable None
    begins_register_adds d (init.Value e) = initialises_adds d e (InRegister d.variable false)
    begins_register_adds d (init.Elements items) = gives_adds P {A = Unit {0}} tt

    stores_item_adds : (home : Held) (i : TItem) → Adds P (stores_item here home i)
    stores_item_adds home (item.Bytes n bytes) = gives_adds P {A = Unit {0}} tt
    stores_item_adds home (item.Value place n e) =
        then_adds P ((means here e).value true) (stores program place (element_of home n)) ((means_adds e).value true)
        (λ a. then_adds P _ _ (computes_adds P program class.Store place act.Store (element_of home n ∷ a ∷ [])) (λ v. gives_adds P {A = Unit {0}} tt))

    stores_items_adds : (home : Held) (items : List TItem) → Adds P (stores_items here home items)
    stores_items_adds home [] = gives_adds P {A = Unit {0}} tt
    stores_items_adds home (i ∷ items) =
        then_adds P (stores_item here home i) (λ done. stores_items here home items) (stores_item_adds home i) (λ done. stores_items_adds home items)

    begins_object_adds : (d : TDeclarator) (i : TInit) (home : Held) → Adds P (begins_object here d i home)
    begins_object_adds d init.Nothing home = gives_adds P {A = Unit {0}} tt
    begins_object_adds d (init.Value e) home = initialises_adds d e (InMemory (Constant home.value))
    begins_object_adds d (init.Elements items) home =
        then_adds P (fills home (values_from items)) (λ done. stores_items here home items) (fills_adds P home (values_from items)) (λ done. stores_items_adds home items)

    declares_by_adds : (d : TDeclarator) (n : ℕ) → Adds P (declares_by here d n)
    declares_by_adds d zero = begins_register_adds d d.init
    declares_by_adds d (suc n) =
        then_adds P (makes_object d.place Unset (suc n)) (begins_variable here d) (makes_object_adds P d.place Unset (suc n))
        (λ home. then_adds P (sets d.variable (Some home)) (λ done. begins_object here d d.init home) (sets_adds P d.variable (Some home)) (λ done. begins_object_adds d d.init home))

    declares_adds : (d : TDeclarator) → Adds P (declares here d)
    unfolding declares
    declares_adds d = declares_by_adds d (elements_of (slice_get vs d.variable))

    declares_all_adds : (ds : List TDeclarator) → Adds P (declares_all here ds)
    declares_all_adds [] = gives_adds P {A = Unit {0}} tt
    declares_all_adds (d ∷ ds) = then_adds P (declares here d) (λ done. declares_all here ds) (declares_adds d) (λ done. declares_all_adds ds)

    starts_with_adds : (f : TFirst) → Adds P (starts_with here f)
    starts_with_adds first.Nothing = gives_adds P {A = Unit {0}} tt
    starts_with_adds (first.Value e) = drops_adds e
    starts_with_adds (first.Declare list) = declares_all_adds list

    -- LOOPS OF THE SOURCE
    test_adds : (place : Place) (test : Option TExpr) → Spends P 0 P.price (test_or_one here place test)
    test_adds place None = makes_spends P program class.Test place act.Test (Constant (value.Number (pos 1)) ∷ [])
    test_adds place (Some e) = tests_at_adds place e

    step_adds : (step : Option TExpr) → Adds P (step_or_none here step)
    step_adds None = gives_adds P {A = Unit {0}} tt
    step_adds (Some e) = drops_adds e

    module _ (number w : ℕ) (itself : P.Allows (loop_region function number)) (its_body : P.Allows (loop_region function number + 1)) (payable : 2 + w ≤ P.price) where
      source_loop_adds : (spot : Spot) (test step : Option TExpr) (d : Doing) (tested : Bool) → DoingAdds w d → Spends P (2 + w) 0 (source_loop here spot number test step d tested)
      source_loop_adds spot test step d tested c =
          more_spends P (1 + (1 + w)) (2 + w) (source_loop here spot number test step d tested) (omega arith)
          (loop_adds (1 + w) (loop_parts here spot.place number test step d) (loop_region function number) tested itself
          (record { test = test_adds spot.place test; step = step_adds step; body = region_spends P (loop_region function number + 1) w 0 d.does its_body c; payable = omega (arith, payable) }))

      while_adds : (spot : Spot) (test : TExpr) (d : Doing) → DoingAdds w d → DoingAdds (2 + w) (while_loop here spot number test d)
      unfolding while_loop
      while_adds spot test d c = source_loop_adds spot (Some test) None d true c

      do_adds : (spot : Spot) (d : Doing) (test : TExpr) → DoingAdds w d → DoingAdds (2 + w) (do_loop here spot number d test)
      unfolding do_loop
      do_adds spot d test c = source_loop_adds spot (Some test) None d false c

      for_adds : (spot : Spot) (start : TFirst) (test step : Option TExpr) (d : Doing) → DoingAdds w d → DoingAdds (2 + w) (for_loop here spot number start test step d)
      unfolding for_loop
      for_adds spot start test step d c =
          block_spends P (2 + w) (starts_with here start >>= λ done. source_loop here spot number test step d true)
          (then_spends P (on_credit 0 (2 + w) (2 + w) (omega arith)) (starts_with here start) (λ done. source_loop here spot number test step d true) (starts_with_adds start)
          (λ done. source_loop_adds spot test step d true c))

    -- THE OTHERS
    expression_adds : (e : TExpr) → DoingAdds 0 (expression here e)
    unfolding expression
    expression_adds e = goes_on_adds (drops here e) (drops_adds e)

    empty_adds : DoingAdds 0 empty
    unfolding empty
    empty_adds = gives_adds P Normal

    compound_adds : (w : ℕ) (parts : List Doing) → AllAdd w parts → DoingAdds w (compound parts)
    unfolding compound
    compound_adds w parts h = block_spends P w (in_order parts) (in_order_adds w parts h)

    if_adds : (w : ℕ) (spot : Spot) (test : TExpr) (a : Doing) (b : Option Doing) → DoingAdds w a → Spends P w 0 (does_or_none b) → DoingAdds w (if_else here spot test a b)
    unfolding if_else
    if_adds w spot test a b one two =
        settled_spends P w (is_left (if_jumps a b)) (tests_at here spot.place test >>= chosen_arm a.does (does_or_none b))
        (then_spends P (spent_behind w P.price) (tests_at here spot.place test) (chosen_arm a.does (does_or_none b)) (tests_at_adds spot.place test) (λ t. by (holds t)))
      where
        by : (chosen : Bool) → Spends P w 0 (if chosen then a.does else does_or_none b)
        by true = one
        by false = two

    switch_adds : (w : ℕ) (kind : Kind) (on : TExpr) (parts : List PartDoing) → PartsAdd w parts → DoingAdds w (switch here kind on parts)
    unfolding switch
    switch_adds w kind on parts k =
        settled_spends P w (is_left (switch_jumps parts)) ((means here on).value (has_case parts) >>= switches program kind parts)
        (then_spends P (on_credit 0 w w (omega arith)) ((means here on).value (has_case parts)) (switches program kind parts) ((means_adds on).value (has_case parts))
        (λ a. switches_adds w program kind parts a k))

    break_adds : DoingAdds 0 break
    unfolding break
    break_adds = gives_adds P Broke

    continue_adds : DoingAdds 0 continue
    unfolding continue
    continue_adds = gives_adds P Continued

    returned_adds : (place : Place) (e : Option TExpr) → Adds P (returns_value here place e)
    returned_adds place None = gives_adds P (Returned None)
    returned_adds place (Some e) =
        then_adds P ((means here e).value true) (returns_moved program place) ((means_adds e).value true)
        (λ a. then_adds P _ _ (makes_adds P program class.Move place act.Move (a ∷ [])) (λ held. gives_adds P (Returned (Some held))))

    return_adds : (spot : Spot) (e : Option TExpr) → DoingAdds 0 (return here spot e)
    unfolding return
    return_adds spot e = returned_adds spot.place e

    declaration_adds : (list : List TDeclarator) → DoingAdds 0 (declaration here list)
    unfolding declaration
    declaration_adds list = goes_on_adds (declares_all here list) (declares_all_adds list)

    -- A STATEMENT
    abbrev part_does : TPart → PartDoing
    part_does = fold-TPart PartDoing Doing part_step (does_step here)

    abbrev OfPart : TPart → Type 0
    OfPart p = LoopsHold function (find_part p).loops → PartAdds (spent (find_part p).loops) (part_does p)

    abbrev OfStmt : TStmt → Type 0
    OfStmt s = LoopsHold function (find s).loops → DoingAdds (spent (find s).loops) (does here s)

    abbrev Stmts : Type 0
    Stmts = List ((s : TStmt) × OfStmt s)

    abbrev Parts : Type 0
    Parts = List ((p : TPart) × OfPart p)

    all_do : (items : Stmts) → (let loops : List LoopAt = loops_of_all (map find (map (λ (x : (s : TStmt) × OfStmt s). x.0) items)) in
        LoopsHold function loops → AllAdd (spent loops) (map (does here) (map (λ (x : (s : TStmt) × OfStmt s). x.0) items)))
    all_do [] h = tt
    all_do (x ∷ items) h =
        let own : List LoopAt = (find x.0).loops in
        let rest : List LoopAt = loops_of_all (map find (map (λ (x : (s : TStmt) × OfStmt s). x.0) items)) in
        (spent own, spent rest, spent_both own rest, x.1 (loops_first function own rest h), all_do items (loops_second function own rest h))

    parts_do : (items : Parts) → (let loops : List LoopAt = loops_of_all (map find_part (map (λ (x : (p : TPart) × OfPart p). x.0) items)) in
        LoopsHold function loops → PartsAdd (spent loops) (map part_does (map (λ (x : (p : TPart) × OfPart p). x.0) items)))
    parts_do [] h = tt
    parts_do (x ∷ items) h =
        let own : List LoopAt = (find_part x.0).loops in
        let rest : List LoopAt = loops_of_all (map find_part (map (λ (x : (p : TPart) × OfPart p). x.0) items)) in
        (spent own, spent rest, spent_both own rest, x.1 (loops_first function own rest h), parts_do items (loops_second function own rest h))

    -- the same of the layers of a tree
    abbrev PartLayer : TPart-F TPart TStmt → Type 0
    PartLayer z =
        let loops : List LoopAt = (regions.part_step (map-TPart TPart TStmt Located Located find_part find z)).loops in
        LoopsHold function loops → PartAdds (spent loops) (part_step (map-TPart TPart TStmt PartDoing Doing part_does (does here) z))

    abbrev StmtLayer : TStmt-F TPart TStmt → Type 0
    StmtLayer z =
        let loops : List LoopAt = (regions.stmt_step (map-TStmt TPart TStmt Located Located find_part find z)).loops in
        LoopsHold function loops → DoingAdds (spent loops) (does_step here (map-TStmt TPart TStmt PartDoing Doing part_does (does here) z))

    part_by : (y : TPart-F ((p : TPart) × OfPart p) ((s : TStmt) × OfStmt s)) → PartLayer (map-TPart _ _ TPart TStmt (λ (x : (p : TPart) × OfPart p). x.0) (λ (x : (s : TStmt) × OfStmt s). x.0) y)
    part_by (TPart-F.Case place z) h = tt
    part_by (TPart-F.Default place) h = tt
    part_by (TPart-F.Does place s) h = s.1 h

    -- an arm may enter as many as both
    first_adds : (xs ys : List LoopAt) (d : Doing) → DoingAdds (spent xs) d → DoingAdds (spent (xs ++ ys)) d
    first_adds xs ys d h = let both : spent xs + spent ys ≤ spent (xs ++ ys) = spent_both xs ys in more_spends P (spent xs) (spent (xs ++ ys)) d.does (omega (arith, both)) h

    second_adds : (xs ys : List LoopAt) (d : Doing) → DoingAdds (spent ys) d → DoingAdds (spent (xs ++ ys)) d
    second_adds xs ys d h = let both : spent xs + spent ys ≤ spent (xs ++ ys) = spent_both xs ys in more_spends P (spent ys) (spent (xs ++ ys)) d.does (omega (arith, both)) h

    -- a loop and those in its body
    looped_adds : (loops : List LoopAt) (d : Doing) → DoingAdds (2 + spent loops) d → DoingAdds (2 * suc (length loops)) d
    looped_adds loops d h = more_spends P (2 + spent loops) (2 * suc (length loops)) d.does (omega arith) h

    stmt_by : (y : TStmt-F ((p : TPart) × OfPart p) ((s : TStmt) × OfStmt s)) → StmtLayer (map-TStmt _ _ TPart TStmt (λ (x : (p : TPart) × OfPart p). x.0) (λ (x : (s : TStmt) × OfStmt s). x.0) y)
    stmt_by (TStmt-F.Expr spot e) h = expression_adds e
    stmt_by (TStmt-F.Empty spot) h = empty_adds
    stmt_by (TStmt-F.Block spot parts) h = compound_adds _ (map (does here) (map (λ (x : (s : TStmt) × OfStmt s). x.0) parts)) (all_do parts h)
    stmt_by (TStmt-F.If spot test a None) h =
        let loops : List LoopAt = (find a.0).loops in
        if_adds (spent (loops ++ [])) spot test (does here a.0) None (first_adds loops [] (does here a.0) (a.1 (loops_first function loops [] h)))
        (credited P (spent (loops ++ [])) (gives Normal) (gives_adds P Normal))
    stmt_by (TStmt-F.If spot test a (Some b)) h =
        let first : List LoopAt = (find a.0).loops in
        let second : List LoopAt = (find b.0).loops in
        if_adds (spent (first ++ second)) spot test (does here a.0) (Some (does here b.0)) (first_adds first second (does here a.0) (a.1 (loops_first function first second h)))
        (second_adds first second (does here b.0) (b.1 (loops_second function first second h)))
    stmt_by (TStmt-F.While spot number test a) h =
        let loops : List LoopAt = (find a.0).loops in
        looped_adds loops (while_loop here spot number test (does here a.0)) (while_adds number (spent loops) h.0 h.1 h.2 spot test (does here a.0) (a.1 h.3))
    stmt_by (TStmt-F.DoWhile spot number a test) h =
        let loops : List LoopAt = (find a.0).loops in
        looped_adds loops (do_loop here spot number (does here a.0) test) (do_adds number (spent loops) h.0 h.1 h.2 spot (does here a.0) test (a.1 h.3))
    stmt_by (TStmt-F.For spot number start test step a) h =
        let loops : List LoopAt = (find a.0).loops in
        looped_adds loops (for_loop here spot number start test step (does here a.0)) (for_adds number (spent loops) h.0 h.1 h.2 spot start test step (does here a.0) (a.1 h.3))
    stmt_by (TStmt-F.Switch spot kind on parts) h = switch_adds _ kind on (map part_does (map (λ (x : (p : TPart) × OfPart p). x.0) parts)) (parts_do parts h)
    stmt_by (TStmt-F.Break spot) h = break_adds
    stmt_by (TStmt-F.Continue spot) h = continue_adds
    stmt_by (TStmt-F.Return spot e) h = return_adds spot e
    stmt_by (TStmt-F.Declare spot list) h = declaration_adds list

    does_adds : (s : TStmt) → LoopsHold function (find s).loops → DoingAdds (spent (find s).loops) (does here s)
    does_adds =
        ind-TStmt OfPart OfStmt
        (λ x y is.
        subst (λ (p : PartDoing). LoopsHold function (find_part (roll-TPart x)).loops → PartAdds (spent (find_part (roll-TPart x)).loops) p) (sym (fold-roll-TPart PartDoing Doing part_step (does_step here) x))
        (subst (λ (f : Located). LoopsHold function f.loops → PartAdds (spent f.loops) (part_step (map-TPart TPart TStmt PartDoing Doing part_does (does here) x)))
        (sym (fold-roll-TPart Located Located regions.part_step regions.stmt_step x)) (subst PartLayer is (part_by y))))
        (λ x y is.
        subst (λ (d : Doing). LoopsHold function (find (roll-TStmt x)).loops → DoingAdds (spent (find (roll-TStmt x)).loops) d) (sym (fold-roll-TStmt PartDoing Doing part_step (does_step here) x))
        (subst (λ (f : Located). LoopsHold function f.loops → DoingAdds (spent f.loops) (does_step here (map-TStmt TPart TStmt PartDoing Doing part_does (does here) x)))
        (sym (fold-roll-TStmt Located Located regions.part_step regions.stmt_step x)) (subst StmtLayer is (stmt_by y))))

    all_statements : (list : List TStmt) → LoopsHold function (loops_of_all (map find list)) → AllAdd (spent (loops_of_all (map find list))) (map (does here) list)
    all_statements [] h = tt
    all_statements (s ∷ list) h =
        let own : List LoopAt = (find s).loops in
        let rest : List LoopAt = loops_of_all (map find list) in
        (spent own, spent rest, spent_both own rest, does_adds s (loops_first function own rest h), all_statements list (loops_second function own rest h))

  -- CALLS
  module _ (program : Program) where
    serves_by_adds : (place : Place) (n count : ℕ) → Adds P (serves_by program place n count)
    serves_by_adds place n zero = gives_adds P {A = Unit {0}} tt
    serves_by_adds place n (suc count) =
        then_adds P (makes_object place Unset (suc count)) _ (makes_object_adds P place Unset (suc count))
        (λ home. then_adds P _ _ (makes_adds P program class.Store place act.Store (Constant home.value ∷ Register n false ∷ [])) (λ held. sets_adds P n (Some home)))

    serves_adds : (n count : ℕ) (vs : List TVariable) → Adds P (serves program n count vs)
    serves_adds n zero vs = gives_adds P {A = Unit {0}} tt
    serves_adds n (suc count) [] = gives_adds P {A = Unit {0}} tt
    serves_adds n (suc count) (v ∷ vs) =
        then_adds P (serves_by program v.place n v.elements) (λ done. serves program (n + 1) count vs) (serves_by_adds v.place n v.elements) (λ done. serves_adds (n + 1) count vs)

    falls_off_adds : (main : Bool) (close : Place) → Adds P (falls_off main close)
    falls_off_adds true close = gives_adds P _
    falls_off_adds false close = traps_adds P FallOff close

    at_end_adds : (number : ℕ) (close : Place) (of : TType) → Adds P (at_end program number close of)
    at_end_adds number close ttype.Void = gives_adds P None
    at_end_adds number close (ttype.Number kind) = falls_off_adds (nat_eq number program.unit.main) close
    at_end_adds number close (ttype.Pointer target) = falls_off_adds (nat_eq number program.unit.main) close

    result_adds : (number : ℕ) (f : TFunc) (flow : Flow) → Adds P (result_of program number f flow)
    result_adds number f Normal = at_end_adds number f.close f.result
    result_adds number f Broke = at_end_adds number f.close f.result
    result_adds number f Continued = at_end_adds number f.close f.result
    result_adds number f (Returned v) = gives_adds P v

    -- what a function does in its region
    abbrev pub inside : Calls → ℕ → TFunc → Part (Option Held)
    inside inner number f = block (body program inner number f >>= result_of program number f)

    inside_adds : (inner : Calls) (number : ℕ) (f : TFunc) → CallsAdd P inner → LoopsHold number (loops_of f) → Spends P (spent (loops_of f)) 0 (inside inner number f)
    inside_adds inner number f c h =
        let w : ℕ = spent (loops_of f) in
        let does_all : Part Flow = in_order (map (does (within program inner number f)) f.body) in
        block_spends P w (body program inner number f >>= result_of program number f)
        (then_spends P (on_credit w 0 w (omega arith)) (body program inner number f) (result_of program number f)
        (then_spends P (on_credit 0 w w (omega arith)) (serves program 0 f.params f.variables) (λ served. does_all) (serves_adds 0 f.params f.variables)
        (λ served. in_order_adds w (map (does (within program inner number f)) f.body) (all_statements program number f.variables inner c f.body h)))
        (result_adds number f))

    -- the regions of the function of this number may be entered: its own, those of its loops and those of their bodies; and an operation pays for them all
    abbrev pub FunctionHolds : ℕ → TFunc → Type 0
    FunctionHolds number f = P.Allows (function_region number f) × LoopsHold number (loops_of f) × (1 + 2 * length (loops_of f) ≤ P.price)

    runs_adds : (inner : Calls) (number : ℕ) (f : TFunc) → CallsAdd P inner → FunctionHolds number f → Spends P P.price 0 (runs program inner number f)
    unfolding runs
    runs_adds inner number f c h =
        more_spends P (1 + spent (loops_of f)) P.price (region (function_region number f) (inside inner number f)) h.2
        (region_spends P (function_region number f) (spent (loops_of f)) 0 (inside inner number f) h.0 (inside_adds inner number f c h.1))

    back_adds : (u : List Event) (s : State) (o : Outcome (Option Held)) → Leaves P P.price 0 u o → Leaves P P.price 0 u (back_to s o)
    back_adds u s (Goes v t) h = h
    back_adds u s (Stops end w) h = h

    enters_adds : (inner : Calls) (number : ℕ) (place : Place) (f : TFunc) (args : List (Option Held)) → CallsAdd P inner → FunctionHolds number f
        → Spends P P.price 0 (enters_function program inner number place f args)
    enters_adds inner number place f args c h = record { adds = λ s. by s (is_too_large s.world f.nodes) }
      where
        by : (s : State) (b : Bool) → Leaves P P.price 0 s.world.events (if b then traps StackOverflow place s else back_to s (runs program inner number f (entered f args s)))
        by s true = (credited P P.price (traps StackOverflow place) (traps_adds P {A = Operand} StackOverflow place)).adds s
        by s false = back_adds s.world.events s (runs program inner number f (entered f args s)) ((runs_adds inner number f c h).adds (entered f args s))

    abbrev HoldsIfThere : ℕ → Option TFunc → Type 0
    HoldsIfThere number None = Unit {0}
    HoldsIfThere number (Some f) = FunctionHolds number f

    -- so it is with all functions
    abbrev pub ProgramHolds : Type 0
    ProgramHolds = (number : ℕ) (f : TFunc) → slice_get program.unit.functions number ≡ Some f → FunctionHolds number f

    there : ProgramHolds → (number : ℕ) → HoldsIfThere number (slice_get program.unit.functions number)
    there h number = by (slice_get program.unit.functions number) refl
      where
        by : (o : Option TFunc) → slice_get program.unit.functions number ≡ o → HoldsIfThere number o
        by None is = tt
        by (Some f) is = h number f is

    enters_number_adds : (inner : Calls) (number : ℕ) (place : Place) (f : Option TFunc) (args : List (Option Held)) → CallsAdd P inner → HoldsIfThere number f
        → Spends P P.price 0 (enters_number program inner number place f args)
    enters_number_adds inner number place None args c h = credited P P.price _ (gives_adds P _)
    enters_number_adds inner number place (Some f) args c h = enters_adds inner number place f args c h

    -- the operation of a call pays for what the call enters
    operation_adds : (place : Place) (args : List Operand) → Spends P 0 P.price (calls_operation program place args)
    operation_adds place args = record {
      adds = λ s. (then_spends P (spared P.price) _ _ (makes_spends P program class.Call place act.Call args) (λ done. gives_adds P (map (λ a. (read s a).slot) args))).adds s;
    }

    calls_adds : ProgramHolds → (n : ℕ) → CallsAdd P (calls n program)
    unfolding calls
    calls_adds h zero number place args =
        then_spends P (pays P.price) (calls_operation program place args) (λ given. traps StackOverflow place) (operation_adds place args)
        (λ given. credited P P.price (traps StackOverflow place) (traps_adds P StackOverflow place))
    calls_adds h (suc n) number place args =
        then_spends P (pays P.price) (calls_operation program place args) (enters_number program (calls n program) number place (slice_get program.unit.functions number)) (operation_adds place args)
        (λ given. enters_number_adds (calls n program) number place (slice_get program.unit.functions number) given (calls_adds h n) (there h number))

    -- what main does in its region adds such events
    pub main_adds : ProgramHolds → (number : ℕ) (f : TFunc) → slice_get program.unit.functions number ≡ Some f → Spends P (2 * length (loops_of f)) 0 (inside (calls 4095 program) number f)
    main_adds h number f is = inside_adds (calls 4095 program) number f (calls_adds h 4095) (h number f is).1
