-- Declarations: registers, and objects of the call.
use Rattle.std.proofs.Common.{ℕ, zero, suc, ◌≡◌, ◌+◌, ◌<◌, ◌≤◌, Bool, true, false, ◌&&◌, List, [], ◌∷◌, ◌++◌, length, map, take, slice_get, slice_set, Option, None, Some, option_map, nat_lt, refl, sym, subst, ap, ◌∙◌, arith}
use Rattle.std.proofs.lemmas.Bool.{and_parts, ltb-true}
use Rattle.std.proofs.lemmas.List.{length-append}
use Rattle.k_num.specs.declared.initial.Initial.{Initial}
use Rattle.k_num.specs.declared.place.Place.{Place}
use Rattle.k_optab.specs.declared.class.Class.TheVariants as class
use Rattle.k_ending.specs.declared.ending.End.TheVariants.{Trapped}
use Rattle.k_ending.specs.declared.ending.Trap.TheVariants.{MemoryLimit}
use Rattle.k_types_meaning.specs.declared.tree.declaration.TDeclarator.{TDeclarator}
use Rattle.k_types_meaning.specs.declared.tree.declaration.TInit.{TInit}
use Rattle.k_types_meaning.specs.declared.tree.declaration.TInit.TheVariants as init
use Rattle.k_types_meaning.specs.declared.tree.declaration.TItem.{TItem}
use Rattle.k_types_meaning.specs.declared.tree.declaration.TItem.TheVariants as item
use Rattle.k_types_meaning.specs.declared.tree.expression.Node.{Node}
use Rattle.k_types_meaning.specs.declared.tree.expression.TExpr.{TExpr}
use Rattle.k_types_meaning.specs.declared.tree.statement.TFirst.{TFirst}
use Rattle.k_types_meaning.specs.declared.tree.statement.TFirst.TheVariants as first_part
use Rattle.k_types_meaning.specs.declared.tree.unit.TVariable.{TVariable}
use Rattle.k_mem.specs.declared.start.Start.TheVariants.{Unset}
use Rattle.k_mem.specs.Memory.{Object}
use Rattle.k_world.specs.declared.act.Act.TheVariants as act
use Rattle.k_world.specs.declared.value.Held.{Held}
use Rattle.k_world.specs.Changes.{object_made}
use Rattle.k_world.specs.Values.{pointer_to}
use Rattle.k_world.specs.Worlds.{World}
use Rattle.k_code.specs.declared.code.Code.{Code}
use Rattle.k_code.specs.declared.instruction.Arg.{Arg}
use Rattle.k_code.specs.declared.instruction.Arg.TheVariants.{Reg}
use Rattle.k_code.specs.declared.instruction.Do.TheVariants as do_
use Rattle.k_code.specs.declared.instruction.Home.TheVariants.{Local}
use Rattle.k_code.specs.Named.{operands, register_set}
use Rattle.k_code.specs.Steps.{Run, Going, step, operation_of, alone, behind, read_of, with_slot, opened, number_of, filled_with}
use Rattle.k_code.proofs.Kept.{OneMore, made_kept, filled_numbers, get_last, live_length}
use Rattle.k_evaluation.specs.declared.flow.Flow.TheVariants.{Normal}
use Rattle.k_evaluation.specs.declared.operand.Operand.{Operand}
use Rattle.k_evaluation.specs.declared.operand.Operand.TheVariants.{Holding}
use Rattle.k_evaluation.specs.declared.operand.Target.TheVariants as target_of
use Rattle.k_evaluation.specs.Assignments as row
use Rattle.k_evaluation.specs.Declarations as part_of
use Rattle.k_evaluation.specs.Flows.{Within, goes_on}
use Rattle.k_evaluation.specs.Flows as flows
use Rattle.k_evaluation.specs.Expressions.{Calls}
use Rattle.k_evaluation.specs.Objects.{makes_object, fills, made_object}
use Rattle.k_evaluation.specs.States.{Program, State, Outcome, Goes, Stops, Part, follow, ◌>>=◌, gives, makes, read}
use Rattle.k_evaluation.specs.States as state
use Rattle.k_evaluation_control.proofs.Tidy.{made_tidy, filled_tidy}
use Rattle.k_lower_code.specs.Assignments as writes_of
use Rattle.k_lower_code.specs.Declarations as code_of
use Rattle.k_lower_code.specs.Lowered.{InRegister}
use Rattle.k_lower_code.specs.Pieces.{Piece, IsSized, only, ◌>>>◌, does, sets, instruction}
use Rattle.k_lower_code.specs.Stretches as stretches
use Rattle.k_lower_code.specs.Stretches.{Inside, Stretch, behind_objects, of_piece, nothing_done}
use Rattle.k_lower_code.proofs.Objects.{variable_size}
use Rattle.k_lower_code.proofs.Sizes.{binds_sized}
use Rattle.k_lower_runs.proofs.AssignmentRows.{agrees_set, writes_follow, writes_sized}
use Rattle.k_lower_runs.proofs.Combined.{used_follows}
use Rattle.k_lower_runs.proofs.Instructions.{alone_steps, agrees_behind, slot_here, slot_there, operation_dropped}
use Rattle.k_lower_runs.proofs.Leads.{Registers, Site, at, live_at, Agrees, Begins, HasAt, Reaches, Leads, Follows, goes_itself, leads_from, keeps_itself, has_first, has_rest, only_follows, binds, reaches_both, ends_from, ends_at}
use Rattle.k_lower_runs.proofs.Values.{Does, Same, in_register, constant, Always, IfUsed, reads_same, same_kept}
use Rattle.k_lower_runs.specs.Sound.{is_sound, init_sound, item_sound, items_sound, declarator_sound, declared_sound, first_sound}
use Rattle.k_lower_flows.proofs.Blocks.{StretchIsSized, nothing_lies, behind_lies, behind_sized}
use Rattle.k_lower_flows.proofs.Landing.{Lands, Lies, live_same, piece_lies}
use Rattle.k_evaluation_control.proofs.Rows.{CallsKeep}
use Rattle.k_evaluation_control.proofs.Statements.{declares_keeps}

-- the numbers of the live objects
abbrev pub numbers : World → List ℕ
numbers w = map (λ (o : Object). o.number) w.memory.live

-- the number of the object at a place among the live ones
pub number_at : (objects : List Object) (k n : ℕ) → slice_get (map (λ (o : Object). o.number) objects) k ≡ Some n → number_of (slice_get objects k) ≡ Some n
number_at [] k n is = is
number_at (o ∷ objects) zero n is = is
number_at (o ∷ objects) (suc k) n is = number_at objects k n is

-- the first items of a list, where more stand behind it
pub take-front : {A : Type 0} (n : ℕ) (xs ys : List A) → n ≤ length xs → take n (xs ++ ys) ≡ take n xs
take-front zero xs ys low = refl
take-front (suc n) [] ys low = absurd (omega (arith, low))
take-front (suc n) (x ∷ xs) ys low = ap (λ l. x ∷ l) (take-front n xs ys (omega (arith, low)))

module _ (code : Code) (deep count : ℕ) where
  -- A PIECE OF A CALL OF WHICH AN OBJECT HAS THIS NUMBER follows a part: where the code has it, it leads where the part does
  abbrev FollowsIn : {B : Type 0} → ℕ → ℕ → Part (Unit {0}) → Piece B → Type 0
  FollowsIn object number part piece =
      (site : Site) (first : ℕ) (s : State) (registers : Registers) → HasAt code first (piece.code first) → Begins deep count site s registers → slice_get (numbers s.world) (site.base + object) ≡ Some number
      → Leads code deep count site (Going (at site first registers s.world)) (first + piece.size) count registers (λ a new. Unit {0}) (part s)

  -- one behind another
  binds_in : (object number : ℕ) (part next : Part (Unit {0})) (piece after : Piece (Unit {0})) → IsSized piece → FollowsIn object number part piece → FollowsIn object number next after
      → FollowsIn object number (part >>= λ done. next) (piece >>> λ done. after)
  binds_in object number part next piece after sized one other site first s registers has agrees there =
      by (part s) (one site first s registers (has_first code first (piece.code first) _ has) agrees there)
    where
      by : (o : Outcome (Unit {0})) → Leads code deep count site (Going (at site first registers s.world)) (first + piece.size) count registers (λ a new. Unit {0}) o
          → Leads code deep count site (Going (at site first registers s.world)) (first + (piece.size + after.size)) count registers (λ a new. Unit {0}) (follow o (λ done. next))
      by (Goes a t) leads =
          leads_from code deep count site (Going (at site first registers s.world)) (Going (at site (first + piece.size) leads.0 t.world)) (first + (piece.size + after.size)) count registers leads.0 _ (next t) leads.1 leads.3 leads.5
          (subst (λ n. Leads code deep count site (Going (at site (first + piece.size) leads.0 t.world)) n count leads.0 (λ a new. Unit {0}) (next t))
          (let e : (first + piece.size) + after.size ≡ first + (piece.size + after.size) = omega arith in e)
          (other site (first + piece.size) t leads.0 (has_rest code first (piece.code first) _ piece.size (sized first) has) (leads.2, leads.5.tidy (live_at deep) agrees.1)
          (ap (λ l. slice_get l (site.base + object)) leads.5.numbers ∙ there)))
      by (Stops end w) leads = leads

  -- what needs no object
  in_any : (object number : ℕ) (part : Part (Unit {0})) (piece : Piece (Unit {0})) → Follows code deep count count Always part piece (λ a b new. Unit {0}) → FollowsIn object number part piece
  in_any object number part piece follows site first s registers has agrees there = follows site first s registers has agrees tt

  -- nothing happens
  nothing_follows : Follows code deep count count Always (gives {A = Unit {0}} tt) (only {A = Unit {0}} tt) (λ a b new. Unit {0})
  nothing_follows = only_follows code deep count {A = Unit {0}} {B = Unit {0}} count Always tt tt (λ a b new. Unit {0}) (λ new p. tt)

  module _ (program : Program) where
    -- a register is unset
    forgets_follow : (place : Place) (n : ℕ) → n < count → Follows code deep count count Always (state.sets n None) (does program place (do_.Forget n)) (λ a b new. Unit {0})
    unfolding alone operation_of
    forgets_follow place n below site first s registers has agrees p = (
      with_slot n None registers,
      (suc zero, alone_steps code site first s.world registers program place (do_.Forget n) has refl),
      agrees_set code deep count program s registers n None below agrees.0,
      (λ k low high. absurd (omega (arith, low, high))),
      tt,
      goes_itself s.world,
    )

    -- THE ADDRESS of an element of the call's object, in a temporary
    addresses_follow : (place : Place) (object number n r : ℕ) → (site : Site) (first : ℕ) (s : State) (registers : Registers) → HasAt code first (instruction program place (do_.Address (Local object) n r) ∷ [])
        → slice_get (numbers s.world) (site.base + object) ≡ Some number
        → Reaches code (Going (at site first registers s.world)) (Going (at site (first + 1) (with_slot r (Some (pointer_to number n)) registers) s.world))
    unfolding alone operation_of
    addresses_follow place object number n r site first s registers has there = (
      suc zero,
      alone_steps code site first s.world registers program place (do_.Address (Local object) n r) has refl
          ∙ ap (λ (o : Option ℕ). Going (at site (first + 1) (with_slot r (option_map (λ k. pointer_to k n) o) registers) s.world)) (number_at s.world.memory.live (site.base + object) number there),
    )

    module _ (function : ℕ) (vs : List TVariable) (calls : Calls) (vars_are : length vs ≡ count) where
      abbrev here : Within
      here = record { program = program; function = function; vars = vs; calls = calls }

      abbrev inside : Inside
      inside = record { program = program; function = function; vars = vs }

      -- A VALUE IS STORED in an element of the call's object
      stores_in : (place : Place) (object number n : ℕ) (e : TExpr) → Does code deep count (flows.means here e) (code_of.means inside e) → length vs ≡ count
          → FollowsIn object number ((flows.means here e).value true >>= part_of.stores program place (part_of.element_of (pointer_to number 0) n)) (code_of.stores_at inside place object n e)
      unfolding operation_of operands behind register_set
      stores_in place object number n e is temporary_is site first s registers has agrees there =
          by ((flows.means here e).value true s)
          (used_follows code deep count (flows.means here e) (code_of.means inside e) is r (omega (arith, temporary_is)) site first s registers (has_first code first (piece.code first) _ has) agrees tt)
        where
          r : ℕ
          r = length vs

          piece : Piece Arg
          piece = (code_of.means inside e).value true r

          from : Run
          from = Going (at site first registers s.world)

          rest : HasAt code (first + piece.size) (instruction program place (do_.Address (Local object) n (r + 1)) ∷ instruction program place (do_.Store (Reg (r + 1) false) piece.gives None) ∷ [])
          rest = has_rest code first (piece.code first) (instruction program place (do_.Address (Local object) n (r + 1)) ∷ instruction program place (do_.Store (Reg (r + 1) false) piece.gives None) ∷ [])
              piece.size (is.value_sized true r first) has

          home : Operand
          home = part_of.element_of (pointer_to number 0) n

          -- the store, behind the address
          store : (o : Operand) → Follows code deep count count (λ new. Same count r new o piece.gives × Same count (r + 1) new home (Reg (r + 1) false))
              (makes program class.Store place act.Store (home ∷ o ∷ [])) (does program place (do_.Store (Reg (r + 1) false) piece.gives None))
              (λ held done new. Same count r new o piece.gives × Same count (r + 1) new home (Reg (r + 1) false))
          store o = operation_dropped code deep count count (λ new. Same count r new o piece.gives × Same count (r + 1) new home (Reg (r + 1) false)) program place class.Store act.Store (home ∷ o ∷ [])
              (do_.Store (Reg (r + 1) false) piece.gives None) refl
              (λ x new agree same. ap (λ z. z ∷ read x o ∷ []) (reads_same count (r + 1) (r + 1) new x home (Reg (r + 1) false) same.1 agree)
              ∙ ap (λ z. read_of new (Reg (r + 1) false) ∷ z ∷ []) (reads_same count r r new x o piece.gives same.0 agree)) (λ held c. refl)

          stored : (o : Operand) (t : State) (new : Registers) (x : Outcome Held)
              → Leads code deep count site (Going (at site (first + piece.size + 1) new t.world)) (first + piece.size + 1 + 1) count new (λ held registers. Same count r registers o piece.gives × Same count (r + 1) registers home (Reg (r + 1) false)) x
              → Leads code deep count site (Going (at site (first + piece.size + 1) new t.world)) (first + (code_of.stores_at inside place object n e).size) count new (λ a registers. Unit {0})
              (follow (follow x (λ held. gives (Holding held))) (λ v. gives {A = Unit {0}} tt))
          stored o t new (Goes held y) leads = (
            leads.0,
            subst (λ k. Reaches code (Going (at site (first + piece.size + 1) new t.world)) (Going (at site k leads.0 y.world))) (let e : first + piece.size + 1 + 1 ≡ first + (piece.size + (1 + 0 + 1)) = omega arith in e) leads.1,
            leads.2,
            leads.3,
            tt,
            leads.5,
          )
          stored o t new (Stops end w) leads = leads

          by : (x : Outcome Operand) → Leads code deep count site from (first + piece.size) r registers (λ o new. Same count r new o piece.gives) x
              → Leads code deep count site from (first + (code_of.stores_at inside place object n e).size) count registers (λ a new. Unit {0}) (follow x (part_of.stores program place home))
          by (Stops end w) leads = leads
          by (Goes o t) leads =
              let addressed : Registers = with_slot (r + 1) (Some (pointer_to number n)) leads.0 in
              leads_from code deep count site from (Going (at site (first + piece.size + 1) addressed t.world)) (first + (code_of.stores_at inside place object n e).size) count registers addressed
              (λ a new. Unit {0}) (part_of.stores program place home o t)
              (reaches_both code from (Going (at site (first + piece.size) leads.0 t.world)) (Going (at site (first + piece.size + 1) addressed t.world)) leads.1
              (addresses_follow place object number n (r + 1) site (first + piece.size) t leads.0 (rest.0, tt)
              (ap (λ l. slice_get l (site.base + object)) leads.5.numbers ∙ there)))
              (λ k low high. absurd (omega (arith, low, high))) leads.5
              (stored o t addressed (makes program class.Store place act.Store (home ∷ o ∷ []) t)
              (store o site (first + piece.size + 1) t addressed rest.1 (agrees_behind code deep count t t.world leads.0 (r + 1) (Some (pointer_to number n)) (omega (arith, temporary_is)) leads.2, leads.5.tidy (live_at deep) agrees.1) (
                same_kept count r leads.0 addressed o piece.gives (omega (arith, temporary_is)) (λ k low high. slot_there (r + 1) (Some (pointer_to number n)) leads.0 k (λ same. omega (arith, same, high))) leads.4,
                constant (part_of.element_value (pointer_to number 0).value n) (r + 1) (omega arith) (omega arith) (slot_here (r + 1) (Some (pointer_to number n)) leads.0),
              )))

      stores_at_sized : (place : Place) (object n : ℕ) (e : TExpr) → Does code deep count (flows.means here e) (code_of.means inside e) → IsSized (code_of.stores_at inside place object n e)
      stores_at_sized place object n e is =
          binds_sized ((code_of.means inside e).value true (length vs)) (λ a. sets program place (do_.Address (Local object) n) (length vs + 1) >>> λ address. does program place (do_.Store address a None))
          (is.value_sized true (length vs)) (λ first. refl)

      module _ (fits : Node → ℕ → Bool) (each : (e : TExpr) → is_sound count fits e ≡ true → Does code deep count (flows.means here e) (code_of.means inside e)) where
        -- an item of braces
        item_in : (object number : ℕ) (i : TItem) → item_sound count fits i ≡ true → FollowsIn object number (part_of.stores_item here (pointer_to number 0) i) (code_of.stores_item inside object i)
        item_in object number (item.Bytes n bytes) sound = in_any object number (gives {A = Unit {0}} tt) (only {A = Unit {0}} tt) nothing_follows
        item_in object number (item.Value place n e) sound = stores_in place object number n e (each e sound) vars_are

        item_sized : (object : ℕ) (i : TItem) → item_sound count fits i ≡ true → IsSized (code_of.stores_item inside object i)
        item_sized object (item.Bytes n bytes) sound = λ first. refl
        item_sized object (item.Value place n e) sound = stores_at_sized place object n e (each e sound)

        items_in : (object number : ℕ) (items : List TItem) → items_sound count fits items ≡ true
            → FollowsIn object number (part_of.stores_items here (pointer_to number 0) items) (code_of.stores_items inside object items)
        items_in object number [] sound = in_any object number (gives {A = Unit {0}} tt) (only {A = Unit {0}} tt) nothing_follows
        items_in object number (i ∷ items) sound =
            let both = and_parts (item_sound count fits i) (items_sound count fits items) sound in
            binds_in object number (part_of.stores_item here (pointer_to number 0) i) (part_of.stores_items here (pointer_to number 0) items) (code_of.stores_item inside object i) (code_of.stores_items inside object items)
            (item_sized object i both.0) (item_in object number i both.0) (items_in object number items both.1)

        items_sized : (object : ℕ) (items : List TItem) → items_sound count fits items ≡ true → IsSized (code_of.stores_items inside object items)
        items_sized object [] sound = λ first. refl
        items_sized object (i ∷ items) sound =
            let both = and_parts (item_sound count fits i) (items_sound count fits items) sound in
            binds_sized (code_of.stores_item inside object i) (λ done. code_of.stores_items inside object items) (item_sized object i both.0) (items_sized object items both.1)

        -- the object's elements are set without an operation
        fills_in : (place : Place) (object number : ℕ) (values : List Initial) → FollowsIn object number (fills (pointer_to number 0) values) (does program place (do_.Fill object values))
        unfolding alone operation_of
        fills_in place object number values site first s registers has agrees there = (
          registers,
          (
            suc zero,
            alone_steps code site first s.world registers program place (do_.Fill object values) has refl
                ∙ ap (λ (o : Option ℕ). Going (at site (first + 1) registers (filled_with values o s.world))) (number_at s.world.memory.live (site.base + object) number there),
          ),
          record { length_is = agrees.0.length_is; hold = agrees.0.hold },
          keeps_itself count count registers,
          tt,
          record {
            numbers = filled_numbers s.world.memory number values;
            calls = refl;
            size = refl;
            left = omega arith;
            tidy = λ live tidy. filled_tidy live s.world number values tidy;
          },
        )

        -- AN OBJECT BEGINS
        object_in : (d : TDeclarator) (object number : ℕ) (i : TInit) → init_sound count fits i ≡ true
            → FollowsIn object number (part_of.begins_object here d i (pointer_to number 0)) (code_of.begins_object inside d object i)
        object_in d object number init.Nothing sound = in_any object number (gives {A = Unit {0}} tt) (only {A = Unit {0}} tt) nothing_follows
        object_in d object number (init.Value e) sound = stores_in d.place object number 0 e (each e sound) vars_are
        object_in d object number (init.Elements items) sound =
            binds_in object number (fills (pointer_to number 0) (part_of.values_from items)) (part_of.stores_items here (pointer_to number 0) items)
            (does program d.place (do_.Fill object (part_of.values_from items))) (code_of.stores_items inside object items) (λ first. refl)
            (fills_in d.place object number (part_of.values_from items)) (items_in object number items sound)

        object_sized : (d : TDeclarator) (object : ℕ) (i : TInit) → init_sound count fits i ≡ true → IsSized (code_of.begins_object inside d object i)
        object_sized d object init.Nothing sound = λ first. refl
        object_sized d object (init.Value e) sound = stores_at_sized d.place object 0 e (each e sound)
        object_sized d object (init.Elements items) sound =
            binds_sized (does program d.place (do_.Fill object (part_of.values_from items))) (λ filled. code_of.stores_items inside object items) (λ first. refl) (items_sized object items sound)

        -- A REGISTER BEGINS
        register_follows : (d : TDeclarator) (i : TInit) → d.variable < count → init_sound count fits i ≡ true
            → Follows code deep count count Always (part_of.begins_register here d i) (code_of.begins_register inside d i) (λ a b new. Unit {0})
        register_follows d init.Nothing below sound = forgets_follow d.place d.variable below
        register_follows d (init.Elements items) below sound = nothing_follows
        register_follows d (init.Value e) below sound =
            subst (λ (r : ℕ). Follows code deep count count Always (part_of.initialises here d e (target_of.InRegister d.variable false))
            ((code_of.means inside e).value true r >>> λ a. writes_of.writes program d.place false r (InRegister d.variable false) a >>> λ v. only {A = Unit {0}} tt) (λ a b new. Unit {0})) (sym vars_are)
            (binds code deep count count Always ((flows.means here e).value true) ((code_of.means inside e).value true count) (λ o a new. Same count count new o a)
            (λ o. row.writes program d.place (target_of.InRegister d.variable false) o >>= λ v. gives {A = Unit {0}} tt)
            (λ a. writes_of.writes program d.place false count (InRegister d.variable false) a >>> λ v. only {A = Unit {0}} tt) (λ a b new. Unit {0})
            ((each e sound).value_sized true count) (used_follows code deep count (flows.means here e) (code_of.means inside e) (each e sound) count (omega arith))
            (λ o. binds code deep count count (λ new. Same count count new o ((code_of.means inside e).value true count).gives) (row.writes program d.place (target_of.InRegister d.variable false) o)
            (writes_of.writes program d.place false count (InRegister d.variable false) ((code_of.means inside e).value true count).gives) (λ v b new. IfUsed false count count v b new)
            (λ v. gives {A = Unit {0}} tt) (λ v. only {A = Unit {0}} tt) (λ a b new. Unit {0})
            (writes_sized code deep count program d.place false count (InRegister d.variable false) ((code_of.means inside e).value true count).gives)
            (writes_follow code deep count program d.place false count count (omega arith) (λ new. Same count count new o ((code_of.means inside e).value true count).gives)
            (target_of.InRegister d.variable false) (InRegister d.variable false) o ((code_of.means inside e).value true count).gives (λ registers same. (in_register d.variable false below, same)))
            (λ v. only_follows code deep count {A = Unit {0}} {B = Unit {0}} count
            (λ new. IfUsed false count count v (writes_of.writes program d.place false count (InRegister d.variable false) ((code_of.means inside e).value true count).gives).gives new) tt tt (λ a b new. Unit {0}) (λ new p. tt))))

        register_sized : (d : TDeclarator) (i : TInit) → init_sound count fits i ≡ true → IsSized (code_of.begins_register inside d i)
        register_sized d init.Nothing sound = λ first. refl
        register_sized d (init.Elements items) sound = λ first. refl
        register_sized d (init.Value e) sound =
            binds_sized ((code_of.means inside e).value true (length vs)) (λ a. writes_of.writes program d.place false (length vs) (InRegister d.variable false) a >>> λ v. only {A = Unit {0}} tt)
            ((each e sound).value_sized true (length vs)) (λ first. refl)

        -- A VARIABLE HAS AN OBJECT, which is then the call's newest
        variable_lies : (d : TDeclarator) (elements : ℕ) (target : stretches.Site) → d.variable < count → init_sound count fits d.init ≡ true
            → (site : Site) (first : ℕ) (s : State) (registers : Registers) → HasAt code first ((code_of.makes_variable inside d elements target.objects).code first) → Begins deep count site s registers
            → length s.world.memory.live ≡ site.base + target.objects
            → Lands code deep count true site target (Going (at site first registers s.world)) (first + (code_of.makes_variable inside d elements target.objects).size) 1
            (goes_on (makes_object d.place Unset elements >>= part_of.begins_variable here d) s)
        unfolding alone operation_of
        variable_lies d elements target below sound site first s registers has agrees live_are = by (object_made s.world Unset elements) refl
          where
            from : Run
            from = Going (at site first registers s.world)

            object : ℕ
            object = target.objects

            opens : step code from ≡ opened d.place (at site first registers s.world) (object_made s.world Unset elements)
            opens = alone_steps code site first s.world registers program d.place (do_.ObjectOpen elements) (has.0, tt) refl

            behind_both : Piece (Unit {0})
            behind_both = code_of.begins_object inside d object d.init

            next : ℕ
            next = first + (1 + (1 + behind_both.size))

            begun : (w : World) (more : OneMore s.world w) (home : Held) (x : Outcome (Unit {0}))
                → Leads code deep count site (Going (at site (first + 1 + 1) (with_slot d.variable (Some home) registers) w)) (first + 1 + 1 + behind_both.size) count (with_slot d.variable (Some home) registers) (λ a new. Unit {0}) x
                → Reaches code from (Going (at site (first + 1 + 1) (with_slot d.variable (Some home) registers) w))
                → Lands code deep count true site target from next 1 (follow x (λ done. gives Normal))
            begun w more home (Goes a t) leads reaches = record {
              registers = leads.0;
              reaches = reaches_both code from (Going (at site (first + 1 + 1) (with_slot d.variable (Some home) registers) w)) _ reaches
                  (subst (λ n. Reaches code (Going (at site (first + 1 + 1) (with_slot d.variable (Some home) registers) w)) (Going (at site n leads.0 t.world)))
                  (let e : first + 1 + 1 + behind_both.size ≡ next = omega arith in e) leads.1);
              agrees = leads.2;
              live_are = live_same w t.world leads.5.numbers ∙ live_length w ∙ ap length more.numbers ∙ length-append (numbers s.world) (s.world.memory.made ∷ [])
                  ∙ (let long = live_length s.world in let e : length (numbers s.world) + 1 ≡ site.base + (object + 1) = omega (arith, long, live_are) in e);
              stays = record {
                older = ap (take site.base) (leads.5.numbers ∙ more.numbers)
                    ∙ take-front site.base (numbers s.world) (s.world.memory.made ∷ []) (let long = live_length s.world in omega (arith, long, live_are));
                calls = leads.5.calls ∙ more.calls;
                size = leads.5.size ∙ more.size;
                left = (let one : t.world.left ≤ w.left = leads.5.left in let two : w.left ≡ s.world.left = more.left in omega (arith, one, two));
              };
            }
            begun w more home (Stops end x) leads reaches = ends_from code from (Going (at site (first + 1 + 1) (with_slot d.variable (Some home) registers) w)) end x reaches leads

            by : (o : Option World) → object_made s.world Unset elements ≡ o
                → Lands code deep count true site target from next 1 (follow (follow (made_object d.place s o) (part_of.begins_variable here d)) (λ done. gives Normal))
            by None is = ends_at code from (Trapped MemoryLimit d.place) s.world (suc zero, opens ∙ ap (opened d.place (at site first registers s.world)) is)
            by (Some w) is =
                let home : Held = pointer_to s.world.memory.made 0 in
                let more : OneMore s.world w = made_kept s.world w Unset elements is in
                let there : slice_get (numbers w) (site.base + object) ≡ Some s.world.memory.made =
                ap (λ l. slice_get l (site.base + object)) more.numbers
                ∙ get_last (numbers s.world) s.world.memory.made (site.base + object) (let long = live_length s.world in omega (arith, long, live_are)) in
                let set : Registers = with_slot d.variable (Some home) registers in
                let new : State = record { vars = slice_set s.vars d.variable (Some home); world = w } in
                let agree : Agrees count (record s { vars = slice_set s.vars d.variable (Some home) }) set = agrees_set code deep count program s registers d.variable (Some home) below agrees.0 in
                begun w more home (part_of.begins_object here d d.init home new)
                (object_in d object s.world.memory.made d.init sound site (first + 1 + 1) new set has.1.1 (record { length_is = agree.length_is; hold = agree.hold }, made_tidy (live_at deep) s.world w Unset elements tt agrees.1 is) there)
                (reaches_both code from (Going (at site (first + 1) registers w)) (Going (at site (first + 1 + 1) set w))
                (suc zero, opens ∙ ap (opened d.place (at site first registers s.world)) is)
                (addresses_follow d.place object s.world.memory.made 0 d.variable site (first + 1) (record s { world = w }) registers (has.1.0, tt) there))

        variable_sized : (d : TDeclarator) (elements object : ℕ) → init_sound count fits d.init ≡ true → IsSized (code_of.makes_variable inside d elements object)
        variable_sized d elements object sound =
            binds_sized (does program d.place (do_.ObjectOpen elements)) (λ made. does program d.place (do_.Address (Local object) 0 d.variable) >>> λ set. code_of.begins_object inside d object d.init)
            (λ first. refl) (binds_sized (does program d.place (do_.Address (Local object) 0 d.variable)) (λ set. code_of.begins_object inside d object d.init) (λ first. refl) (object_sized d object d.init sound))

        -- A DECLARATOR
        declares_by_lies : (d : TDeclarator) (n : ℕ) → d.variable < count → init_sound count fits d.init ≡ true → Lies code deep count true (goes_on (part_of.declares_by here d n)) (code_of.declares_by inside d n)
        declares_by_lies d zero below sound = piece_lies code deep count (part_of.begins_register here d d.init) d.place (code_of.begins_register inside d d.init) count (register_follows d d.init below sound)
        declares_by_lies d (suc n) below sound = λ site target first s registers has agrees tidy live_are.
            subst (λ k. Lands code deep count true site target (Going (at site first registers s.world)) (first + k) 1 (goes_on (part_of.declares_by here d (suc n)) s)) (variable_size inside d (suc n) target.objects 0)
            (variable_lies d (suc n) target below sound site first s registers has (agrees, tidy) live_are)

        declares_by_sized : (d : TDeclarator) (n : ℕ) → init_sound count fits d.init ≡ true → StretchIsSized (code_of.declares_by inside d n)
        declares_by_sized d zero sound = λ target first. register_sized d d.init sound first
        declares_by_sized d (suc n) sound = λ target first. variable_sized d (suc n) target.objects sound first ∙ variable_size inside d (suc n) target.objects 0

        declares_lies : (d : TDeclarator) → d.variable < count → init_sound count fits d.init ≡ true → Lies code deep count true (goes_on (part_of.declares here d)) (code_of.declares inside d)
        unfolding part_of.declares code_of.declares
        declares_lies d below sound = declares_by_lies d (part_of.elements_of (slice_get vs d.variable)) below sound

        declares_sized : (d : TDeclarator) → init_sound count fits d.init ≡ true → StretchIsSized (code_of.declares inside d)
        unfolding code_of.declares
        declares_sized d sound = declares_by_sized d (part_of.elements_of (slice_get vs d.variable)) sound

        module _ (calls_keep : CallsKeep calls) where
          -- DECLARATORS
          pub declared_lie : (place : Place) (ds : List TDeclarator) → declared_sound count fits ds ≡ true → Lies code deep count true (goes_on (part_of.declares_all here ds)) (code_of.declares_all inside place ds)
          declared_lie place [] sound = nothing_lies code deep count place
          declared_lie place (d ∷ ds) sound =
              let both = and_parts (declarator_sound count fits d) (declared_sound count fits ds) sound in
              let one = and_parts (nat_lt d.variable count) (init_sound count fits d.init) both.0 in
              behind_lies code deep count (part_of.declares here d) (part_of.declares_all here ds) (code_of.declares inside d) (code_of.declares_all inside place ds) (declares_sized d one.1)
              (declares_keeps program function vs calls calls_keep d) (declares_lies d (ltb-true d.variable count one.0) one.1) (declared_lie place ds both.1)

          pub declared_sized : (place : Place) (ds : List TDeclarator) → declared_sound count fits ds ≡ true → StretchIsSized (code_of.declares_all inside place ds)
          declared_sized place [] sound = λ target first. refl
          declared_sized place (d ∷ ds) sound =
              let both = and_parts (declarator_sound count fits d) (declared_sound count fits ds) sound in
              let one = and_parts (nat_lt d.variable count) (init_sound count fits d.init) both.0 in
              behind_sized code deep count (code_of.declares inside d) (code_of.declares_all inside place ds) (declares_sized d one.1) (declared_sized place ds both.1)

          -- an expression whose value is dropped
          pub drops_follow : (e : TExpr) → is_sound count fits e ≡ true → Follows code deep count count Always (flows.drops here e) (code_of.drops inside e) (λ a b new. Unit {0})
          drops_follow e sound = subst (λ (r : ℕ). Follows code deep count count Always (flows.drops here e) ((code_of.means inside e).value false r >>> λ a. only {A = Unit {0}} tt) (λ a b new. Unit {0})) (sym vars_are)
              (binds code deep count count Always ((flows.means here e).value false) ((code_of.means inside e).value false count) (λ o a new. IfUsed false count count o a new)
              (λ o. gives {A = Unit {0}} tt) (λ a. only {A = Unit {0}} tt) (λ a b new. Unit {0}) ((each e sound).value_sized false count) ((each e sound).value false count (omega arith))
              (λ o. only_follows code deep count {A = Unit {0}} {B = Unit {0}} count (λ new. IfUsed false count count o ((code_of.means inside e).value false count).gives new) tt tt (λ a b new. Unit {0}) (λ new p. tt)))

          pub drops_sized : (e : TExpr) → is_sound count fits e ≡ true → IsSized (code_of.drops inside e)
          drops_sized e sound = binds_sized ((code_of.means inside e).value false (length vs)) (λ a. only {A = Unit {0}} tt) ((each e sound).value_sized false (length vs)) (λ first. refl)

          -- THE FIRST PART OF A `for`
          pub first_lies : (place : Place) (f : TFirst) → first_sound count fits f ≡ true → Lies code deep count true (goes_on (part_of.starts_with here f)) (code_of.starts_with inside place f)
          first_lies place first_part.Nothing sound = nothing_lies code deep count place
          first_lies place (first_part.Value e) sound = piece_lies code deep count (flows.drops here e) place (code_of.drops inside e) count (drops_follow e sound)
          first_lies place (first_part.Declare ds) sound = declared_lie place ds sound

          pub first_is_sized : (place : Place) (f : TFirst) → first_sound count fits f ≡ true → StretchIsSized (code_of.starts_with inside place f)
          first_is_sized place first_part.Nothing sound = λ target first. refl
          first_is_sized place (first_part.Value e) sound = λ target first. drops_sized e sound first
          first_is_sized place (first_part.Declare ds) sound = declared_sized place ds sound
