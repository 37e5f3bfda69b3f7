-- Each statement and each function that fits needs few registers.
use Rattle.std.proofs.Common.{ℕ, zero, suc, ◌≡◌, ◌+◌, ◌<◌, ◌≤◌, ◌&&◌, max, Bool, true, false, List, [], ◌∷◌, map, length, slice_get, Option, Some, None, refl, sym, subst, arith}
use Rattle.std.specs.Prelude.{nat_eq, nat_lt, ℤ}
use Rattle.std.proofs.lemmas.Bool.{and_parts, ltb-true}
use Rattle.std.proofs.Math.Nat.{le-max_left, le-max_right, max-le}
use Rattle.k_num.specs.declared.numbers.Bin.TheVariants.{Eq}
use Rattle.k_num.specs.declared.numbers.Kind.{Kind}
use Rattle.k_num.specs.declared.place.Place.{Place}
use Rattle.k_optab.specs.declared.class.Class.TheVariants as class
use Rattle.k_types_meaning.specs.declared.tree.declaration.TDeclarator.{TDeclarator}
use Rattle.k_types_meaning.specs.declared.tree.declaration.TInit.{TInit}
use Rattle.k_types_meaning.specs.declared.tree.declaration.TInit.TheVariants as init
use Rattle.k_types_meaning.specs.declared.tree.declaration.TItem.{TItem}
use Rattle.k_types_meaning.specs.declared.tree.declaration.TItem.TheVariants as item
use Rattle.k_types_meaning.specs.declared.tree.expression.TExpr.{TExpr}
use Rattle.k_types_meaning.specs.declared.tree.statement.Spot.{Spot}
use Rattle.k_types_meaning.specs.declared.tree.statement.TFirst.{TFirst}
use Rattle.k_types_meaning.specs.declared.tree.statement.TFirst.TheVariants as start
use Rattle.k_types_meaning.specs.declared.tree.statement.TPart.{TPart, fold-TPart, fold-roll-TPart, map-TPart}
use Rattle.k_types_meaning.specs.declared.tree.statement.TPart.TheOpen.{TPart-F, TStmt-F}
use Rattle.k_types_meaning.specs.declared.tree.statement.TStmt.{TStmt, fold-roll-TStmt, ind-TStmt, map-TStmt}
use Rattle.k_types_meaning.specs.declared.tree.unit.TFunc.{TFunc}
use Rattle.k_types_meaning.specs.declared.tree.unit.TVariable.{TVariable}
use Rattle.k_types_meaning.specs.declared.types.TType.{TType}
use Rattle.k_types_meaning.specs.declared.types.TType.TheVariants as ttype
use Rattle.k_marks_meaning.specs.Jumps.{is_left, out_of_switch}
use Rattle.k_code.specs.declared.instruction.Arg.{Arg}
use Rattle.k_code.specs.declared.instruction.Arg.TheVariants.{Number, Reg}
use Rattle.k_code.specs.declared.instruction.Do.TheVariants as act
use Rattle.k_code.specs.declared.instruction.Home.TheVariants.{Local}
use Rattle.k_code.specs.Named.{operands, register_set, registers_needed}
use Rattle.k_evaluation.specs.Declarations.{elements_of, values_from}
use Rattle.k_evaluation.specs.States.{Program}
use Rattle.k_lower_code.specs.Assignments.{writes}
use Rattle.k_lower_code.specs.Declarations.{means, temporary, drops, initialises, begins_register, stores_at, stores_item, stores_items, begins_object, makes_variable, declares_by, declares, declares_all, starts_with}
use Rattle.k_lower_code.specs.Functions.{makes_parameter, serves_by, serves, falls_off, at_end, inside, function, function_code, registers_of}
use Rattle.k_lower_code.specs.Lowered.{Designated, InRegister}
use Rattle.k_lower_code.specs.Loops.{source_loop, step_or_none, test_or_one}
use Rattle.k_lower_code.specs.Pieces.{Piece, only, ◌>>>◌, does, sets}
use Rattle.k_lower_code.specs.Statements.{arms, break, compound, continue, declaration, expression, for_loop, if_else, lower_step, lowered, part_step, return, returns_value}
use Rattle.k_lower_code.specs.Stretches.{Inside, Stretch, behind, of_piece, in_order}
use Rattle.k_lower_code.specs.Switches.{PartLowered, ACase, ADefault, AStatement, before_default, cases_code, cases_size, has_case, skips, skips_size, statements_code, statements_of, switch, switches}
use Rattle.k_lower_fits.specs.Costs.{Cost, expr_cost, option_cost, item_cost, init_cost, declared_cost, first_cost, in_row, stmt_cost_step, part_cost_step, stmt_cost, body_cost}
use Rattle.k_lower_fits.specs.Costs as costs
use Rattle.k_lower_fits.specs.Fits.{Limits, Site, Standing, all_stand, body_fits, declared_fit, declarator_fits, expr_fits, first_fits, in_loop, in_switch, init_fits, item_fits, items_fit, option_fits, outermost, return_fits, stmt_fits, stmt_step}
use Rattle.k_lower_fits.specs.Fits as fitting
use Rattle.k_lower_sizes.proofs.ExpressionRegisters.{ArgIn, Done, In, Lies, PlaceIn, binds_in, both_need, does_in, expression_lies, least_left, least_right, one_arg, only_in, sets_in, two_args, writes_in}
use Rattle.k_lower_sizes.proofs.StatementRegisters.{AllNeed, Needs, behind_needs, followed_needs, jump_needs, loop_needs, one_arm_needs, order_needs, settled_needs, test_needs, two_arms_need}
use Rattle.k_lower_sizes.proofs.StatementSizes.{parts_of}

module _ (w : Inside) (limits : Limits) (bound : ℕ) (all : length w.vars ≤ bound) (variables : limits.variables ≤ length w.vars) where
  abbrev count : ℕ
  count = length w.vars

  abbrev Fine : {A : Type 0} → (A → Type 0) → Piece A → Type 0
  Fine ok piece = In w.program (length w.vars) bound all ok piece

  abbrev AnArg : Arg → Type 0
  AnArg = ArgIn w.program (length w.vars) bound all

  abbrev APlace : Designated → Type 0
  APlace = PlaceIn w.program (length w.vars) bound all

  abbrev Nothing : Unit {0} → Type 0
  Nothing = Done w.program (length w.vars) bound all

  abbrev Need : Stretch → Type 0
  Need t = Needs w.program bound t

  zero_in : 0 ≤ bound
  zero_in = omega arith

  -- EXPRESSIONS
  lies : (e : TExpr) (used : Bool) → expr_fits limits e used ≡ true → Lies w.program (length w.vars) bound all (means w e) (expr_cost e).registers
  lies e used holds = expression_lies w.program (length w.vars) bound all w.vars limits variables e used holds

  -- an expression has a register
  some_of : (e : TExpr) (used : Bool) → expr_fits limits e used ≡ true → 1 ≤ (expr_cost e).registers
  some_of e used holds = (lies e used holds).some

  value_in : (e : TExpr) (fit used : Bool) → expr_fits limits e fit ≡ true → length w.vars + (expr_cost e).registers ≤ bound → Fine AnArg ((means w e).value used (temporary w))
  value_in e fit used holds few = (lies e fit holds).value used (temporary w) few

  drops_in : (e : TExpr) → expr_fits limits e false ≡ true → length w.vars + (expr_cost e).registers ≤ bound → Fine Nothing (drops w e)
  drops_in e holds few =
      binds_in w.program (length w.vars) bound all AnArg Nothing ((means w e).value false (temporary w)) (λ a. only tt) (value_in e false false holds few)
      (λ given. only_in w.program (length w.vars) bound all Nothing tt tt)

  -- DECLARATIONS
  initialises_in : (d : TDeclarator) (e : TExpr) (target : Designated) → APlace target → expr_fits limits e true ≡ true → length w.vars + (1 + (expr_cost e).registers) ≤ bound
      → Fine Nothing (initialises w d e target)
  initialises_in d e target there holds few =
      binds_in w.program (length w.vars) bound all AnArg Nothing ((means w e).value true (temporary w)) (λ a. writes w.program d.place false (temporary w) target a >>> λ v. only tt)
      (value_in e true true holds (omega (arith, few)))
      (λ given. binds_in w.program (length w.vars) bound all AnArg Nothing (writes w.program d.place false (temporary w) target ((means w e).value true (temporary w)).gives) (λ v. only tt)
      (writes_in w.program (length w.vars) bound all d.place false (temporary w) target ((means w e).value true (temporary w)).gives (omega (arith, few)) there given)
      (λ u. only_in w.program (length w.vars) bound all Nothing tt tt))

  -- what an initialiser of a value costs
  above_free : (c k : ℕ) → k + max 0 (1 + c) ≤ bound → k + (1 + c) ≤ bound
  above_free c k few = least_right k 0 (1 + c) bound few

  forget_in : (d : TDeclarator) → d.variable + 1 ≤ bound → Fine Nothing (does w.program d.place (act.Forget d.variable))
  unfolding operands register_set
  forget_in d low = does_in w.program (length w.vars) bound all d.place (act.Forget d.variable) zero_in low

  register_in : (d : TDeclarator) (i : TInit) → d.variable < limits.variables → init_fits limits i ≡ true → length w.vars + (init_cost i).registers ≤ bound → Fine Nothing (begins_register w d i)
  register_in d init.Nothing there holds few = forget_in d (omega (arith, there, variables, all))
  register_in d (init.Value e) there holds few = initialises_in d e (InRegister d.variable false) (omega (arith, there, variables, all)) holds (above_free (expr_cost e).registers (length w.vars) few)
  register_in d (init.Elements items) there holds few = only_in w.program (length w.vars) bound all Nothing tt tt

  address_in : (place : Place) (object n to : ℕ) → to + 1 ≤ bound → Fine AnArg (sets w.program place (act.Address (Local object) n) to)
  unfolding operands register_set
  address_in place object n to low = sets_in w.program (length w.vars) bound all place (act.Address (Local object) n) to zero_in low low

  names_in : (place : Place) (object n to : ℕ) → to + 1 ≤ bound → Fine Nothing (does w.program place (act.Address (Local object) n to))
  unfolding operands register_set
  names_in place object n to low = does_in w.program (length w.vars) bound all place (act.Address (Local object) n to) zero_in low

  store_in : (place : Place) (address a : Arg) → AnArg address → AnArg a → Fine Nothing (does w.program place (act.Store address a None))
  unfolding operands register_set
  store_in place address a x y = does_in w.program (length w.vars) bound all place (act.Store address a None) (two_args w.program (length w.vars) bound all address a x y) zero_in

  opens_in : (place : Place) (elements : ℕ) → Fine Nothing (does w.program place (act.ObjectOpen elements))
  unfolding operands register_set
  opens_in place elements = does_in w.program (length w.vars) bound all place (act.ObjectOpen elements) zero_in zero_in

  fill_in : (place : Place) (object : ℕ) (items : List TItem) → Fine Nothing (does w.program place (act.Fill object (values_from items)))
  unfolding operands register_set
  fill_in place object items = does_in w.program (length w.vars) bound all place (act.Fill object (values_from items)) zero_in zero_in

  stores_in : (place : Place) (object n : ℕ) (e : TExpr) → expr_fits limits e true ≡ true → length w.vars + (1 + (expr_cost e).registers) ≤ bound → Fine Nothing (stores_at w place object n e)
  stores_in place object n e holds low =
      let some : 1 ≤ (expr_cost e).registers = some_of e true holds in
      binds_in w.program (length w.vars) bound all AnArg Nothing ((means w e).value true (temporary w))
      (λ a. sets w.program place (act.Address (Local object) n) (temporary w + 1) >>> λ address. does w.program place (act.Store address a None))
      (value_in e true true holds (omega (arith, low)))
      (λ given. binds_in w.program (length w.vars) bound all AnArg Nothing (sets w.program place (act.Address (Local object) n) (temporary w + 1))
      (λ address. does w.program place (act.Store address ((means w e).value true (temporary w)).gives None)) (address_in place object n (temporary w + 1) (omega (arith, low, some)))
      (λ address. store_in place (Reg (temporary w + 1) false) ((means w e).value true (temporary w)).gives address given))

  item_in : (object : ℕ) (i : TItem) → item_fits limits i ≡ true → length w.vars + (item_cost i).registers ≤ bound → Fine Nothing (stores_item w object i)
  item_in object (item.Bytes n bytes) holds few = only_in w.program (length w.vars) bound all Nothing tt tt
  item_in object (item.Value place n e) holds few = stores_in place object n e holds (above_free (expr_cost e).registers (length w.vars) few)

  items_in : (object : ℕ) (items : List TItem) → items_fit limits items ≡ true → length w.vars + (in_row (map item_cost items)).registers ≤ bound → Fine Nothing (stores_items w object items)
  items_in object [] holds few = only_in w.program (length w.vars) bound all Nothing tt tt
  items_in object (i ∷ items) holds few =
      let both = and_parts (item_fits limits i) (items_fit limits items) holds in
      binds_in w.program (length w.vars) bound all Nothing Nothing (stores_item w object i) (λ done. stores_items w object items)
      (item_in object i both.0 (least_left (length w.vars) (item_cost i).registers (in_row (map item_cost items)).registers bound few))
      (λ done. items_in object items both.1 (least_right (length w.vars) (item_cost i).registers (in_row (map item_cost items)).registers bound few))

  object_in : (d : TDeclarator) (object : ℕ) (i : TInit) → d.variable < limits.variables → init_fits limits i ≡ true → length w.vars + (init_cost i).registers ≤ bound → Fine Nothing (begins_object w d object i)
  object_in d object init.Nothing there holds few = only_in w.program (length w.vars) bound all Nothing tt tt
  object_in d object (init.Value e) there holds few = stores_in d.place object 0 e holds (above_free (expr_cost e).registers (length w.vars) few)
  object_in d object (init.Elements items) there holds few =
      binds_in w.program (length w.vars) bound all Nothing Nothing (does w.program d.place (act.Fill object (values_from items))) (λ filled. stores_items w object items) (fill_in d.place object items)
      (λ done. items_in object items holds few)

  variable_in : (d : TDeclarator) (elements object : ℕ) → d.variable < limits.variables → init_fits limits d.init ≡ true → length w.vars + (init_cost d.init).registers ≤ bound
      → Fine Nothing (makes_variable w d elements object)
  variable_in d elements object there holds few =
      binds_in w.program (length w.vars) bound all Nothing Nothing (does w.program d.place (act.ObjectOpen elements))
      (λ made. does w.program d.place (act.Address (Local object) 0 d.variable) >>> λ set. begins_object w d object d.init) (opens_in d.place elements)
      (λ made. binds_in w.program (length w.vars) bound all Nothing Nothing (does w.program d.place (act.Address (Local object) 0 d.variable)) (λ set. begins_object w d object d.init)
      (names_in d.place object 0 d.variable (omega (arith, there, variables, all))) (λ set. object_in d object d.init there holds few))

  by_need : (d : TDeclarator) (n : ℕ) → d.variable < limits.variables → init_fits limits d.init ≡ true → length w.vars + (init_cost d.init).registers ≤ bound → Need (declares_by w d n)
  by_need d zero there holds few = λ site first. (register_in d d.init there holds few).needs first
  by_need d (suc n) there holds few = λ site first. (variable_in d (suc n) site.objects there holds few).needs first

  one_needs : (d : TDeclarator) → declarator_fits limits d ≡ true → length w.vars + (init_cost d.init).registers ≤ bound → Need (declares w d)
  unfolding declares
  one_needs d holds few =
      let both = and_parts (nat_lt d.variable limits.variables) (init_fits limits d.init) holds in
      by_need d (elements_of (slice_get w.vars d.variable)) (ltb-true d.variable limits.variables both.0) both.1 few

  declared_need : (place : Place) (ds : List TDeclarator) → declared_fit limits ds ≡ true → length w.vars + (declared_cost ds).registers ≤ bound → Need (declares_all w place ds)
  declared_need place [] holds few = λ site first. zero_in
  declared_need place (d ∷ ds) holds few =
      let both = and_parts (declarator_fits limits d) (declared_fit limits ds) holds in
      behind_needs w.program bound (declares w d) (declares_all w place ds)
      (one_needs d both.0 (least_left (length w.vars) (init_cost d.init).registers (declared_cost ds).registers bound few))
      (declared_need place ds both.1 (least_right (length w.vars) (init_cost d.init).registers (declared_cost ds).registers bound few))

  starts_need : (place : Place) (f : TFirst) → first_fits limits f ≡ true → length w.vars + (first_cost f).registers ≤ bound → Need (starts_with w place f)
  starts_need place start.Nothing holds few = λ site first. zero_in
  starts_need place (start.Value e) holds few = λ site first. (drops_in e holds few).needs first
  starts_need place (start.Declare list) holds few = declared_need place list holds few

  -- LOOPS
  test_in : (test : Option TExpr) → option_fits limits true test ≡ true → length w.vars + (option_cost test).registers ≤ bound → Fine AnArg (test_or_one w test)
  test_in None holds few = only_in w.program (length w.vars) bound all AnArg (Number _) zero_in
  test_in (Some e) holds few = value_in e true true holds few

  step_in : (step : Option TExpr) → option_fits limits false step ≡ true → length w.vars + (option_cost step).registers ≤ bound → Fine Nothing (step_or_none w step)
  step_in None holds few = only_in w.program (length w.vars) bound all Nothing tt tt
  step_in (Some e) holds few = drops_in e holds few

  source_loop_needs : (spot : Spot) (number : ℕ) (test step : Option TExpr) (body : Stretch) (tested : Bool) → option_fits limits true test ≡ true → option_fits limits false step ≡ true
      → length w.vars + (option_cost test).registers ≤ bound → length w.vars + (option_cost step).registers ≤ bound → Need body → Need (source_loop w spot number test step body tested)
  source_loop_needs spot number test step body tested fit also few as_few is =
      loop_needs w.program bound (parts_of w spot number test step body tested) is (λ first. (test_in test fit few).needs first) (test_in test fit few).gives (λ first. (step_in step also as_few).needs first)

  for_needs : (spot : Spot) (number : ℕ) (f : TFirst) (test step : Option TExpr) (body : Stretch) → first_fits limits f ≡ true → option_fits limits true test ≡ true → option_fits limits false step ≡ true
      → length w.vars + (first_cost f).registers ≤ bound → length w.vars + (option_cost test).registers ≤ bound → length w.vars + (option_cost step).registers ≤ bound → Need body
      → Need (for_loop w spot number f test step body)
  unfolding for_loop
  for_needs spot number f test step body begins fit also low few as_few is =
      followed_needs w.program bound (starts_with w spot.place f) (source_loop w spot number test step body true) (starts_with w spot.place f).opens (starts_need spot.place f begins low)
      (source_loop_needs spot number test step body true fit also few as_few is)

  -- SWITCHES
  compare_need : (kind : Kind) (on : Arg) (z : ℤ) (to : ℕ) → AnArg on → to + 1 ≤ bound → registers_needed (act.Binary Eq kind on (Number z) to) ≤ bound
  unfolding registers_needed operands register_set
  compare_need kind on z to is low = max-le (max-le is (max-le zero_in zero_in)) low

  cases_need : (kind : Kind) (r : ℕ) (on : Arg) (ps : List PartLowered) (at first : ℕ) → AnArg on → (r + 1) + 1 ≤ bound → registers_of (cases_code w.program kind r on ps at first) ≤ bound
  cases_need kind r on [] at first is low = zero_in
  cases_need kind r on (ACase place z ∷ ps) at first is low =
      max-le (compare_need kind on z (r + 1) is low)
      (max-le (test_needs w.program bound (Reg (r + 1) false) at (first + 2) class.Select low) (cases_need kind r on ps at (first + 2) is low))
  cases_need kind r on (ADefault ∷ ps) at first is low = cases_need kind r on ps at first is low
  cases_need kind r on (AStatement s ∷ ps) at first is low = cases_need kind r on ps (at + s.size) first is low

  skips_need : (place : Place) (n first : ℕ) → registers_of (skips w.program place n first) ≤ bound
  skips_need place zero first = zero_in
  skips_need place (suc n) first = max-le (jump_needs w.program bound _) zero_in

  switch_needs : (spot : Spot) (kind : Kind) (on : TExpr) (ps : List PartLowered) → expr_fits limits on true ≡ true → length w.vars + (1 + (expr_cost on).registers) ≤ bound → AllNeed w.program bound (statements_of ps)
      → Need (switch w spot kind on ps)
  unfolding switch
  switch_needs spot kind on ps holds few is =
      let some : 1 ≤ (expr_cost on).registers = some_of on true holds in
      let value : Fine AnArg ((means w on).value (has_case ps) (temporary w)) = value_in on true (has_case ps) holds (omega (arith, few)) in
      let v : Piece Arg = (means w on).value (has_case ps) (temporary w) in
      settled_needs w.program bound (is_left (out_of_switch (in_order w.program spot.place (statements_of ps)).jumps)) (switches w.program spot.place kind (temporary w) ps v) (λ site first.
      both_need bound _ (statements_code w.program spot.place ps site (((first + v.size) + cases_size ps) + skips_size (before_default ps)))
      (both_need bound _ (skips w.program spot.place (before_default ps) ((first + v.size) + cases_size ps))
      (both_need bound (v.code first) (cases_code w.program kind (temporary w) v.gives ps (((first + v.size) + cases_size ps) + skips_size (before_default ps)) (first + v.size))
      (value.needs first) (cases_need kind (temporary w) v.gives ps _ _ value.gives (omega (arith, few, some))))
      (skips_need spot.place (before_default ps) ((first + v.size) + cases_size ps)))
      (order_needs w.program bound spot.place (statements_of ps) is _ _))

  -- OTHER STATEMENTS
  abbrev IfThere : Option Stretch → Type 0
  IfThere None = Unit {0}
  IfThere (Some t) = Need t

  arms_need : (place : Place) (test : Piece Arg) (one : Stretch) (other : Option Stretch) → Fine AnArg test → Need one → IfThere other → Need (arms w.program place test one other)
  arms_need place test one None tested is also = one_arm_needs w.program bound place test one (λ first. tested.needs first) tested.gives is
  arms_need place test one (Some other) tested is also = two_arms_need w.program bound place test one other (λ first. tested.needs first) tested.gives is also

  if_needs : (spot : Spot) (test : TExpr) (one : Stretch) (other : Option Stretch) → expr_fits limits test true ≡ true → length w.vars + (expr_cost test).registers ≤ bound → Need one → IfThere other
      → Need (if_else w spot test one other)
  unfolding if_else
  if_needs spot test one other holds few is also =
      settled_needs w.program bound (is_left (arms w.program spot.place ((means w test).value true (temporary w)) one other).jumps) (arms w.program spot.place ((means w test).value true (temporary w)) one other)
      (arms_need spot.place ((means w test).value true (temporary w)) one other (value_in test true true holds few) is also)

  expression_needs : (spot : Spot) (e : TExpr) → expr_fits limits e false ≡ true → length w.vars + (expr_cost e).registers ≤ bound → Need (expression w spot e)
  unfolding expression
  expression_needs spot e holds few = λ site first. (drops_in e holds few).needs first

  compound_needs : (spot : Spot) (ts : List Stretch) → AllNeed w.program bound ts → Need (compound w spot ts)
  unfolding compound
  compound_needs spot ts is = order_needs w.program bound spot.place ts is

  break_needs : (spot : Spot) → Need (break w spot)
  unfolding break
  break_needs spot = λ site first. max-le (jump_needs w.program bound _) zero_in

  continue_needs : (spot : Spot) → Need (continue w spot)
  unfolding continue
  continue_needs spot = λ site first. max-le (jump_needs w.program bound _) zero_in

  returns_in : (place : Place) (a : Arg) → AnArg a → Fine Nothing (does w.program place (act.Return (Some a)))
  unfolding operands register_set
  returns_in place a is = does_in w.program (length w.vars) bound all place (act.Return (Some a)) (one_arg w.program (length w.vars) bound all a is) zero_in

  returns_none : (place : Place) → Fine Nothing (does w.program place (act.Return None))
  unfolding operands register_set
  returns_none place = does_in w.program (length w.vars) bound all place (act.Return None) zero_in zero_in

  value_returned : (place : Place) (value : Option TExpr) → return_fits limits value ≡ true → length w.vars + (option_cost value).registers ≤ bound → Fine Nothing (returns_value w place value)
  value_returned place None holds few = returns_none place
  value_returned place (Some e) holds few =
      let both = and_parts limits.gives (expr_fits limits e true) holds in
      binds_in w.program (length w.vars) bound all AnArg Nothing ((means w e).value true (temporary w)) (λ a. does w.program place (act.Return (Some a))) (value_in e true true both.1 few)
      (λ given. returns_in place ((means w e).value true (temporary w)).gives given)

  return_needs : (spot : Spot) (value : Option TExpr) → return_fits limits value ≡ true → length w.vars + (option_cost value).registers ≤ bound → Need (return w spot value)
  unfolding return
  return_needs spot value holds few = λ site first. (value_returned spot.place value holds few).needs first

  declaration_needs : (spot : Spot) (list : List TDeclarator) → declared_fit limits list ≡ true → length w.vars + (declared_cost list).registers ≤ bound → Need (declaration w spot list)
  unfolding declaration
  declaration_needs spot list holds few = declared_need spot.place list holds few

  -- THE TREE
  abbrev StmtNeeds : TStmt → Type 0
  StmtNeeds s = (site : Site) → stmt_fits limits s site ≡ true → length w.vars + (stmt_cost s).registers ≤ bound → Need (lowered w s)

  abbrev made_part : TPart → PartLowered
  made_part = fold-TPart PartLowered Stretch part_step (lower_step w)

  abbrev part_cost : TPart → Cost
  part_cost = fold-TPart Cost Cost part_cost_step stmt_cost_step

  abbrev part_fits : TPart → Standing
  part_fits = fold-TPart Standing Standing fitting.part_step (stmt_step limits)

  abbrev PartNeed : PartLowered → Type 0
  PartNeed (ACase place z) = Unit {0}
  PartNeed ADefault = Unit {0}
  PartNeed (AStatement t) = Need t

  abbrev PartNeeds : TPart → Type 0
  PartNeeds p = (site : Site) → part_fits p site ≡ true → length w.vars + (part_cost p).registers ≤ bound → PartNeed (made_part p)

  first_part : (p : PartLowered) (ps : List PartLowered) → PartNeed p → AllNeed w.program bound (statements_of ps) → AllNeed w.program bound (statements_of (p ∷ ps))
  first_part (ACase place z) ps is rest = rest
  first_part ADefault ps is rest = rest
  first_part (AStatement t) ps is rest = (is, rest)

  all_need : {B : Type 0} (items : List B) (stmt : B → TStmt) (site : Site) → ((b : B) → StmtNeeds (stmt b)) → all_stand site (map (stmt_fits limits) (map stmt items)) ≡ true
      → length w.vars + (in_row (map stmt_cost (map stmt items))).registers ≤ bound → AllNeed w.program bound (map (lowered w) (map stmt items))
  all_need [] stmt site each holds few = tt
  all_need (b ∷ items) stmt site each holds few =
      let both = and_parts (stmt_fits limits (stmt b) site) (all_stand site (map (stmt_fits limits) (map stmt items))) holds in (
        each b site both.0 (least_left (length w.vars) (stmt_cost (stmt b)).registers (in_row (map stmt_cost (map stmt items))).registers bound few),
        all_need items stmt site each both.1 (least_right (length w.vars) (stmt_cost (stmt b)).registers (in_row (map stmt_cost (map stmt items))).registers bound few),
      )

  all_parts_need : {B : Type 0} (items : List B) (part : B → TPart) (site : Site) → ((b : B) → PartNeeds (part b)) → all_stand site (map part_fits (map part items)) ≡ true
      → length w.vars + (in_row (map part_cost (map part items))).registers ≤ bound → AllNeed w.program bound (statements_of (map made_part (map part items)))
  all_parts_need [] part site each holds few = tt
  all_parts_need (b ∷ items) part site each holds few =
      let both = and_parts (part_fits (part b) site) (all_stand site (map part_fits (map part items))) holds in
      first_part (made_part (part b)) (map made_part (map part items))
      (each b site both.0 (least_left (length w.vars) (part_cost (part b)).registers (in_row (map part_cost (map part items))).registers bound few))
      (all_parts_need items part site each both.1 (least_right (length w.vars) (part_cost (part b)).registers (in_row (map part_cost (map part items))).registers bound few))

  abbrev PartLayer : TPart-F TPart TStmt → Type 0
  PartLayer z =
      (site : Site) → fitting.part_step (map-TPart TPart TStmt Standing Standing part_fits (stmt_fits limits) z) site ≡ true
      → length w.vars + (part_cost_step (map-TPart TPart TStmt Cost Cost part_cost stmt_cost z)).registers ≤ bound
      → PartNeed (part_step (map-TPart TPart TStmt PartLowered Stretch made_part (lowered w) z))

  abbrev StmtLayer : TStmt-F TPart TStmt → Type 0
  StmtLayer z =
      (site : Site) → stmt_step limits (map-TStmt TPart TStmt Standing Standing part_fits (stmt_fits limits) z) site ≡ true
      → length w.vars + (stmt_cost_step (map-TStmt TPart TStmt Cost Cost part_cost stmt_cost z)).registers ≤ bound
      → Need (lower_step w (map-TStmt TPart TStmt PartLowered Stretch made_part (lowered w) z))

  part_by : (y : TPart-F ((p : TPart) × PartNeeds p) ((s : TStmt) × StmtNeeds s)) → PartLayer (map-TPart _ _ TPart TStmt (λ (x : (p : TPart) × PartNeeds p). x.0) (λ (x : (s : TStmt) × StmtNeeds s). x.0) y)
  part_by (TPart-F.Case p z) site holds few = tt
  part_by (TPart-F.Default p) site holds few = tt
  part_by (TPart-F.Does p s) site holds few = s.1 site holds few

  abbrev stmts : List ((s : TStmt) × StmtNeeds s) → List TStmt
  stmts xs = map (λ (x : (s : TStmt) × StmtNeeds s). x.0) xs

  no_registers : length w.vars + 0 ≤ bound
  no_registers = omega (arith, all)

  if_by : (spot : Spot) (test : TExpr) (a : (s : TStmt) × StmtNeeds s) (b : Option ((s : TStmt) × StmtNeeds s)) (site : Site) (fit : Bool) (c : ℕ) (made : Option Stretch)
      → (expr_fits limits test true && (stmt_fits limits a.0 site && fit)) ≡ true → length w.vars + max (expr_cost test).registers (max (stmt_cost a.0).registers c) ≤ bound
      → (fit ≡ true → length w.vars + c ≤ bound → IfThere made) → Need (if_else w spot test (lowered w a.0) made)
  if_by spot test a b site fit c made holds few each =
      let one = and_parts (expr_fits limits test true) (stmt_fits limits a.0 site && fit) holds in
      let two = and_parts (stmt_fits limits a.0 site) fit one.1 in
      let rest : length w.vars + max (stmt_cost a.0).registers c ≤ bound = least_right (length w.vars) (expr_cost test).registers (max (stmt_cost a.0).registers c) bound few in
      if_needs spot test (lowered w a.0) made one.0 (least_left (length w.vars) (expr_cost test).registers (max (stmt_cost a.0).registers c) bound few)
      (a.1 site two.0 (least_left (length w.vars) (stmt_cost a.0).registers c bound rest))
      (each two.1 (least_right (length w.vars) (stmt_cost a.0).registers c bound rest))

  stmt_by : (y : TStmt-F ((p : TPart) × PartNeeds p) ((s : TStmt) × StmtNeeds s)) → StmtLayer (map-TStmt _ _ TPart TStmt (λ (x : (p : TPart) × PartNeeds p). x.0) (λ (x : (s : TStmt) × StmtNeeds s). x.0) y)
  stmt_by (TStmt-F.Expr spot e) site holds few = expression_needs spot e holds few
  stmt_by (TStmt-F.Empty spot) site holds few = λ at first. zero_in
  stmt_by (TStmt-F.Block spot parts) site holds few = compound_needs spot _ (all_need parts (λ x. x.0) site (λ x. x.1) holds few)
  stmt_by (TStmt-F.If spot test a None) site holds few = if_by spot test a None site true 0 None holds few (λ fit low. tt)
  stmt_by (TStmt-F.If spot test a (Some b)) site holds few =
      if_by spot test a (Some b) site (stmt_fits limits b.0 site) (stmt_cost b.0).registers (Some (lowered w b.0)) holds few (λ fit low. b.1 site fit low)
  stmt_by (TStmt-F.While spot number test a) site holds few =
      let both = and_parts (expr_fits limits test true) (stmt_fits limits a.0 in_loop) holds in
      source_loop_needs spot number (Some test) None (lowered w a.0) true both.0 refl (least_left (length w.vars) (expr_cost test).registers (stmt_cost a.0).registers bound few) no_registers
      (a.1 in_loop both.1 (least_right (length w.vars) (expr_cost test).registers (stmt_cost a.0).registers bound few))
  stmt_by (TStmt-F.DoWhile spot number a test) site holds few =
      let both = and_parts (stmt_fits limits a.0 in_loop) (expr_fits limits test true) holds in
      source_loop_needs spot number (Some test) None (lowered w a.0) false both.1 refl (least_right (length w.vars) (stmt_cost a.0).registers (expr_cost test).registers bound few) no_registers
      (a.1 in_loop both.0 (least_left (length w.vars) (stmt_cost a.0).registers (expr_cost test).registers bound few))
  stmt_by (TStmt-F.For spot number f test step a) site holds few =
      let one = and_parts (first_fits limits f) (option_fits limits true test && (option_fits limits false step && stmt_fits limits a.0 in_loop)) holds in
      let two = and_parts (option_fits limits true test) (option_fits limits false step && stmt_fits limits a.0 in_loop) one.1 in
      let three = and_parts (option_fits limits false step) (stmt_fits limits a.0 in_loop) two.1 in
      let second : length w.vars + max (option_cost test).registers (max (option_cost step).registers (stmt_cost a.0).registers) ≤ bound =
      least_right (length w.vars) (first_cost f).registers (max (option_cost test).registers (max (option_cost step).registers (stmt_cost a.0).registers)) bound few in
      let third : length w.vars + max (option_cost step).registers (stmt_cost a.0).registers ≤ bound =
      least_right (length w.vars) (option_cost test).registers (max (option_cost step).registers (stmt_cost a.0).registers) bound second in
      for_needs spot number f test step (lowered w a.0) one.0 two.0 three.0
      (least_left (length w.vars) (first_cost f).registers (max (option_cost test).registers (max (option_cost step).registers (stmt_cost a.0).registers)) bound few)
      (least_left (length w.vars) (option_cost test).registers (max (option_cost step).registers (stmt_cost a.0).registers) bound second)
      (least_left (length w.vars) (option_cost step).registers (stmt_cost a.0).registers bound third)
      (a.1 in_loop three.1 (least_right (length w.vars) (option_cost step).registers (stmt_cost a.0).registers bound third))
  stmt_by (TStmt-F.Switch spot kind on parts) site holds few =
      let both = and_parts (expr_fits limits on true) (all_stand (in_switch site) (map part_fits (map (λ (x : (p : TPart) × PartNeeds p). x.0) parts))) holds in
      let row : ℕ = (in_row (map part_cost (map (λ (x : (p : TPart) × PartNeeds p). x.0) parts))).registers in
      switch_needs spot kind on _ both.0 (above_free (expr_cost on).registers (length w.vars) (least_left (length w.vars) (max 0 (1 + (expr_cost on).registers)) row bound few))
      (all_parts_need parts (λ x. x.0) (in_switch site) (λ x. x.1) both.1 (least_right (length w.vars) (max 0 (1 + (expr_cost on).registers)) row bound few))
  stmt_by (TStmt-F.Break spot) site holds few = break_needs spot
  stmt_by (TStmt-F.Continue spot) site holds few = continue_needs spot
  stmt_by (TStmt-F.Return spot value) site holds few = return_needs spot value holds few
  stmt_by (TStmt-F.Declare spot list) site holds few = declaration_needs spot list holds few

  -- A STATEMENT
  stmt_needs : (s : TStmt) → StmtNeeds s
  stmt_needs =
      ind-TStmt PartNeeds StmtNeeds
      (λ x y is site holds few.
      subst PartNeed (sym (fold-roll-TPart PartLowered Stretch part_step (lower_step w) x))
      (subst PartLayer is (part_by y) site (subst (λ (u : Standing). u site ≡ true) (fold-roll-TPart Standing Standing fitting.part_step (stmt_step limits) x) holds)
      (subst (λ (c : Cost). length w.vars + c.registers ≤ bound) (fold-roll-TPart Cost Cost part_cost_step stmt_cost_step x) few)))
      (λ x y is site holds few.
      subst Need (sym (fold-roll-TStmt PartLowered Stretch part_step (lower_step w) x))
      (subst StmtLayer is (stmt_by y) site (subst (λ (u : Standing). u site ≡ true) (fold-roll-TStmt Standing Standing fitting.part_step (stmt_step limits) x) holds)
      (subst (λ (c : Cost). length w.vars + c.registers ≤ bound) (fold-roll-TStmt Cost Cost part_cost_step stmt_cost_step x) few)))

  pub body_needs : (body : List TStmt) (site : Site) → all_stand site (map (stmt_fits limits) body) ≡ true → length w.vars + (in_row (map stmt_cost body)).registers ≤ bound
      → AllNeed w.program bound (map (lowered w) body)
  body_needs [] site holds few = tt
  body_needs (s ∷ body) site holds few =
      let both = and_parts (stmt_fits limits s site) (all_stand site (map (stmt_fits limits) body)) holds in (
        stmt_needs s site both.0 (least_left (length w.vars) (stmt_cost s).registers (in_row (map stmt_cost body)).registers bound few),
        body_needs body site both.1 (least_right (length w.vars) (stmt_cost s).registers (in_row (map stmt_cost body)).registers bound few),
      )

-- PARAMETERS
module _ (program : Program) (count bound : ℕ) (all : count ≤ bound) where
  serve_opens : (place : Place) (elements : ℕ) → In program count bound all (Done program count bound all) (does program place (act.ObjectOpen elements))
  unfolding operands register_set
  serve_opens place elements = does_in program count bound all place (act.ObjectOpen elements) (omega arith) (omega arith)

  serve_address : (place : Place) (object to : ℕ) → to + 1 ≤ bound → In program count bound all (ArgIn program count bound all) (sets program place (act.Address (Local object) 0) to)
  unfolding operands register_set
  serve_address place object to low = sets_in program count bound all place (act.Address (Local object) 0) to (omega arith) low low

  serve_names : (place : Place) (object to : ℕ) → to + 1 ≤ bound → In program count bound all (Done program count bound all) (does program place (act.Address (Local object) 0 to))
  unfolding operands register_set
  serve_names place object to low = does_in program count bound all place (act.Address (Local object) 0 to) (omega arith) low

  serve_store : (place : Place) (address a : Arg) → ArgIn program count bound all address → ArgIn program count bound all a → In program count bound all (Done program count bound all) (does program place (act.Store address a None))
  unfolding operands register_set
  serve_store place address a x y = does_in program count bound all place (act.Store address a None) (two_args program count bound all address a x y) (omega arith)

  makes_in : (r : ℕ) (place : Place) (n elements object : ℕ) → r + 1 ≤ bound → n + 1 ≤ bound → In program count bound all (Done program count bound all) (makes_parameter program r place n elements object)
  makes_in r place n elements object low there =
      binds_in program count bound all (Done program count bound all) (Done program count bound all) (does program place (act.ObjectOpen elements))
      (λ made. sets program place (act.Address (Local object) 0) r >>> λ address. does program place (act.Store address (Reg n false) None) >>> λ stored. does program place (act.Address (Local object) 0 n))
      (serve_opens place elements)
      (λ made. binds_in program count bound all (ArgIn program count bound all) (Done program count bound all) (sets program place (act.Address (Local object) 0) r)
      (λ address. does program place (act.Store address (Reg n false) None) >>> λ stored. does program place (act.Address (Local object) 0 n)) (serve_address place object r low)
      (λ address. binds_in program count bound all (Done program count bound all) (Done program count bound all) (does program place (act.Store (Reg r false) (Reg n false) None))
      (λ stored. does program place (act.Address (Local object) 0 n)) (serve_store place (Reg r false) (Reg n false) low there) (λ stored. serve_names place object n there)))

  by_serves : (r : ℕ) (place : Place) (n elements : ℕ) → r + 1 ≤ bound → n + 1 ≤ bound → Needs program bound (serves_by program r place n elements)
  by_serves r place n zero low there = λ site first. (let e : 0 ≤ bound = omega arith in e)
  by_serves r place n (suc elements) low there = λ site first. (makes_in r place n (suc elements) site.objects low there).needs first

  serves_need : (r : ℕ) (close : Place) (n many : ℕ) (vs : List TVariable) → r + 1 ≤ bound → n + many ≤ bound → Needs program bound (serves program r close n many vs)
  serves_need r close n zero vs low few = λ site first. (let e : 0 ≤ bound = omega arith in e)
  serves_need r close n (suc many) [] low few = λ site first. (let e : 0 ≤ bound = omega arith in e)
  serves_need r close n (suc many) (v ∷ vs) low few =
      behind_needs program bound (serves_by program r v.place n v.elements) (serves program r close (n + 1) many vs) (by_serves r v.place n v.elements low (omega (arith, few)))
      (serves_need r close (n + 1) many vs low (omega (arith, few)))

-- THE END
falls_need : (bound : ℕ) (b : Bool) → registers_needed (falls_off b) ≤ bound
unfolding registers_needed operands register_set
falls_need bound true = max-le {a = 0} {b = 0} {k = bound} (omega arith) (omega arith)
falls_need bound false = max-le {a = 0} {b = 0} {k = bound} (omega arith) (omega arith)

end_needs : (bound : ℕ) (program : Program) (number : ℕ) (of : TType) → registers_needed (at_end program number of) ≤ bound
unfolding registers_needed operands register_set
end_needs bound program number ttype.Void = max-le {a = 0} {b = 0} {k = bound} (omega arith) (omega arith)
end_needs bound program number (ttype.Number kind) = falls_need bound (nat_eq number program.unit.main)
end_needs bound program number (ttype.Pointer target) = falls_need bound (nat_eq number program.unit.main)

-- A FUNCTION THAT FITS needs as many registers as its constructs cost
pub function_needs : (program : Program) (number : ℕ) (f : TFunc) (limits : Limits) → limits.variables ≡ length f.variables → f.params ≤ length f.variables → body_fits limits f.body ≡ true
    → (first : ℕ) → registers_of (function_code program number f first) ≤ costs.registers_of f
unfolding function
function_needs program number f limits same given holds first =
    let bound : ℕ = length f.variables + max 1 (body_cost f.body).registers in
    let one : 1 ≤ max 1 (body_cost f.body).registers = le-max_left 1 (body_cost f.body).registers in
    let rest : (body_cost f.body).registers ≤ max 1 (body_cost f.body).registers = le-max_right 1 (body_cost f.body).registers in
    let all : length f.variables ≤ bound = omega arith in
    behind_needs program bound (serves program (length f.variables) f.close 0 f.params f.variables)
    (behind (in_order program f.close (map (lowered (inside program number f)) f.body)) (of_piece f.close (does program f.close (at_end program number f.result))))
    (serves_need program (length f.variables) bound all (length f.variables) f.close 0 f.params f.variables (omega (arith, one)) (omega (arith, given, one)))
    (behind_needs program bound (in_order program f.close (map (lowered (inside program number f)) f.body)) (of_piece f.close (does program f.close (at_end program number f.result)))
    (order_needs program bound f.close (map (lowered (inside program number f)) f.body)
    (body_needs (inside program number f) limits bound all (omega (arith, same)) f.body outermost holds (omega (arith, rest))))
    (λ site at. max-le (end_needs bound program number f.result) (let e : 0 ≤ bound = omega arith in e)))
    (record { objects = 0; breaks = 0; continues = 0 }) first
