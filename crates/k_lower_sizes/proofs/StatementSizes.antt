-- Each statement, and each function, has at most as many instructions as its constructs cost.
use Rattle.std.proofs.Common.{ℕ, zero, suc, ◌+◌, ◌*◌, ◌≤◌, ◌||◌, Bool, true, false, List, [], ◌∷◌, map, length, slice_get, Option, Some, None, sym, subst, arith}
use Rattle.k_num.specs.declared.place.Place.{Place}
use Rattle.k_num.specs.declared.numbers.Kind.{Kind}
use Rattle.k_types_meaning.specs.declared.tree.declaration.TDeclarator.{TDeclarator}
use Rattle.k_types_meaning.specs.declared.tree.declaration.TInit.{TInit}
use Rattle.k_types_meaning.specs.declared.tree.declaration.TInit.TheVariants as init
use Rattle.k_types_meaning.specs.declared.tree.declaration.TItem.{TItem}
use Rattle.k_types_meaning.specs.declared.tree.declaration.TItem.TheVariants as item
use Rattle.k_types_meaning.specs.declared.tree.expression.TExpr.{TExpr}
use Rattle.k_types_meaning.specs.declared.tree.statement.Spot.{Spot}
use Rattle.k_types_meaning.specs.declared.tree.statement.TFirst.{TFirst}
use Rattle.k_types_meaning.specs.declared.tree.statement.TFirst.TheVariants as start
use Rattle.k_types_meaning.specs.declared.tree.statement.TStmt.{TStmt, roll-TStmt, fold-roll-TStmt, ind-TStmt, map-TStmt}
use Rattle.k_types_meaning.specs.declared.tree.statement.TPart.{TPart, roll-TPart, fold-TPart, fold-roll-TPart, map-TPart}
use Rattle.k_types_meaning.specs.declared.tree.statement.TPart.TheOpen.{TPart-F, TStmt-F}
use Rattle.k_types_meaning.specs.declared.tree.unit.TFunc.{TFunc}
use Rattle.k_types_meaning.specs.declared.tree.unit.TVariable.{TVariable}
use Rattle.k_marks_meaning.specs.Jumps.{is_left, out_of_switch}
use Rattle.k_evaluation.specs.Declarations.{elements_of}
use Rattle.k_evaluation.specs.Loops.{loop_region, stays_behind_loop}
use Rattle.k_evaluation.specs.Meanings.{flag}
use Rattle.k_evaluation.specs.States.{Program}
use Rattle.k_lower_code.specs.Assignments.{writes}
use Rattle.k_lower_code.specs.Declarations.{means, temporary, drops, initialises, begins_register, stores_item, stores_items, begins_object, declares_by, declares, declares_all, starts_with}
use Rattle.k_lower_code.specs.Functions.{serves_by, serves, inside, function}
use Rattle.k_lower_code.specs.Lowered.{Designated, InRegister}
use Rattle.k_lower_code.specs.Loops.{LoopParts, one_if, saves_body, restores_step, inside_loop, loop, test_or_one, step_or_none, source_loop}
use Rattle.k_lower_code.specs.Statements.{expression, compound, one_arm, two_arms, if_else, for_loop, break, continue, returns_value, return, declaration, lower_step, part_step, lowered}
use Rattle.k_lower_code.specs.Stretches.{Inside, Stretch, over_size, pad_size, followed_by, in_order, settled_unless}
use Rattle.k_lower_code.specs.Switches.{PartLowered, ACase, ADefault, AStatement, statements_of, has_case, cases_size, skips_size, before_default, switches, switch}
use Rattle.k_lower_fits.specs.Costs.{Cost, expr_cost, option_cost, item_cost, init_cost, declared_cost, first_cost, cost_or_free, in_row, stmt_cost_step, part_cost_step, stmt_cost, body_cost, instructions_of}
use Rattle.k_lower_sizes.proofs.ExpressionSizes.{expression_small, writes_small}

-- an instruction that may be left out
if_few : (b : Bool) → one_if b ≤ 1
if_few false = omega arith
if_few true = omega arith

over_few : (b : Bool) → over_size b ≤ 1
over_few false = omega arith
over_few true = omega arith

pad_few : (b : Bool) → pad_size b ≤ 2
pad_few false = omega arith
pad_few true = omega arith

skips_few : (n : ℕ) → skips_size n ≤ 1
skips_few zero = omega arith
skips_few (suc n) = omega arith

module _ (w : Inside) where
  abbrev cost : TExpr → ℕ
  cost e = (expr_cost e).instructions

  value_few : (e : TExpr) (used : Bool) (r : ℕ) → ((means w e).value used r).size ≤ cost e
  value_few e used r = (expression_small w.program w.vars e).value used r

  drops_few : (e : TExpr) → (drops w e).size ≤ cost e
  drops_few e = (let one : ((means w e).value false (temporary w)).size ≤ cost e = value_few e false (temporary w) in
      (let goal : ((means w e).value false (temporary w)).size + 0 ≤ cost e = omega (arith, one) in goal))

  -- DECLARATIONS
  initialises_few : (d : TDeclarator) (e : TExpr) (target : Designated) → (initialises w d e target).size ≤ 1 + cost e
  initialises_few d e target =
      (let one : ((means w e).value true (temporary w)).size ≤ cost e = value_few e true (temporary w) in
      (let two : (writes w.program d.place false (temporary w) target ((means w e).value true (temporary w)).gives).size ≤ 1 = writes_small w.program d.place false (temporary w) target ((means w e).value true (temporary w)).gives in
      (let goal : ((means w e).value true (temporary w)).size + ((writes w.program d.place false (temporary w) target ((means w e).value true (temporary w)).gives).size + 0) ≤ 1 + cost e = omega (arith, one, two) in goal)))

  register_few : (d : TDeclarator) (i : TInit) → (begins_register w d i).size ≤ 1 + (init_cost i).instructions
  register_few d init.Nothing = (let goal : 1 ≤ 1 + 0 = omega arith in goal)
  register_few d (init.Value e) = (let one : (initialises w d e (InRegister d.variable false)).size ≤ 1 + cost e = initialises_few d e (InRegister d.variable false) in
      (let goal : (initialises w d e (InRegister d.variable false)).size ≤ 1 + (4 + (0 + cost e)) = omega (arith, one) in goal))
  register_few d (init.Elements items) = (let goal : 0 ≤ 1 + (init_cost (init.Elements items)).instructions = omega arith in goal)

  item_few : (object : ℕ) (i : TItem) → (stores_item w object i).size ≤ (item_cost i).instructions
  item_few object (item.Bytes n bytes) = (let goal : 0 ≤ 0 = omega arith in goal)
  item_few object (item.Value place n e) = (let one : ((means w e).value true (temporary w)).size ≤ cost e = value_few e true (temporary w) in
      (let goal : ((means w e).value true (temporary w)).size + 2 ≤ 4 + (0 + cost e) = omega (arith, one) in goal))

  items_few : (object : ℕ) (items : List TItem) → (stores_items w object items).size ≤ (in_row (map item_cost items)).instructions
  items_few object [] = (let goal : 0 ≤ 0 = omega arith in goal)
  items_few object (i ∷ items) = (let one : (stores_item w object i).size ≤ (item_cost i).instructions = item_few object i in
      (let two : (stores_items w object items).size ≤ (in_row (map item_cost items)).instructions = items_few object items in
      (let goal : (stores_item w object i).size + (stores_items w object items).size ≤ (item_cost i).instructions + (in_row (map item_cost items)).instructions = omega (arith, one, two) in goal)))

  object_few : (d : TDeclarator) (object : ℕ) (i : TInit) → (begins_object w d object i).size ≤ 1 + (init_cost i).instructions
  object_few d object init.Nothing = (let goal : 0 ≤ 1 + 0 = omega arith in goal)
  object_few d object (init.Value e) = (let one : ((means w e).value true (temporary w)).size ≤ cost e = value_few e true (temporary w) in
      (let goal : ((means w e).value true (temporary w)).size + 2 ≤ 1 + (4 + (0 + cost e)) = omega (arith, one) in goal))
  object_few d object (init.Elements items) = (let one : (stores_items w object items).size ≤ (in_row (map item_cost items)).instructions = items_few object items in
      (let goal : 1 + (stores_items w object items).size ≤ 1 + (in_row (map item_cost items)).instructions = omega (arith, one) in goal))

  by_few : (d : TDeclarator) (n : ℕ) → (declares_by w d n).size ≤ 3 + (init_cost d.init).instructions
  by_few d zero = (let one : (begins_register w d d.init).size ≤ 1 + (init_cost d.init).instructions = register_few d d.init in
      (let goal : (begins_register w d d.init).size ≤ 3 + (init_cost d.init).instructions = omega (arith, one) in goal))
  by_few d (suc n) = (let one : (begins_object w d 0 d.init).size ≤ 1 + (init_cost d.init).instructions = object_few d 0 d.init in
      (let goal : 1 + (1 + (begins_object w d 0 d.init).size) ≤ 3 + (init_cost d.init).instructions = omega (arith, one) in goal))

  one_few : (d : TDeclarator) → (declares w d).size ≤ 3 + (init_cost d.init).instructions
  unfolding declares
  one_few d = by_few d (elements_of (slice_get w.vars d.variable))

  declared_few : (place : Place) (ds : List TDeclarator) → (declares_all w place ds).size ≤ (declared_cost ds).instructions
  declared_few place [] = (let goal : 0 ≤ 0 = omega arith in goal)
  declared_few place (d ∷ ds) = (let one : (declares w d).size ≤ 3 + (init_cost d.init).instructions = one_few d in
      (let two : (declares_all w place ds).size ≤ (declared_cost ds).instructions = declared_few place ds in
      (let goal : (declares w d).size + (declares_all w place ds).size ≤ (32 + (init_cost d.init).instructions) + (declared_cost ds).instructions = omega (arith, one, two) in goal)))

  starts_few : (place : Place) (f : TFirst) → (starts_with w place f).size ≤ (first_cost f).instructions
  starts_few place start.Nothing = (let goal : 0 ≤ 0 = omega arith in goal)
  starts_few place (start.Value e) = drops_few e
  starts_few place (start.Declare list) = declared_few place list

  -- STATEMENTS, each with some instructions less than it costs: those of the scope that it may open
  abbrev Few : Stretch → Cost → Type 0
  Few t c = t.size + 7 ≤ c.instructions

  followed_few : (s rest : Stretch) (n : ℕ) → (followed_by w.program s n rest).size ≤ (s.size + rest.size) + 7
  followed_few s rest zero = (let goal : s.size + rest.size ≤ (s.size + rest.size) + 7 = omega arith in goal)
  followed_few s rest (suc n) =
      (let one : over_size (rest.jumps.breaks || rest.jumps.continues) ≤ 1 = over_few (rest.jumps.breaks || rest.jumps.continues) in
      (let two : pad_size rest.jumps.breaks ≤ 2 = pad_few rest.jumps.breaks in
      (let three : pad_size rest.jumps.continues ≤ 2 = pad_few rest.jumps.continues in
      (let goal : s.size + ((rest.size + ((over_size (rest.jumps.breaks || rest.jumps.continues) + pad_size rest.jumps.breaks) + pad_size rest.jumps.continues)) + 1) ≤ (s.size + rest.size) + 7 = omega (arith, one, two, three) in goal))))

  abbrev AllFew : List Stretch → List Cost → Type 0
  AllFew [] [] = Unit {0}
  AllFew (t ∷ ts) [] = ⊥
  AllFew [] (c ∷ cs) = ⊥
  AllFew (t ∷ ts) (c ∷ cs) = Few t c × AllFew ts cs

  order_few : (place : Place) (ts : List Stretch) (cs : List Cost) → AllFew ts cs → (in_order w.program place ts).size ≤ (in_row cs).instructions
  order_few place [] [] all = (let goal : 0 ≤ 0 = omega arith in goal)
  order_few place (t ∷ ts) [] all = absurd all
  order_few place [] (c ∷ cs) all = absurd all
  order_few place (t ∷ ts) (c ∷ cs) all =
      (let one : t.size + 7 ≤ c.instructions = all.0 in
      (let two : (in_order w.program place ts).size ≤ (in_row cs).instructions = order_few place ts cs all.1 in
      (let three : (followed_by w.program t t.opens (in_order w.program place ts)).size ≤ (t.size + (in_order w.program place ts).size) + 7 = followed_few t (in_order w.program place ts) t.opens in
      (let goal : (followed_by w.program t t.opens (in_order w.program place ts)).size ≤ c.instructions + (in_row cs).instructions = omega (arith, one, two, three) in goal))))

  settled_few : (unless : Bool) (t : Stretch) (n : ℕ) → t.size + 2 ≤ n → (settled_unless unless w.program t).size ≤ n
  settled_few true t n few = (let goal : t.size ≤ n = omega (arith, few) in goal)
  settled_few false t n few = (let goal : (1 + t.size) + 1 ≤ n = omega (arith, few) in goal)

  with_seven : (n m : ℕ) (c : ℕ) → n ≤ m → m + 7 ≤ c → n + 7 ≤ c
  with_seven n m c few sum = omega (arith, few, sum)

  expression_few : (spot : Spot) (e : TExpr) → (expression w spot e).size + 7 ≤ 64 + cost e
  unfolding expression
  expression_few spot e = with_seven (drops w e).size (cost e) (64 + cost e) (drops_few e) (omega arith)

  compound_few : (spot : Spot) (ts : List Stretch) (cs : List Cost) → AllFew ts cs → (compound w spot ts).size + 7 ≤ 64 + (in_row cs).instructions
  unfolding compound
  compound_few spot ts cs all = with_seven (in_order w.program spot.place ts).size (in_row cs).instructions (64 + (in_row cs).instructions) (order_few spot.place ts cs all) (omega arith)

  abbrev OptionFew : Option Stretch → Option Cost → Type 0
  OptionFew None None = Unit {0}
  OptionFew (Some t) None = ⊥
  OptionFew None (Some c) = ⊥
  OptionFew (Some t) (Some c) = Few t c

  if_few_ : (spot : Spot) (test : TExpr) (one : Stretch) (other : Option Stretch) (a : Cost) (b : Option Cost) → Few one a → OptionFew other b
      → (if_else w spot test one other).size + 7 ≤ 64 + (cost test + (a.instructions + (cost_or_free b).instructions))
  unfolding if_else
  if_few_ spot test one None a None first second =
      (let x : ((means w test).value true (temporary w)).size ≤ cost test = value_few test true (temporary w) in
      with_seven _ (((((means w test).value true (temporary w)).size + 1) + one.size) + 2) (64 + (cost test + (a.instructions + 0)))
      (settled_few (is_left one.jumps) (one_arm w.program spot.place ((means w test).value true (temporary w)) one) (((((means w test).value true (temporary w)).size + 1) + one.size) + 2) (let goal : ((((means w test).value true (temporary w)).size + 1) + one.size) + 2 ≤ ((((means w test).value true (temporary w)).size + 1) + one.size) + 2 = omega arith in goal))
      (omega (arith, x, first)))
  if_few_ spot test one (Some other) a None first second = absurd second
  if_few_ spot test one None a (Some b) first second = absurd second
  if_few_ spot test one (Some other) a (Some b) first second =
      (let x : ((means w test).value true (temporary w)).size ≤ cost test = value_few test true (temporary w) in
      (let y : one.size + 7 ≤ a.instructions = first in
      (let z : other.size + 7 ≤ b.instructions = second in
      with_seven _ (((((((means w test).value true (temporary w)).size + 1) + one.size) + 1) + other.size) + 2) (64 + (cost test + (a.instructions + b.instructions)))
      (settled_few (is_left (two_arms w.program spot.place ((means w test).value true (temporary w)) one other).jumps) (two_arms w.program spot.place ((means w test).value true (temporary w)) one other)
      (((((((means w test).value true (temporary w)).size + 1) + one.size) + 1) + other.size) + 2)
      (let goal : ((((((means w test).value true (temporary w)).size + 1) + one.size) + 1) + other.size) + 2 ≤ ((((((means w test).value true (temporary w)).size + 1) + one.size) + 1) + other.size) + 2 = omega arith in goal))
      (omega (arith, x, y, z)))))

  -- a loop has at most so many more than its condition, its step and its body
  loop_few : (l : LoopParts) → (loop w.program l).size ≤ 20 + (l.test.size + (l.step.size + l.body.size))
  loop_few l =
      (let a : one_if l.counted ≤ 1 = if_few l.counted in
      (let b : one_if (saves_body l) ≤ 1 = if_few (saves_body l) in
      (let c : over_size l.body.jumps.breaks ≤ 1 = over_few l.body.jumps.breaks in
      (let d : pad_size l.body.jumps.breaks ≤ 2 = pad_few l.body.jumps.breaks in
      (let e : one_if (restores_step l) ≤ 1 = if_few (restores_step l) in
      (let f : one_if l.tested ≤ 1 = if_few l.tested in
      settled_few (stays_behind_loop l.counted l.body.jumps) (inside_loop w.program l) (20 + (l.test.size + (l.step.size + l.body.size)))
      (let goal : (((((1 + one_if l.tested) + (((((((one_if l.counted + one_if (saves_body l)) + 1) + l.body.size) + (over_size l.body.jumps.breaks + pad_size l.body.jumps.breaks)) + 1) + one_if (saves_body l)) + one_if (restores_step l) + l.step.size)) + l.test.size) + 1) + 1) + 2
      ≤ 20 + (l.test.size + (l.step.size + l.body.size)) = omega (arith, a, b, c, d, e, f) in goal)))))))

  test_few : (test : Option TExpr) → (test_or_one w test).size ≤ (option_cost test).instructions
  test_few None = (let goal : 0 ≤ 0 = omega arith in goal)
  test_few (Some e) = value_few e true (temporary w)

  step_few : (step : Option TExpr) → (step_or_none w step).size ≤ (option_cost step).instructions
  step_few None = (let goal : 0 ≤ 0 = omega arith in goal)
  step_few (Some e) = drops_few e

  abbrev pub parts_of : Spot → ℕ → Option TExpr → Option TExpr → Stretch → Bool → LoopParts
  parts_of spot number test step body tested = record {
    place = spot.place;
    region = loop_region w.function number;
    test = test_or_one w test;
    step = step_or_none w step;
    body = body;
    counted = flag (slice_get w.program.marks.counted number);
    tested = tested;
  }

  source_loop_few : (spot : Spot) (number : ℕ) (test step : Option TExpr) (body : Stretch) (tested : Bool)
      → (source_loop w spot number test step body tested).size ≤ 20 + ((option_cost test).instructions + ((option_cost step).instructions + body.size))
  source_loop_few spot number test step body tested =
      (let one : (test_or_one w test).size ≤ (option_cost test).instructions = test_few test in
      (let two : (step_or_none w step).size ≤ (option_cost step).instructions = step_few step in
      (let three : (source_loop w spot number test step body tested).size ≤ 20 + ((test_or_one w test).size + ((step_or_none w step).size + body.size)) = loop_few (parts_of spot number test step body tested) in
      (let goal : (source_loop w spot number test step body tested).size ≤ 20 + ((option_cost test).instructions + ((option_cost step).instructions + body.size)) = omega (arith, one, two, three) in goal))))

  while_few : (spot : Spot) (number : ℕ) (test : TExpr) (body : Stretch) (tested : Bool) (c : Cost) → Few body c → (source_loop w spot number (Some test) None body tested).size + 7 ≤ 64 + (cost test + c.instructions)
  while_few spot number test body tested c few =
      (let one : (source_loop w spot number (Some test) None body tested).size ≤ 20 + (cost test + (0 + body.size)) = source_loop_few spot number (Some test) None body tested in
      (let two : body.size + 7 ≤ c.instructions = few in
      (let goal : (source_loop w spot number (Some test) None body tested).size + 7 ≤ 64 + (cost test + c.instructions) = omega (arith, one, two) in goal)))

  do_few : (spot : Spot) (number : ℕ) (test : TExpr) (body : Stretch) (tested : Bool) (c : Cost) → Few body c → (source_loop w spot number (Some test) None body tested).size + 7 ≤ 64 + (c.instructions + cost test)
  do_few spot number test body tested c few =
      (let one : (source_loop w spot number (Some test) None body tested).size + 7 ≤ 64 + (cost test + c.instructions) = while_few spot number test body tested c few in
      (let goal : (source_loop w spot number (Some test) None body tested).size + 7 ≤ 64 + (c.instructions + cost test) = omega (arith, one) in goal))

  for_few : (spot : Spot) (number : ℕ) (f : TFirst) (test step : Option TExpr) (body : Stretch) (c : Cost) → Few body c
      → (for_loop w spot number f test step body).size + 7 ≤ 64 + ((first_cost f).instructions + ((option_cost test).instructions + ((option_cost step).instructions + c.instructions)))
  unfolding for_loop
  for_few spot number f test step body c few =
      (let one : (source_loop w spot number test step body true).size ≤ 20 + ((option_cost test).instructions + ((option_cost step).instructions + body.size)) = source_loop_few spot number test step body true in
      (let two : body.size + 7 ≤ c.instructions = few in
      (let three : (starts_with w spot.place f).size ≤ (first_cost f).instructions = starts_few spot.place f in
      (let four : (followed_by w.program (starts_with w spot.place f) (starts_with w spot.place f).opens (source_loop w spot number test step body true)).size ≤ ((starts_with w spot.place f).size + (source_loop w spot number test step body true).size) + 7 =
      followed_few (starts_with w spot.place f) (source_loop w spot number test step body true) (starts_with w spot.place f).opens in
      with_seven _ (((first_cost f).instructions + (20 + ((option_cost test).instructions + ((option_cost step).instructions + body.size)))) + 7)
      (64 + ((first_cost f).instructions + ((option_cost test).instructions + ((option_cost step).instructions + c.instructions)))) (omega (arith, one, three, four)) (omega (arith, two))))))

  -- `switch`
  abbrev PartFew : PartLowered → Cost → Type 0
  PartFew (ACase place z) c = 2 ≤ c.instructions
  PartFew ADefault c = Unit {0}
  PartFew (AStatement t) c = Few t c

  abbrev PartsFew : List PartLowered → List Cost → Type 0
  PartsFew [] [] = Unit {0}
  PartsFew (p ∷ ps) [] = ⊥
  PartsFew [] (c ∷ cs) = ⊥
  PartsFew (p ∷ ps) (c ∷ cs) = PartFew p c × PartsFew ps cs

  parts_few : (place : Place) (ps : List PartLowered) (cs : List Cost) → PartsFew ps cs → cases_size ps + (in_order w.program place (statements_of ps)).size ≤ (in_row cs).instructions
  parts_few place [] [] all = (let goal : 0 ≤ 0 = omega arith in goal)
  parts_few place (p ∷ ps) [] all = absurd all
  parts_few place [] (c ∷ cs) all = absurd all
  parts_few place (ACase q z ∷ ps) (c ∷ cs) all =
      (let one : 2 ≤ c.instructions = all.0 in
      (let two : cases_size ps + (in_order w.program place (statements_of ps)).size ≤ (in_row cs).instructions = parts_few place ps cs all.1 in
      (let goal : (2 + cases_size ps) + (in_order w.program place (statements_of ps)).size ≤ c.instructions + (in_row cs).instructions = omega (arith, one, two) in goal)))
  parts_few place (ADefault ∷ ps) (c ∷ cs) all =
      (let two : cases_size ps + (in_order w.program place (statements_of ps)).size ≤ (in_row cs).instructions = parts_few place ps cs all.1 in
      (let goal : cases_size ps + (in_order w.program place (statements_of ps)).size ≤ c.instructions + (in_row cs).instructions = omega (arith, two) in goal))
  parts_few place (AStatement t ∷ ps) (c ∷ cs) all =
      (let one : t.size + 7 ≤ c.instructions = all.0 in
      (let two : cases_size ps + (in_order w.program place (statements_of ps)).size ≤ (in_row cs).instructions = parts_few place ps cs all.1 in
      (let three : (followed_by w.program t t.opens (in_order w.program place (statements_of ps))).size ≤ (t.size + (in_order w.program place (statements_of ps)).size) + 7 = followed_few t (in_order w.program place (statements_of ps)) t.opens in
      (let goal : cases_size ps + (followed_by w.program t t.opens (in_order w.program place (statements_of ps))).size ≤ c.instructions + (in_row cs).instructions = omega (arith, one, two, three) in goal))))

  switch_few : (spot : Spot) (kind : Kind) (on : TExpr) (ps : List PartLowered) (cs : List Cost) → PartsFew ps cs → (switch w spot kind on ps).size + 7 ≤ 64 + ((0 + cost on) + (in_row cs).instructions)
  unfolding switch
  switch_few spot kind on ps cs all =
      (let one : ((means w on).value (has_case ps) (temporary w)).size ≤ cost on = value_few on (has_case ps) (temporary w) in
      (let two : cases_size ps + (in_order w.program spot.place (statements_of ps)).size ≤ (in_row cs).instructions = parts_few spot.place ps cs all in
      (let three : skips_size (before_default ps) ≤ 1 = skips_few (before_default ps) in
      with_seven _ ((cost on + (in_row cs).instructions) + 3) (64 + ((0 + cost on) + (in_row cs).instructions))
      (settled_few (is_left (out_of_switch (in_order w.program spot.place (statements_of ps)).jumps)) (switches w.program spot.place kind (temporary w) ps ((means w on).value (has_case ps) (temporary w))) ((cost on + (in_row cs).instructions) + 3)
      (let goal : (((((means w on).value (has_case ps) (temporary w)).size + cases_size ps) + skips_size (before_default ps)) + (in_order w.program spot.place (statements_of ps)).size) + 2 ≤ (cost on + (in_row cs).instructions) + 3 = omega (arith, one, two, three) in goal))
      (omega arith))))

  break_few : (spot : Spot) → (break w spot).size + 7 ≤ 64
  unfolding break
  break_few spot = (let goal : 8 ≤ 64 = omega arith in goal)

  continue_few : (spot : Spot) → (continue w spot).size + 7 ≤ 64
  unfolding continue
  continue_few spot = (let goal : 8 ≤ 64 = omega arith in goal)

  returns_few : (place : Place) (value : Option TExpr) → (returns_value w place value).size ≤ 1 + (option_cost value).instructions
  returns_few place None = (let goal : 1 ≤ 1 + 0 = omega arith in goal)
  returns_few place (Some e) = (let one : ((means w e).value true (temporary w)).size ≤ cost e = value_few e true (temporary w) in
      (let goal : ((means w e).value true (temporary w)).size + 1 ≤ 1 + cost e = omega (arith, one) in goal))

  return_few : (spot : Spot) (value : Option TExpr) → (return w spot value).size + 7 ≤ 64 + (option_cost value).instructions
  unfolding return
  return_few spot value = with_seven (returns_value w spot.place value).size (1 + (option_cost value).instructions) (64 + (option_cost value).instructions) (returns_few spot.place value) (omega arith)

  declaration_few : (spot : Spot) (list : List TDeclarator) → (declaration w spot list).size + 7 ≤ 64 + (declared_cost list).instructions
  unfolding declaration
  declaration_few spot list = with_seven (declares_all w spot.place list).size (declared_cost list).instructions (64 + (declared_cost list).instructions) (declared_few spot.place list) (omega arith)

  -- THE TREE
  abbrev made : TStmt → Stretch
  made = lowered w

  abbrev made_part : TPart → PartLowered
  made_part = fold-TPart PartLowered Stretch part_step (lower_step w)

  abbrev part_cost : TPart → Cost
  part_cost = fold-TPart Cost Cost part_cost_step stmt_cost_step

  abbrev FewStmt : TStmt → Type 0
  FewStmt s = Few (made s) (stmt_cost s)

  abbrev FewPart : TPart → Type 0
  FewPart p = PartFew (made_part p) (part_cost p)

  all_few : {B : Type 0} (items : List B) (stmt : B → TStmt) → ((b : B) → FewStmt (stmt b)) → AllFew (map made (map stmt items)) (map stmt_cost (map stmt items))
  all_few [] stmt each = tt
  all_few (b ∷ items) stmt each = (each b, all_few items stmt each)

  all_parts_few : {B : Type 0} (items : List B) (part : B → TPart) → ((b : B) → FewPart (part b)) → PartsFew (map made_part (map part items)) (map part_cost (map part items))
  all_parts_few [] part each = tt
  all_parts_few (b ∷ items) part each = (each b, all_parts_few items part each)

  abbrev PartLayer : TPart-F TPart TStmt → Type 0
  PartLayer z = PartFew (part_step (map-TPart TPart TStmt PartLowered Stretch made_part made z)) (part_cost_step (map-TPart TPart TStmt Cost Cost part_cost stmt_cost z))

  abbrev StmtLayer : TStmt-F TPart TStmt → Type 0
  StmtLayer z = Few (lower_step w (map-TStmt TPart TStmt PartLowered Stretch made_part made z)) (stmt_cost_step (map-TStmt TPart TStmt Cost Cost part_cost stmt_cost z))

  part_by : (y : TPart-F ((p : TPart) × FewPart p) ((s : TStmt) × FewStmt s)) → PartLayer (map-TPart _ _ TPart TStmt (λ (x : (p : TPart) × FewPart p). x.0) (λ (x : (s : TStmt) × FewStmt s). x.0) y)
  part_by (TPart-F.Case p z) = (let goal : 2 ≤ 16 = omega arith in goal)
  part_by (TPart-F.Default p) = tt
  part_by (TPart-F.Does p s) = s.1

  stmt_by : (y : TStmt-F ((p : TPart) × FewPart p) ((s : TStmt) × FewStmt s)) → StmtLayer (map-TStmt _ _ TPart TStmt (λ (x : (p : TPart) × FewPart p). x.0) (λ (x : (s : TStmt) × FewStmt s). x.0) y)
  stmt_by (TStmt-F.Expr spot e) = expression_few spot e
  stmt_by (TStmt-F.Empty spot) = (let goal : 7 ≤ 64 = omega arith in goal)
  stmt_by (TStmt-F.Block spot parts) = compound_few spot _ _ (all_few parts (λ x. x.0) (λ x. x.1))
  stmt_by (TStmt-F.If spot test a None) = if_few_ spot test (made a.0) None (stmt_cost a.0) None a.1 tt
  stmt_by (TStmt-F.If spot test a (Some b)) = if_few_ spot test (made a.0) (Some (made b.0)) (stmt_cost a.0) (Some (stmt_cost b.0)) a.1 b.1
  stmt_by (TStmt-F.While spot number test a) = while_few spot number test (made a.0) true (stmt_cost a.0) a.1
  stmt_by (TStmt-F.DoWhile spot number a test) = do_few spot number test (made a.0) false (stmt_cost a.0) a.1
  stmt_by (TStmt-F.For spot number f test step a) = for_few spot number f test step (made a.0) (stmt_cost a.0) a.1
  stmt_by (TStmt-F.Switch spot kind on parts) = switch_few spot kind on _ _ (all_parts_few parts (λ x. x.0) (λ x. x.1))
  stmt_by (TStmt-F.Break spot) = break_few spot
  stmt_by (TStmt-F.Continue spot) = continue_few spot
  stmt_by (TStmt-F.Return spot value) = return_few spot value
  stmt_by (TStmt-F.Declare spot list) = declaration_few spot list

  -- A STATEMENT
  pub statement_few : (s : TStmt) → FewStmt s
  statement_few =
      ind-TStmt FewPart FewStmt
      (λ x y is.
      subst (λ p. PartFew p (part_cost (roll-TPart x))) (sym (fold-roll-TPart PartLowered Stretch part_step (lower_step w) x))
      (subst (λ c. PartFew (part_step (map-TPart TPart TStmt PartLowered Stretch made_part made x)) c) (sym (fold-roll-TPart Cost Cost part_cost_step stmt_cost_step x)) (subst PartLayer is (part_by y))))
      (λ x y is.
      subst (λ t. Few t (stmt_cost (roll-TStmt x))) (sym (fold-roll-TStmt PartLowered Stretch part_step (lower_step w) x))
      (subst (λ c. Few (lower_step w (map-TStmt TPart TStmt PartLowered Stretch made_part made x)) c) (sym (fold-roll-TStmt Cost Cost part_cost_step stmt_cost_step x)) (subst StmtLayer is (stmt_by y))))

  pub statements_few : (ss : List TStmt) → AllFew (map made ss) (map stmt_cost ss)
  statements_few [] = tt
  statements_few (s ∷ ss) = (statement_few s, statements_few ss)

-- PARAMETERS
serves_by_few : (program : Program) (register : ℕ) (place : Place) (n count : ℕ) → (serves_by program register place n count).size ≤ 4
serves_by_few program register place n zero = (let goal : 0 ≤ 4 = omega arith in goal)
serves_by_few program register place n (suc count) = (let goal : 4 ≤ 4 = omega arith in goal)

serves_few : (program : Program) (register : ℕ) (close : Place) (n count : ℕ) (vs : List TVariable) → (serves program register close n count vs).size ≤ 16 * count
serves_few program register close n zero vs = (let goal : 0 ≤ 16 * 0 = omega arith in goal)
serves_few program register close n (suc count) [] = (let goal : 0 ≤ 16 * suc count = omega arith in goal)
serves_few program register close n (suc count) (v ∷ vs) =
    (let one : (serves_by program register v.place n v.elements).size ≤ 4 = serves_by_few program register v.place n v.elements in
    (let two : (serves program register close (n + 1) count vs).size ≤ 16 * count = serves_few program register close (n + 1) count vs in
    (let goal : (serves_by program register v.place n v.elements).size + (serves program register close (n + 1) count vs).size ≤ 16 * suc count = omega (arith, one, two) in goal)))

-- A FUNCTION HAS AT MOST so many instructions as its constructs cost
pub function_few : (program : Program) (number : ℕ) (f : TFunc) → (function program number f).size ≤ instructions_of f
unfolding function
function_few program number f =
    (let one : (serves program (length f.variables) f.close 0 f.params f.variables).size ≤ 16 * f.params = serves_few program (length f.variables) f.close 0 f.params f.variables in
    (let two : (in_order program f.close (map (lowered (inside program number f)) f.body)).size ≤ (body_cost f.body).instructions =
    order_few (inside program number f) f.close (map (lowered (inside program number f)) f.body) (map stmt_cost f.body) (statements_few (inside program number f) f.body) in
    (let goal : (serves program (length f.variables) f.close 0 f.params f.variables).size + ((in_order program f.close (map (lowered (inside program number f)) f.body)).size + 1) ≤ (16 + 16 * f.params) + (body_cost f.body).instructions =
    omega (arith, one, two) in goal)))
