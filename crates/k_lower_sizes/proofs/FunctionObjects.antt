-- The code of each function speaks of no more of a call's objects than it has instructions.
use Rattle.std.proofs.Common.{ℕ, zero, suc, ◌+◌, ◌≤◌, Bool, true, false, List, [], ◌∷◌, map, length, slice_get, Option, Some, None, refl, sym, subst, arith}
use Rattle.std.specs.Prelude.{nat_eq, pos}
use Rattle.std.proofs.Math.Nat.{max-le}
use Rattle.k_num.specs.declared.place.Place.{Place}
use Rattle.k_types_meaning.specs.declared.tree.declaration.TDeclarator.{TDeclarator}
use Rattle.k_types_meaning.specs.declared.tree.declaration.TInit.{TInit}
use Rattle.k_types_meaning.specs.declared.tree.declaration.TInit.TheVariants as init
use Rattle.k_types_meaning.specs.declared.tree.declaration.TItem.{TItem}
use Rattle.k_types_meaning.specs.declared.tree.declaration.TItem.TheVariants as item
use Rattle.k_types_meaning.specs.declared.tree.expression.TExpr.{TExpr}
use Rattle.k_types_meaning.specs.declared.tree.statement.Spot.{Spot}
use Rattle.k_types_meaning.specs.declared.tree.statement.TFirst.{TFirst}
use Rattle.k_types_meaning.specs.declared.tree.statement.TFirst.TheVariants as start
use Rattle.k_types_meaning.specs.declared.tree.statement.TPart.{TPart, fold-TPart, fold-roll-TPart, map-TPart}
use Rattle.k_types_meaning.specs.declared.tree.statement.TPart.TheOpen.{TPart-F, TStmt-F}
use Rattle.k_types_meaning.specs.declared.tree.statement.TStmt.{TStmt, fold-roll-TStmt, ind-TStmt, map-TStmt}
use Rattle.k_types_meaning.specs.declared.tree.unit.TFunc.{TFunc}
use Rattle.k_types_meaning.specs.declared.tree.unit.TVariable.{TVariable}
use Rattle.k_types_meaning.specs.declared.types.TType.{TType}
use Rattle.k_types_meaning.specs.declared.types.TType.TheVariants as ttype
use Rattle.k_marks_meaning.specs.Jumps.{is_left, out_of_switch}
use Rattle.k_code.specs.declared.instruction.Arg.{Arg}
use Rattle.k_code.specs.declared.instruction.Arg.TheVariants.{Number, Reg}
use Rattle.k_code.specs.declared.instruction.Do.{Do}
use Rattle.k_code.specs.declared.instruction.Do.TheVariants as act
use Rattle.k_code.specs.declared.instruction.Home.TheVariants.{Local}
use Rattle.k_evaluation.specs.Declarations.{elements_of, values_from}
use Rattle.k_evaluation.specs.Loops.{loop_region}
use Rattle.k_evaluation.specs.Meanings.{flag}
use Rattle.k_evaluation.specs.States.{Program}
use Rattle.k_lower_code.specs.Assignments.{writes}
use Rattle.k_lower_code.specs.Declarations.{means, temporary, drops, initialises, begins_register, stores_at, stores_item, stores_items, begins_object, makes_variable, declares_by, declares, declares_all, starts_with}
use Rattle.k_lower_code.specs.Functions.{makes_parameter, serves_by, serves, falls_off, at_end, inside, function, function_code}
use Rattle.k_lower_code.specs.Lowered.{Designated, InRegister}
use Rattle.k_lower_code.specs.Loops.{source_loop, step_or_none, test_or_one}
use Rattle.k_lower_code.specs.Pieces.{Piece, only, ◌>>>◌, does, sets, instruction}
use Rattle.k_lower_code.specs.Statements.{arms, break, compound, continue, declaration, expression, for_loop, if_else, lower_step, lowered, part_step, return, returns_value}
use Rattle.k_lower_code.specs.Stretches.{Inside, Stretch, behind, in_order, of_piece}
use Rattle.k_lower_code.specs.Switches.{PartLowered, ACase, ADefault, AStatement, has_case, statements_of, switch, switches}
use Rattle.k_lower_sizes.specs.Laws.{AllOpenFew}
use Rattle.k_lower_sizes.specs.Named.{objects_named, objects_of}
use Rattle.k_lower_sizes.proofs.ExpressionObjects.{Plain, binds_plain, both_name, does_plain, expression_names_none, only_plain, writes_plain}
use Rattle.k_lower_sizes.proofs.StretchObjects.{AllFew, NamesFew, behind_few, followed_few, loop_few, nothing, nothing_few, of_piece_few, one_arm_few, order_few, settled_few, switches_few, two_arms_few, within}

-- A PIECE SPEAKS OF SO MANY objects
abbrev Names : {A : Type 0} → ℕ → Piece A → Type 0
Names bound piece = (first : ℕ) → objects_of (piece.code first) ≤ bound

plain_names : {A : Type 0} (bound : ℕ) (piece : Piece A) → Plain piece → Names bound piece
plain_names bound piece none first = within bound (piece.code first) (none first)

only_names : {A : Type 0} (bound : ℕ) (a : A) → Names bound (only a)
only_names bound a first = nothing bound

binds_names : {A B : Type 0} (bound : ℕ) (piece : Piece A) (next : A → Piece B) → Names bound piece → Names bound (next piece.gives) → Names bound (piece >>> next)
binds_names bound piece next one other first = both_name bound (piece.code first) ((next piece.gives).code (first + piece.size)) (one first) (other (first + piece.size))

does_names : (bound : ℕ) (program : Program) (place : Place) (what : Do) → objects_named what ≤ bound → Names bound (does program place what)
does_names bound program place what is first = max-le is (nothing bound)

local_names : (bound : ℕ) (program : Program) (place : Place) (object offset to : ℕ) → object + 1 ≤ bound → Names bound (does program place (act.Address (Local object) offset to))
unfolding objects_named
local_names bound program place object offset to low = does_names bound program place (act.Address (Local object) offset to) low

address_names : (bound : ℕ) (program : Program) (place : Place) (object offset to : ℕ) → object + 1 ≤ bound → Names bound (sets program place (act.Address (Local object) offset) to)
address_names bound program place object offset to low =
    binds_names bound (does program place (act.Address (Local object) offset to)) (λ done. only (Reg to false)) (local_names bound program place object offset to low) (only_names bound (Reg to false))

fill_names : (bound : ℕ) (program : Program) (place : Place) (object : ℕ) (items : List TItem) → object + 1 ≤ bound → Names bound (does program place (act.Fill object (values_from items)))
unfolding objects_named
fill_names bound program place object items low = does_names bound program place (act.Fill object (values_from items)) low

open_plain : (program : Program) (place : Place) (elements : ℕ) → Plain (does program place (act.ObjectOpen elements))
unfolding objects_named
open_plain program place elements = does_plain program place (act.ObjectOpen elements) (let e : 0 ≤ 0 = omega arith in e)

store_plain : (program : Program) (place : Place) (address a : Arg) → Plain (does program place (act.Store address a None))
unfolding objects_named
store_plain program place address a = does_plain program place (act.Store address a None) (let e : 0 ≤ 0 = omega arith in e)

forget_plain : (program : Program) (place : Place) (n : ℕ) → Plain (does program place (act.Forget n))
unfolding objects_named
forget_plain program place n = does_plain program place (act.Forget n) (let e : 0 ≤ 0 = omega arith in e)

return_plain : (program : Program) (place : Place) (value : Option Arg) → Plain (does program place (act.Return value))
unfolding objects_named
return_plain program place value = does_plain program place (act.Return value) (let e : 0 ≤ 0 = omega arith in e)

fall_plain : (program : Program) (place : Place) → Plain (does program place act.FallOff)
unfolding objects_named
fall_plain program place = does_plain program place act.FallOff (let e : 0 ≤ 0 = omega arith in e)

module _ (w : Inside) where
  -- EXPRESSIONS
  value_plain : (e : TExpr) (used : Bool) (r : ℕ) → Plain ((means w e).value used r)
  value_plain e used r = (expression_names_none w.program w.vars e).value used r

  drops_plain : (e : TExpr) → Plain (drops w e)
  drops_plain e = binds_plain {A = Arg} {B = Unit {0}} ((means w e).value false (temporary w)) (λ a. only tt) (value_plain e false (temporary w)) (only_plain {A = Unit {0}} tt)

  -- DECLARATIONS
  initialises_plain : (d : TDeclarator) (e : TExpr) (target : Designated) → Plain (initialises w d e target)
  initialises_plain d e target =
      binds_plain {A = Arg} {B = Unit {0}} ((means w e).value true (temporary w)) (λ a. writes w.program d.place false (temporary w) target a >>> λ v. only tt) (value_plain e true (temporary w))
      (binds_plain {A = Arg} {B = Unit {0}} (writes w.program d.place false (temporary w) target ((means w e).value true (temporary w)).gives) (λ v. only tt)
      (writes_plain w.program d.place false (temporary w) target ((means w e).value true (temporary w)).gives) (only_plain {A = Unit {0}} tt))

  register_plain : (d : TDeclarator) (i : TInit) → Plain (begins_register w d i)
  register_plain d init.Nothing = forget_plain w.program d.place d.variable
  register_plain d (init.Value e) = initialises_plain d e (InRegister d.variable false)
  register_plain d (init.Elements items) = only_plain {A = Unit {0}} tt

  stores_names : (bound : ℕ) (place : Place) (object n : ℕ) (e : TExpr) → object + 1 ≤ bound → Names bound (stores_at w place object n e)
  stores_names bound place object n e low =
      binds_names bound ((means w e).value true (temporary w)) (λ a. sets w.program place (act.Address (Local object) n) (temporary w + 1) >>> λ address. does w.program place (act.Store address a None))
      (plain_names bound ((means w e).value true (temporary w)) (value_plain e true (temporary w)))
      (binds_names bound (sets w.program place (act.Address (Local object) n) (temporary w + 1)) (λ address. does w.program place (act.Store address ((means w e).value true (temporary w)).gives None))
      (address_names bound w.program place object n (temporary w + 1) low)
      (plain_names bound (does w.program place (act.Store (Reg (temporary w + 1) false) ((means w e).value true (temporary w)).gives None))
      (store_plain w.program place (Reg (temporary w + 1) false) ((means w e).value true (temporary w)).gives)))

  item_names : (bound object : ℕ) (i : TItem) → object + 1 ≤ bound → Names bound (stores_item w object i)
  item_names bound object (item.Bytes n bytes) low = only_names {A = Unit {0}} bound tt
  item_names bound object (item.Value place n e) low = stores_names bound place object n e low

  items_names : (bound object : ℕ) (items : List TItem) → object + 1 ≤ bound → Names bound (stores_items w object items)
  items_names bound object [] low = only_names {A = Unit {0}} bound tt
  items_names bound object (i ∷ items) low = binds_names bound (stores_item w object i) (λ done. stores_items w object items) (item_names bound object i low) (items_names bound object items low)

  object_names : (bound : ℕ) (d : TDeclarator) (object : ℕ) (i : TInit) → object + 1 ≤ bound → Names bound (begins_object w d object i)
  object_names bound d object init.Nothing low = only_names {A = Unit {0}} bound tt
  object_names bound d object (init.Value e) low = stores_names bound d.place object 0 e low
  object_names bound d object (init.Elements items) low =
      binds_names bound (does w.program d.place (act.Fill object (values_from items))) (λ filled. stores_items w object items) (fill_names bound w.program d.place object items low) (items_names bound object items low)

  variable_names : (bound : ℕ) (d : TDeclarator) (elements object : ℕ) → object + 1 ≤ bound → Names bound (makes_variable w d elements object)
  variable_names bound d elements object low =
      binds_names bound (does w.program d.place (act.ObjectOpen elements)) (λ made. does w.program d.place (act.Address (Local object) 0 d.variable) >>> λ set. begins_object w d object d.init)
      (plain_names bound (does w.program d.place (act.ObjectOpen elements)) (open_plain w.program d.place elements))
      (binds_names bound (does w.program d.place (act.Address (Local object) 0 d.variable)) (λ set. begins_object w d object d.init) (local_names bound w.program d.place object 0 d.variable low)
      (object_names bound d object d.init low))

  by_few : (d : TDeclarator) (n : ℕ) → NamesFew (declares_by w d n)
  by_few d zero = of_piece_few d.place (begins_register w d d.init) (register_plain d d.init)
  by_few d (suc n) = record {
    opens = (let e : 1 ≤ (declares_by w d (suc n)).size = omega arith in e);
    names = λ site first. variable_names (site.objects + (declares_by w d (suc n)).size) d (suc n) site.objects (let e : site.objects + 1 ≤ site.objects + (declares_by w d (suc n)).size = omega arith in e) first;
  }

  one_few : (d : TDeclarator) → NamesFew (declares w d)
  unfolding declares
  one_few d = by_few d (elements_of (slice_get w.vars d.variable))

  declared_few : (place : Place) (ds : List TDeclarator) → NamesFew (declares_all w place ds)
  declared_few place [] = nothing_few place
  declared_few place (d ∷ ds) = behind_few (declares w d) (declares_all w place ds) (one_few d) (declared_few place ds)

  starts_few : (place : Place) (f : TFirst) → NamesFew (starts_with w place f)
  starts_few place start.Nothing = nothing_few place
  starts_few place (start.Value e) = of_piece_few place (drops w e) (drops_plain e)
  starts_few place (start.Declare list) = declared_few place list

  -- LOOPS
  test_plain : (test : Option TExpr) → Plain (test_or_one w test)
  test_plain None = only_plain {A = Arg} (Number (pos 1))
  test_plain (Some e) = value_plain e true (temporary w)

  step_plain : (step : Option TExpr) → Plain (step_or_none w step)
  step_plain None = only_plain {A = Unit {0}} tt
  step_plain (Some e) = drops_plain e

  source_loop_few : (spot : Spot) (number : ℕ) (test step : Option TExpr) (body : Stretch) (tested : Bool) → NamesFew body → NamesFew (source_loop w spot number test step body tested)
  source_loop_few spot number test step body tested is =
      loop_few w.program (record {
        place = spot.place;
        region = loop_region w.function number;
        test = test_or_one w test;
        step = step_or_none w step;
        body = body;
        counted = flag (slice_get w.program.marks.counted number);
        tested = tested;
      }) is (test_plain test) (step_plain step)

  -- THE TREE
  abbrev IfFew : Option Stretch → Type 0
  IfFew None = Unit {0}
  IfFew (Some t) = NamesFew t

  arms_few : (place : Place) (test : Piece Arg) (one : Stretch) (other : Option Stretch) → Plain test → NamesFew one → IfFew other → NamesFew (arms w.program place test one other)
  arms_few place test one None tested is also = one_arm_few w.program place test one tested is
  arms_few place test one (Some other) tested is also = two_arms_few w.program place test one other tested is also

  value_returned : (place : Place) (value : Option TExpr) → Plain (returns_value w place value)
  value_returned place None = return_plain w.program place None
  value_returned place (Some e) =
      binds_plain ((means w e).value true (temporary w)) (λ a. does w.program place (act.Return (Some a))) (value_plain e true (temporary w)) (return_plain w.program place (Some ((means w e).value true (temporary w)).gives))

  jump_few : (program : Program) (place : Place) (bound to : ℕ) → objects_of (instruction program place (act.Jump to) ∷ []) ≤ bound
  unfolding objects_named
  jump_few program place bound to = max-le (nothing bound) (nothing bound)

  abbrev PartFew : PartLowered → Type 0
  PartFew (ACase place z) = Unit {0}
  PartFew ADefault = Unit {0}
  PartFew (AStatement t) = NamesFew t

  abbrev made_part : TPart → PartLowered
  made_part = fold-TPart PartLowered Stretch part_step (lower_step w)

  abbrev StmtFew : TStmt → Type 0
  StmtFew s = NamesFew (lowered w s)

  abbrev PartsFew : TPart → Type 0
  PartsFew p = PartFew (made_part p)

  abbrev Stmts : Type 0
  Stmts = (s : TStmt) × StmtFew s

  abbrev Parts : Type 0
  Parts = (p : TPart) × PartsFew p

  first_part : (p : PartLowered) (ps : List PartLowered) → PartFew p → AllFew w.program (statements_of ps) → AllFew w.program (statements_of (p ∷ ps))
  first_part (ACase place z) ps is rest = rest
  first_part ADefault ps is rest = rest
  first_part (AStatement t) ps is rest = (is, rest)

  all_few : (items : List Stmts) → AllFew w.program (map (lowered w) (map (λ (x : Stmts). x.0) items))
  all_few [] = tt
  all_few (x ∷ items) = (x.1, all_few items)

  all_parts_few : (items : List Parts) → AllFew w.program (statements_of (map made_part (map (λ (x : Parts). x.0) items)))
  all_parts_few [] = tt
  all_parts_few (x ∷ items) = first_part (made_part x.0) (map made_part (map (λ (y : Parts). y.0) items)) x.1 (all_parts_few items)

  abbrev PartLayer : TPart-F TPart TStmt → Type 0
  PartLayer z = PartFew (part_step (map-TPart TPart TStmt PartLowered Stretch made_part (lowered w) z))

  abbrev StmtLayer : TStmt-F TPart TStmt → Type 0
  StmtLayer z = NamesFew (lower_step w (map-TStmt TPart TStmt PartLowered Stretch made_part (lowered w) z))

  part_by : (y : TPart-F Parts Stmts) → PartLayer (map-TPart _ _ TPart TStmt (λ (x : Parts). x.0) (λ (x : Stmts). x.0) y)
  part_by (TPart-F.Case p z) = tt
  part_by (TPart-F.Default p) = tt
  part_by (TPart-F.Does p s) = s.1

  stmt_by : (y : TStmt-F Parts Stmts) → StmtLayer (map-TStmt _ _ TPart TStmt (λ (x : Parts). x.0) (λ (x : Stmts). x.0) y)
  unfolding expression compound if_else for_loop switch break continue return declaration
  stmt_by (TStmt-F.Expr spot e) = of_piece_few spot.place (drops w e) (drops_plain e)
  stmt_by (TStmt-F.Empty spot) = nothing_few spot.place
  stmt_by (TStmt-F.Block spot parts) = order_few w.program spot.place _ (all_few parts)
  stmt_by (TStmt-F.If spot test a None) =
      settled_few w.program _ (arms w.program spot.place ((means w test).value true (temporary w)) (lowered w a.0) None)
      (arms_few spot.place ((means w test).value true (temporary w)) (lowered w a.0) None (value_plain test true (temporary w)) a.1 tt)
  stmt_by (TStmt-F.If spot test a (Some b)) =
      settled_few w.program _ (arms w.program spot.place ((means w test).value true (temporary w)) (lowered w a.0) (Some (lowered w b.0)))
      (arms_few spot.place ((means w test).value true (temporary w)) (lowered w a.0) (Some (lowered w b.0)) (value_plain test true (temporary w)) a.1 b.1)
  stmt_by (TStmt-F.While spot number test a) = source_loop_few spot number (Some test) None (lowered w a.0) true a.1
  stmt_by (TStmt-F.DoWhile spot number a test) = source_loop_few spot number (Some test) None (lowered w a.0) false a.1
  stmt_by (TStmt-F.For spot number f test step a) =
      followed_few w.program (starts_with w spot.place f) (source_loop w spot number test step (lowered w a.0) true) (starts_with w spot.place f).opens refl (starts_few spot.place f)
      (source_loop_few spot number test step (lowered w a.0) true a.1)
  stmt_by (TStmt-F.Switch spot kind on parts) =
      let ps : List PartLowered = map made_part (map (λ (x : Parts). x.0) parts) in
      settled_few w.program (is_left (out_of_switch (in_order w.program spot.place (statements_of ps)).jumps)) (switches w.program spot.place kind (temporary w) ps ((means w on).value (has_case ps) (temporary w)))
      (switches_few w.program spot.place kind (temporary w) ps ((means w on).value (has_case ps) (temporary w)) (value_plain on (has_case ps) (temporary w)) (all_parts_few parts))
  stmt_by (TStmt-F.Break spot) = record { opens = nothing 1; names = λ site first. jump_few w.program spot.place (site.objects + 1) site.breaks }
  stmt_by (TStmt-F.Continue spot) = record { opens = nothing 1; names = λ site first. jump_few w.program spot.place (site.objects + 1) site.continues }
  stmt_by (TStmt-F.Return spot value) =
      let is : NamesFew (of_piece spot.place (returns_value w spot.place value)) = of_piece_few spot.place (returns_value w spot.place value) (value_returned spot.place value) in
      record { opens = is.opens; names = is.names }
  stmt_by (TStmt-F.Declare spot list) = declared_few spot.place list

  stmt_few : (s : TStmt) → StmtFew s
  stmt_few =
      ind-TStmt PartsFew StmtFew
      (λ x y is. subst PartFew (sym (fold-roll-TPart PartLowered Stretch part_step (lower_step w) x)) (subst PartLayer is (part_by y)))
      (λ x y is. subst NamesFew (sym (fold-roll-TStmt PartLowered Stretch part_step (lower_step w) x)) (subst StmtLayer is (stmt_by y)))

  body_few : (body : List TStmt) → AllFew w.program (map (lowered w) body)
  body_few [] = tt
  body_few (s ∷ body) = (stmt_few s, body_few body)

-- PARAMETERS
module _ (program : Program) where
  makes_names : (bound r : ℕ) (place : Place) (n elements object : ℕ) → object + 1 ≤ bound → Names bound (makes_parameter program r place n elements object)
  makes_names bound r place n elements object low =
      binds_names bound (does program place (act.ObjectOpen elements))
      (λ made. sets program place (act.Address (Local object) 0) r >>> λ address. does program place (act.Store address (Reg n false) None) >>> λ stored. does program place (act.Address (Local object) 0 n))
      (plain_names bound (does program place (act.ObjectOpen elements)) (open_plain program place elements))
      (binds_names bound (sets program place (act.Address (Local object) 0) r)
      (λ address. does program place (act.Store address (Reg n false) None) >>> λ stored. does program place (act.Address (Local object) 0 n)) (address_names bound program place object 0 r low)
      (binds_names bound (does program place (act.Store (Reg r false) (Reg n false) None)) (λ stored. does program place (act.Address (Local object) 0 n))
      (plain_names bound (does program place (act.Store (Reg r false) (Reg n false) None)) (store_plain program place (Reg r false) (Reg n false))) (local_names bound program place object 0 n low)))

  serve_few : (r : ℕ) (place : Place) (n elements : ℕ) → NamesFew (serves_by program r place n elements)
  serve_few r place n zero = nothing_few place
  serve_few r place n (suc elements) = record {
    opens = (let e : 1 ≤ (serves_by program r place n (suc elements)).size = omega arith in e);
    names = λ site first. makes_names (site.objects + 4) r place n (suc elements) site.objects (omega arith) first;
  }

  serves_names : (r : ℕ) (close : Place) (n count : ℕ) (vs : List TVariable) → NamesFew (serves program r close n count vs)
  serves_names r close n zero vs = nothing_few close
  serves_names r close n (suc count) [] = nothing_few close
  serves_names r close n (suc count) (v ∷ vs) =
      behind_few (serves_by program r v.place n v.elements) (serves program r close (n + 1) count vs) (serve_few r v.place n v.elements) (serves_names r close (n + 1) count vs)

  falls_plain : (place : Place) (b : Bool) → Plain (does program place (falls_off b))
  falls_plain place true = return_plain program place None
  falls_plain place false = fall_plain program place

  end_plain : (place : Place) (number : ℕ) (of : TType) → Plain (does program place (at_end program number of))
  end_plain place number ttype.Void = return_plain program place None
  end_plain place number (ttype.Number kind) = falls_plain place (nat_eq number program.unit.main)
  end_plain place number (ttype.Pointer target) = falls_plain place (nat_eq number program.unit.main)

  -- A FUNCTION
  function_few_objects : (number : ℕ) (f : TFunc) → NamesFew (function program number f)
  unfolding function
  function_few_objects number f =
      behind_few (serves program (length f.variables) f.close 0 f.params f.variables)
      (behind (in_order program f.close (map (lowered (inside program number f)) f.body)) (of_piece f.close (does program f.close (at_end program number f.result))))
      (serves_names (length f.variables) f.close 0 f.params f.variables)
      (behind_few (in_order program f.close (map (lowered (inside program number f)) f.body)) (of_piece f.close (does program f.close (at_end program number f.result)))
      (order_few program f.close (map (lowered (inside program number f)) f.body) (body_few (inside program number f) f.body))
      (of_piece_few f.close (does program f.close (at_end program number f.result)) (end_plain f.close number f.result)))

  pub function_names : (number : ℕ) (f : TFunc) (first : ℕ) → objects_of (function_code program number f first) ≤ (function program number f).size
  function_names number f first =
      let few : objects_of (function_code program number f first) ≤ 0 + (function program number f).size = (function_few_objects number f).names (record { objects = 0; breaks = 0; continues = 0 }) first in
      omega (arith, few)

-- EACH OPENS FEW
pub all_open_few : AllOpenFew
all_open_few = record {
  parameters = λ program r close n count vs. (serves_names program r close n count vs).opens;
  declarations = λ w place ds. (declared_few w place ds).opens;
  first_parts = λ w place f. (starts_few w place f).opens;
  statements = λ w s. (stmt_few w s).opens;
}
