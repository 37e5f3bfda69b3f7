-- Constants, the numbers of strings and formats are in range, in a source without faults whose literals are as the laws ask.
use Rattle.std.proofs.Common.{◌≡◌, ℕ, ◌<◌, Bool, true, ◌&&◌, List, [], ◌∷◌, ◌++◌, map, length, Option, Some, None, refl, sym, ◌∙◌, subst, arith}
use Rattle.std.specs.Prelude.{All, nat_le, nat_lt}
use Rattle.std.proofs.lemmas.Bool.{and_from, and_parts}
use Rattle.std.proofs.lemmas.Bool.Decides.{nat_tests}
use Rattle.std.proofs.lemmas.List.Elements.{All-head, All-tail}
use Rattle.k_tree.specs.declared.tree.unit.Unit as source
use Rattle.k_tree.specs.Literals.{NumbersOfUnitAreHeld, StringsOfUnitFit}
use Rattle.k_tree.specs.Ranked.{RankedUnit}
use Rattle.k_tree.specs.Spelling.{spelling}
use Rattle.k_types_meaning.specs.declared.tree.declaration.TDeclarator.{TDeclarator}
use Rattle.k_types_meaning.specs.declared.tree.declaration.TInit.{TInit}
use Rattle.k_types_meaning.specs.declared.tree.declaration.TInit.TheVariants as begins
use Rattle.k_types_meaning.specs.declared.tree.declaration.TItem.{TItem}
use Rattle.k_types_meaning.specs.declared.tree.declaration.TItem.TheVariants as item
use Rattle.k_types_meaning.specs.declared.tree.expression.TExpr.{TExpr, fold-roll-TExpr, ind-TExpr, map-TExpr}
use Rattle.k_types_meaning.specs.declared.tree.expression.TExpr.TheOpen.{TExpr-F}
use Rattle.k_types_meaning.specs.declared.tree.statement.TFirst.{TFirst}
use Rattle.k_types_meaning.specs.declared.tree.statement.TFirst.TheVariants as first
use Rattle.k_types_meaning.specs.declared.tree.statement.TPart.{TPart, fold-TPart, fold-roll-TPart, map-TPart}
use Rattle.k_types_meaning.specs.declared.tree.statement.TPart.TheOpen.{TPart-F, TStmt-F}
use Rattle.k_types_meaning.specs.declared.tree.statement.TStmt.{TStmt, fold-roll-TStmt, ind-TStmt, map-TStmt}
use Rattle.k_types_meaning.specs.declared.tree.unit.TUnit.{TUnit}
use Rattle.k_types_meaning.specs.Bare.{IsTyped}
use Rattle.k_types_meaning.specs.Numbered.{Numbers, listed, expr_numbers, expr_numbers_step, option_numbers, item_numbers, init_numbers, declared_numbers, first_numbers, stmt_numbers, stmt_numbers_step, part_numbers_step, function_numbers}
use Rattle.k_types_meaning.specs.Units.{faults}
use Rattle.k_types_meaning.proofs.Fine.{AllOf}
use Rattle.k_lower_fits.proofs.Numbers.{strings_below}
use Rattle.k_lower_texts.specs.Passing as texts
use Rattle.k_lower_texts.specs.Passing.{all_pass, declared_pass, expr_passes, first_passes, init_passes, item_passes, items_pass, option_passes, stmt_passes}
use Rattle.k_lower_texts.proofs.Sources.{functions_pass}
use Rattle.k_evaluation_laws.specs.Ranges.{CharactersOfUnitAreHeld, ObjectsAreInRange}
use Rattle.k_evaluation_laws.proofs.Formats.{asks, formats_follow, literals_pass, numbers_follow}
use Rattle.k_evaluation_laws.proofs.Ranges as ranges
use Rattle.k_evaluation_laws.proofs.Ranges.{AreInRange, all_stand, most_written, declared_in_range, expr_in_range, first_in_range, init_in_range, item_in_range, items_in_range, option_in_range, stmt_in_range}

is_below : (n k : ℕ) → n < k → nat_lt n k ≡ true
is_below n k less = grind (arith, nat_tests, less)

module _ (strings : ℕ) where
  abbrev Below : List ℕ → Type 0
  Below ns = AllOf (λ n. n < strings) ns

  front_below : (xs ys : List ℕ) → Below (xs ++ ys) → Below xs
  front_below [] ys h = tt
  front_below (x ∷ xs) ys h = (h.0, front_below xs ys h.1)

  behind_below : (xs ys : List ℕ) → Below (xs ++ ys) → Below ys
  behind_below [] ys h = h
  behind_below (x ∷ xs) ys h = behind_below xs ys h.1

  -- a part that is in range is so with its strings
  abbrev Known : List ℕ → Bool → Bool → Type 0
  Known ns p r = Below ns → p ≡ true → r ≡ true

  both_known : (xs ys : List ℕ) (p o r q : Bool) → Known xs p r → Known ys o q → Known (xs ++ ys) (p && o) (r && q)
  both_known xs ys p o r q h k below also =
      let b = and_parts p o also in
      and_from r q (h (front_below xs ys below) b.0) (k (behind_below xs ys below) b.1)

  -- EXPRESSIONS
  abbrev names : TExpr → List ℕ
  names e = (expr_numbers e).strings

  abbrev passes : TExpr → Bool
  passes e = expr_passes asks e

  abbrev ranged : TExpr → Bool
  ranged e = expr_in_range strings e

  abbrev OfExpr : TExpr → Type 0
  OfExpr e = Known (names e) (passes e) (ranged e)

  abbrev trees : List ((e : TExpr) × OfExpr e) → List TExpr
  trees xs = map (λ (x : (e : TExpr) × OfExpr e). x.0) xs

  args_known : (args : List ((e : TExpr) × OfExpr e)) → Known (listed (map expr_numbers (trees args))).strings (all_pass (map passes (trees args))) (all_stand (map ranged (trees args)))
  args_known [] below k = refl
  args_known (a ∷ args) below k =
      both_known (names a.0) (listed (map expr_numbers (trees args))).strings (passes a.0) (all_pass (map passes (trees args))) (ranged a.0) (all_stand (map ranged (trees args))) a.1 (args_known args) below k

  abbrev Layer : TExpr-F TExpr → Type 0
  Layer z =
      Known (expr_numbers_step (map-TExpr TExpr Numbers expr_numbers z)).strings
      (texts.expr_step asks (map-TExpr TExpr Bool (expr_passes asks) z))
      (ranges.expr_step strings (map-TExpr TExpr Bool (expr_in_range strings) z))

  row : (y : TExpr-F ((e : TExpr) × OfExpr e)) → Layer (map-TExpr _ TExpr (λ (x : (e : TExpr) × OfExpr e). x.0) y)
  row (TExpr-F.Number node value) below k = k
  row (TExpr-F.Str node string bytes) below k = is_below string strings below.0
  row (TExpr-F.Object node object) below k = refl
  row (TExpr-F.Variable node variable) below k = refl
  row (TExpr-F.Index node a b) below k = both_known (names a.0) (names b.0) (passes a.0) (passes b.0) (ranged a.0) (ranged b.0) a.1 b.1 below k
  row (TExpr-F.Call node function args) below k = args_known args below k
  row (TExpr-F.Getchar node) below k = refl
  row (TExpr-F.Putchar node a) below k = a.1 below k
  row (TExpr-F.Puts node a) below k = a.1 below k
  row (TExpr-F.Printf node format args) below k =
      let p = and_parts (nat_le (most_written format) 2147483647) (all_pass (map passes (trees args))) k in
      and_from (nat_le (most_written format) 2147483647) (all_stand (map ranged (trees args))) p.0 (args_known args below p.1)
  row (TExpr-F.Post node by a) below k = a.1 below k
  row (TExpr-F.Pre node by a) below k = a.1 below k
  row (TExpr-F.Address node a) below k = a.1 below k
  row (TExpr-F.Deref node a) below k = a.1 below k
  row (TExpr-F.Plus node a) below k = a.1 below k
  row (TExpr-F.Unary node op kind a) below k = a.1 below k
  row (TExpr-F.Convert node a) below k = a.1 below k
  row (TExpr-F.Cast node a) below k = a.1 below k
  row (TExpr-F.Binary node op kind a b) below k = both_known (names a.0) (names b.0) (passes a.0) (passes b.0) (ranged a.0) (ranged b.0) a.1 b.1 below k
  row (TExpr-F.Both node a b) below k = both_known (names a.0) (names b.0) (passes a.0) (passes b.0) (ranged a.0) (ranged b.0) a.1 b.1 below k
  row (TExpr-F.Either node a b) below k = both_known (names a.0) (names b.0) (passes a.0) (passes b.0) (ranged a.0) (ranged b.0) a.1 b.1 below k
  row (TExpr-F.Forward node a b) below k = both_known (names a.0) (names b.0) (passes a.0) (passes b.0) (ranged a.0) (ranged b.0) a.1 b.1 below k
  row (TExpr-F.Onto node a b) below k = both_known (names a.0) (names b.0) (passes a.0) (passes b.0) (ranged a.0) (ranged b.0) a.1 b.1 below k
  row (TExpr-F.Back node a b) below k = both_known (names a.0) (names b.0) (passes a.0) (passes b.0) (ranged a.0) (ranged b.0) a.1 b.1 below k
  row (TExpr-F.PtrCompare node op a b) below k = both_known (names a.0) (names b.0) (passes a.0) (passes b.0) (ranged a.0) (ranged b.0) a.1 b.1 below k
  row (TExpr-F.PtrDistance node a b) below k = both_known (names a.0) (names b.0) (passes a.0) (passes b.0) (ranged a.0) (ranged b.0) a.1 b.1 below k
  row (TExpr-F.Cond node a b c) below k =
      both_known (names a.0) (names b.0 ++ names c.0) (passes a.0) (passes b.0 && passes c.0) (ranged a.0) (ranged b.0 && ranged c.0) a.1
      (both_known (names b.0) (names c.0) (passes b.0) (passes c.0) (ranged b.0) (ranged c.0) b.1 c.1) below k
  row (TExpr-F.Assign node a b) below k = both_known (names a.0) (names b.0) (passes a.0) (passes b.0) (ranged a.0) (ranged b.0) a.1 b.1 below k
  row (TExpr-F.AssignBy node by a b) below k = both_known (names a.0) (names b.0) (passes a.0) (passes b.0) (ranged a.0) (ranged b.0) a.1 b.1 below k
  row (TExpr-F.Comma node a b) below k = both_known (names a.0) (names b.0) (passes a.0) (passes b.0) (ranged a.0) (ranged b.0) a.1 b.1 below k

  expr_known : (e : TExpr) → OfExpr e
  expr_known =
      ind-TExpr OfExpr
      (λ x y is below k.
      fold-roll-TExpr Bool (ranges.expr_step strings) x
      ∙ (let here : Layer x = subst Layer is (row y) in
      here (subst (λ (ns : Numbers). Below ns.strings) (fold-roll-TExpr Numbers expr_numbers_step x) below) (sym (fold-roll-TExpr Bool (texts.expr_step asks) x) ∙ k)))

  option_known : (o : Option TExpr) → Known (option_numbers o).strings (option_passes asks o) (option_in_range strings o)
  option_known None below k = refl
  option_known (Some e) below k = expr_known e below k

  item_known : (i : TItem) → Known (item_numbers i).strings (item_passes asks i) (item_in_range strings i)
  item_known (item.Bytes n bytes) below k = refl
  item_known (item.Value p n e) below k = expr_known e below k

  items_known : (items : List TItem) → Known (listed (map item_numbers items)).strings (items_pass asks items) (items_in_range strings items)
  items_known [] below k = refl
  items_known (i ∷ items) below k =
      both_known (item_numbers i).strings (listed (map item_numbers items)).strings (item_passes asks i) (items_pass asks items) (item_in_range strings i) (items_in_range strings items)
      (item_known i) (items_known items) below k

  init_known : (i : TInit) → Known (init_numbers i).strings (init_passes asks i) (init_in_range strings i)
  init_known begins.Nothing below k = refl
  init_known (begins.Value e) below k = expr_known e below k
  init_known (begins.Elements items) below k = items_known items below k

  declared_known : (list : List TDeclarator) → Known (declared_numbers list).strings (declared_pass asks list) (declared_in_range strings list)
  declared_known [] below k = refl
  declared_known (d ∷ list) below k =
      both_known (init_numbers d.init).strings (declared_numbers list).strings (init_passes asks d.init) (declared_pass asks list) (init_in_range strings d.init) (declared_in_range strings list)
      (init_known d.init) (declared_known list) below k

  first_known : (f : TFirst) → Known (first_numbers f).strings (first_passes asks f) (first_in_range strings f)
  first_known first.Nothing below k = refl
  first_known (first.Value e) below k = expr_known e below k
  first_known (first.Declare list) below k = declared_known list below k

  -- STATEMENTS
  abbrev stmt_names : TStmt → List ℕ
  stmt_names s = (stmt_numbers s).strings

  abbrev part_numbers : TPart → Numbers
  part_numbers = fold-TPart Numbers Numbers part_numbers_step stmt_numbers_step

  abbrev part_passes : TPart → Bool
  part_passes = fold-TPart Bool Bool texts.part_step (texts.stmt_step asks)

  abbrev part_ranged : TPart → Bool
  part_ranged = fold-TPart Bool Bool ranges.part_step (ranges.stmt_step strings)

  abbrev OfStmt : TStmt → Type 0
  OfStmt s = Known (stmt_names s) (stmt_passes asks s) (stmt_in_range strings s)

  abbrev OfPart : TPart → Type 0
  OfPart p = Known (part_numbers p).strings (part_passes p) (part_ranged p)

  abbrev stmts : List ((s : TStmt) × OfStmt s) → List TStmt
  stmts xs = map (λ (x : (s : TStmt) × OfStmt s). x.0) xs

  abbrev parts_in : List ((p : TPart) × OfPart p) → List TPart
  parts_in xs = map (λ (x : (p : TPart) × OfPart p). x.0) xs

  stmts_known : (xs : List ((s : TStmt) × OfStmt s))
      → Known (listed (map stmt_numbers (stmts xs))).strings (all_pass (map (stmt_passes asks) (stmts xs))) (all_stand (map (stmt_in_range strings) (stmts xs)))
  stmts_known [] below k = refl
  stmts_known (x ∷ xs) below k =
      both_known (stmt_names x.0) (listed (map stmt_numbers (stmts xs))).strings (stmt_passes asks x.0) (all_pass (map (stmt_passes asks) (stmts xs))) (stmt_in_range strings x.0)
      (all_stand (map (stmt_in_range strings) (stmts xs))) x.1 (stmts_known xs) below k

  parts_known : (xs : List ((p : TPart) × OfPart p))
      → Known (listed (map part_numbers (parts_in xs))).strings (all_pass (map part_passes (parts_in xs))) (all_stand (map part_ranged (parts_in xs)))
  parts_known [] below k = refl
  parts_known (x ∷ xs) below k =
      both_known (part_numbers x.0).strings (listed (map part_numbers (parts_in xs))).strings (part_passes x.0) (all_pass (map part_passes (parts_in xs))) (part_ranged x.0)
      (all_stand (map part_ranged (parts_in xs))) x.1 (parts_known xs) below k

  abbrev PartLayer : TPart-F TPart TStmt → Type 0
  PartLayer z =
      Known (part_numbers_step (map-TPart TPart TStmt Numbers Numbers part_numbers stmt_numbers z)).strings
      (texts.part_step (map-TPart TPart TStmt Bool Bool part_passes (stmt_passes asks) z))
      (ranges.part_step (map-TPart TPart TStmt Bool Bool part_ranged (stmt_in_range strings) z))

  abbrev StmtLayer : TStmt-F TPart TStmt → Type 0
  StmtLayer z =
      Known (stmt_numbers_step (map-TStmt TPart TStmt Numbers Numbers part_numbers stmt_numbers z)).strings
      (texts.stmt_step asks (map-TStmt TPart TStmt Bool Bool part_passes (stmt_passes asks) z))
      (ranges.stmt_step strings (map-TStmt TPart TStmt Bool Bool part_ranged (stmt_in_range strings) z))

  part_row : (y : TPart-F ((p : TPart) × OfPart p) ((s : TStmt) × OfStmt s))
      → PartLayer (map-TPart _ _ TPart TStmt (λ (x : (p : TPart) × OfPart p). x.0) (λ (x : (s : TStmt) × OfStmt s). x.0) y)
  part_row (TPart-F.Case p z) below k = refl
  part_row (TPart-F.Default p) below k = refl
  part_row (TPart-F.Does p s) below k = s.1 below k

  stmt_row : (y : TStmt-F ((p : TPart) × OfPart p) ((s : TStmt) × OfStmt s))
      → StmtLayer (map-TStmt _ _ TPart TStmt (λ (x : (p : TPart) × OfPart p). x.0) (λ (x : (s : TStmt) × OfStmt s). x.0) y)
  stmt_row (TStmt-F.Expr spot e) below k = expr_known e below k
  stmt_row (TStmt-F.Empty spot) below k = refl
  stmt_row (TStmt-F.Block spot parts) below k = stmts_known parts below k
  stmt_row (TStmt-F.If spot test a None) below k =
      both_known (names test) (stmt_names a.0 ++ []) (passes test) (stmt_passes asks a.0 && true) (ranged test) (stmt_in_range strings a.0 && true) (expr_known test)
      (both_known (stmt_names a.0) [] (stmt_passes asks a.0) true (stmt_in_range strings a.0) true a.1 (λ none also. refl)) below k
  stmt_row (TStmt-F.If spot test a (Some b)) below k =
      both_known (names test) (stmt_names a.0 ++ stmt_names b.0) (passes test) (stmt_passes asks a.0 && stmt_passes asks b.0) (ranged test) (stmt_in_range strings a.0 && stmt_in_range strings b.0)
      (expr_known test) (both_known (stmt_names a.0) (stmt_names b.0) (stmt_passes asks a.0) (stmt_passes asks b.0) (stmt_in_range strings a.0) (stmt_in_range strings b.0) a.1 b.1) below k
  stmt_row (TStmt-F.While spot number test a) below k =
      both_known (names test) (stmt_names a.0) (passes test) (stmt_passes asks a.0) (ranged test) (stmt_in_range strings a.0) (expr_known test) a.1 below k
  stmt_row (TStmt-F.DoWhile spot number a test) below k =
      let q = and_parts (stmt_passes asks a.0) (passes test) k in
      and_from (ranged test) (stmt_in_range strings a.0) (expr_known test (behind_below (stmt_names a.0) (names test) below) q.1)
      (a.1 (front_below (stmt_names a.0) (names test) below) q.0)
  stmt_row (TStmt-F.For spot number start test step a) below k =
      both_known (first_numbers start).strings ((option_numbers test).strings ++ ((option_numbers step).strings ++ stmt_names a.0)) (first_passes asks start)
      (option_passes asks test && (option_passes asks step && stmt_passes asks a.0)) (first_in_range strings start)
      (option_in_range strings test && (option_in_range strings step && stmt_in_range strings a.0)) (first_known start)
      (both_known (option_numbers test).strings ((option_numbers step).strings ++ stmt_names a.0)
      (option_passes asks test) (option_passes asks step && stmt_passes asks a.0) (option_in_range strings test) (option_in_range strings step && stmt_in_range strings a.0) (option_known test)
      (both_known (option_numbers step).strings (stmt_names a.0) (option_passes asks step) (stmt_passes asks a.0) (option_in_range strings step) (stmt_in_range strings a.0) (option_known step) a.1)) below k
  stmt_row (TStmt-F.Switch spot kind on parts) below k =
      both_known (names on) (listed (map part_numbers (parts_in parts))).strings (passes on) (all_pass (map part_passes (parts_in parts))) (ranged on) (all_stand (map part_ranged (parts_in parts)))
      (expr_known on) (parts_known parts) below k
  stmt_row (TStmt-F.Break spot) below k = refl
  stmt_row (TStmt-F.Continue spot) below k = refl
  stmt_row (TStmt-F.Return spot value) below k = option_known value below k
  stmt_row (TStmt-F.Declare spot list) below k = declared_known list below k

  stmt_known : (s : TStmt) → OfStmt s
  stmt_known =
      ind-TStmt OfPart OfStmt
      (λ x y is below k.
      fold-roll-TPart Bool Bool ranges.part_step (ranges.stmt_step strings) x
      ∙ (let here : PartLayer x = subst PartLayer is (part_row y) in
      here (subst (λ (ns : Numbers). Below ns.strings) (fold-roll-TPart Numbers Numbers part_numbers_step stmt_numbers_step x) below)
      (sym (fold-roll-TPart Bool Bool texts.part_step (texts.stmt_step asks) x) ∙ k)))
      (λ x y is below k.
      fold-roll-TStmt Bool Bool ranges.part_step (ranges.stmt_step strings) x
      ∙ (let here : StmtLayer x = subst StmtLayer is (stmt_row y) in
      here (subst (λ (ns : Numbers). Below ns.strings) (fold-roll-TStmt Numbers Numbers part_numbers_step stmt_numbers_step x) below)
      (sym (fold-roll-TStmt Bool Bool texts.part_step (texts.stmt_step asks) x) ∙ k)))

  body_known : (ss : List TStmt) → Known (listed (map stmt_numbers ss)).strings (all_pass (map (stmt_passes asks) ss)) (all_stand (map (stmt_in_range strings) ss))
  body_known [] below k = refl
  body_known (s ∷ ss) below k =
      both_known (stmt_names s) (listed (map stmt_numbers ss)).strings (stmt_passes asks s) (all_pass (map (stmt_passes asks) ss)) (stmt_in_range strings s) (all_stand (map (stmt_in_range strings) ss))
      (stmt_known s) (body_known ss) below k

  all_below : (ns : List ℕ) → All (λ n. n < strings) ns → Below ns
  all_below [] h = tt
  all_below (n ∷ ns) h = (All-head (λ k. k < strings) n ns h, all_below ns (All-tail (λ k. k < strings) n ns h))

-- SO ALL IS in a source without faults whose literals are as the laws ask
pub all_in_range : (unit : source.Unit) (typed : TUnit) → RankedUnit unit → IsTyped unit typed → faults unit ≡ [] → StringsOfUnitFit unit → NumbersOfUnitAreHeld unit → CharactersOfUnitAreHeld unit
    → ObjectsAreInRange typed → AreInRange typed
unfolding IsTyped
all_in_range unit typed ranked h none few numbers characters objects = record {
  functions = λ n f there.
      body_known (length typed.strings) f.body (all_below (length typed.strings) (function_numbers f).strings (strings_below typed n f h.3 there))
      (functions_pass asks unit typed n f formats_follow numbers_follow (literals_pass (spelling unit) few numbers characters) (λ of m g at same. refl) ranked h none there);
  objects = objects;
}
