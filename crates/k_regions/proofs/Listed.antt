-- The loops that are found in statements are those that are numbered, in the same order: expressions have none.
use Rattle.std.proofs.Common.{◌≡◌, ℕ, List, [], ◌∷◌, ◌++◌, map, Option, Some, None, refl, sym, ◌∙◌, subst, ap}
use Rattle.std.proofs.lemmas.List.{append-nil, map-append}
use Rattle.k_types_meaning.specs.declared.tree.declaration.TDeclarator.{TDeclarator}
use Rattle.k_types_meaning.specs.declared.tree.declaration.TInit.{TInit}
use Rattle.k_types_meaning.specs.declared.tree.declaration.TInit.TheVariants as init
use Rattle.k_types_meaning.specs.declared.tree.declaration.TItem.{TItem}
use Rattle.k_types_meaning.specs.declared.tree.declaration.TItem.TheVariants as item
use Rattle.k_types_meaning.specs.declared.tree.expression.TExpr.{TExpr, fold-roll-TExpr, ind-TExpr, map-TExpr}
use Rattle.k_types_meaning.specs.declared.tree.expression.TExpr.TheOpen.{TExpr-F}
use Rattle.k_types_meaning.specs.declared.tree.statement.TFirst.{TFirst}
use Rattle.k_types_meaning.specs.declared.tree.statement.TFirst.TheVariants as first
use Rattle.k_types_meaning.specs.declared.tree.statement.TPart.{TPart, fold-TPart, fold-roll-TPart, map-TPart}
use Rattle.k_types_meaning.specs.declared.tree.statement.TPart.TheOpen.{TPart-F, TStmt-F}
use Rattle.k_types_meaning.specs.declared.tree.statement.TStmt.{TStmt, fold-roll-TStmt, ind-TStmt, map-TStmt}
use Rattle.k_types_meaning.specs.declared.tree.unit.TFunc.{TFunc}
use Rattle.k_types_meaning.specs.Numbered.{Numbers, declared_numbers, expr_numbers, expr_numbers_step, first_numbers, function_numbers, init_numbers, item_numbers, listed, option_numbers, part_numbers_step, stmt_numbers, stmt_numbers_step}
use Rattle.k_regions.specs.declared.loops.LoopAt.{LoopAt}
use Rattle.k_regions.specs.Regions.{Located, find, find_part, loops_of, loops_of_all, part_step, stmt_step}

none_both : {A : Type 0} (xs ys : List A) → xs ≡ [] → ys ≡ [] → xs ++ ys ≡ []
none_both {A} xs ys h k = ap (λ (e : List A). e ++ ys) h ∙ k

none_before : {A : Type 0} (xs ys : List A) → xs ≡ [] → xs ++ ys ≡ ys
none_before {A} xs ys h = ap (λ (e : List A). e ++ ys) h

none_behind : {A : Type 0} (xs ys : List A) → ys ≡ [] → xs ++ ys ≡ xs
none_behind {A} xs ys h = ap (λ (e : List A). xs ++ e) h ∙ append-nil xs

-- EXPRESSIONS have no loops
abbrev HasNone : TExpr → Type 0
HasNone e = (expr_numbers e).loops ≡ []

abbrev NoneIn : TExpr-F TExpr → Type 0
NoneIn x = (expr_numbers_step (map-TExpr TExpr Numbers expr_numbers x)).loops ≡ []

all_none : (items : List ((e : TExpr) × HasNone e)) → (listed (map expr_numbers (map (λ (x : (e : TExpr) × HasNone e). x.0) items))).loops ≡ []
all_none [] = refl
all_none (x ∷ items) =
    none_both (expr_numbers x.0).loops (listed (map expr_numbers (map (λ (z : (e : TExpr) × HasNone e). z.0) items))).loops x.1 (all_none items)

two_none : (a b : (e : TExpr) × HasNone e) → (expr_numbers a.0).loops ++ (expr_numbers b.0).loops ≡ []
two_none a b = none_both (expr_numbers a.0).loops (expr_numbers b.0).loops a.1 b.1

step_none : (y : TExpr-F ((e : TExpr) × HasNone e)) → NoneIn (map-TExpr _ TExpr (λ (x : (e : TExpr) × HasNone e). x.0) y)
step_none (TExpr-F.Number node z) = refl
step_none (TExpr-F.Str node n bytes) = refl
step_none (TExpr-F.Object node n) = refl
step_none (TExpr-F.Variable node n) = refl
step_none (TExpr-F.Index node a b) = two_none a b
step_none (TExpr-F.Call node f args) = all_none args
step_none (TExpr-F.Getchar node) = refl
step_none (TExpr-F.Putchar node a) = a.1
step_none (TExpr-F.Puts node a) = a.1
step_none (TExpr-F.Printf node format args) = all_none args
step_none (TExpr-F.Post node c a) = a.1
step_none (TExpr-F.Pre node c a) = a.1
step_none (TExpr-F.Address node a) = a.1
step_none (TExpr-F.Deref node a) = a.1
step_none (TExpr-F.Plus node a) = a.1
step_none (TExpr-F.Unary node op kind a) = a.1
step_none (TExpr-F.Convert node a) = a.1
step_none (TExpr-F.Cast node a) = a.1
step_none (TExpr-F.Binary node op kind a b) = two_none a b
step_none (TExpr-F.Both node a b) = two_none a b
step_none (TExpr-F.Either node a b) = two_none a b
step_none (TExpr-F.Forward node a b) = two_none a b
step_none (TExpr-F.Onto node a b) = two_none a b
step_none (TExpr-F.Back node a b) = two_none a b
step_none (TExpr-F.PtrCompare node op a b) = two_none a b
step_none (TExpr-F.PtrDistance node a b) = two_none a b
step_none (TExpr-F.Cond node a b c) = none_both (expr_numbers a.0).loops ((expr_numbers b.0).loops ++ (expr_numbers c.0).loops) a.1 (two_none b c)
step_none (TExpr-F.Assign node a b) = two_none a b
step_none (TExpr-F.AssignBy node c a b) = two_none a b
step_none (TExpr-F.Comma node a b) = two_none a b

expr_none : (e : TExpr) → (expr_numbers e).loops ≡ []
expr_none =
    ind-TExpr HasNone
    (λ x y is. subst (λ (n : Numbers). n.loops ≡ []) (sym (fold-roll-TExpr Numbers expr_numbers_step x)) (subst NoneIn is (step_none y)))

option_none : (e : Option TExpr) → (option_numbers e).loops ≡ []
option_none None = refl
option_none (Some e) = expr_none e

items_none : (items : List TItem) → (listed (map item_numbers items)).loops ≡ []
items_none [] = refl
items_none (item.Bytes n bytes ∷ items) = items_none items
items_none (item.Value place n e ∷ items) = none_both (expr_numbers e).loops (listed (map item_numbers items)).loops (expr_none e) (items_none items)

init_none : (i : TInit) → (init_numbers i).loops ≡ []
init_none init.Nothing = refl
init_none (init.Value e) = expr_none e
init_none (init.Elements items) = items_none items

declared_none : (list : List TDeclarator) → (declared_numbers list).loops ≡ []
declared_none [] = refl
declared_none (d ∷ list) = none_both (init_numbers d.init).loops (declared_numbers list).loops (init_none d.init) (declared_none list)

first_none : (f : TFirst) → (first_numbers f).loops ≡ []
first_none first.Nothing = refl
first_none (first.Value e) = expr_none e
first_none (first.Declare list) = declared_none list

-- STATEMENTS
abbrev pub number_of : LoopAt → ℕ
number_of l = l.number

abbrev part_numbers : TPart → Numbers
part_numbers = fold-TPart Numbers Numbers part_numbers_step stmt_numbers_step

abbrev OfPart : TPart → Type 0
OfPart p = map number_of (find_part p).loops ≡ (part_numbers p).loops

abbrev OfStmt : TStmt → Type 0
OfStmt s = map number_of (find s).loops ≡ (stmt_numbers s).loops

abbrev PartLayer : TPart-F TPart TStmt → Type 0
PartLayer z =
    map number_of (part_step (map-TPart TPart TStmt Located Located find_part find z)).loops
    ≡ (part_numbers_step (map-TPart TPart TStmt Numbers Numbers part_numbers stmt_numbers z)).loops

abbrev StmtLayer : TStmt-F TPart TStmt → Type 0
StmtLayer z =
    map number_of (stmt_step (map-TStmt TPart TStmt Located Located find_part find z)).loops
    ≡ (stmt_numbers_step (map-TStmt TPart TStmt Numbers Numbers part_numbers stmt_numbers z)).loops

-- what is found in two parts, one behind the other
two_listed : (xs ys : List LoopAt) (ns ms : List ℕ) → map number_of xs ≡ ns → map number_of ys ≡ ms → map number_of (xs ++ ys) ≡ ns ++ ms
two_listed xs ys ns ms h k = map-append number_of xs ys ∙ (λ i. h i ++ k i)

abbrev Stmts : Type 0
Stmts = List ((s : TStmt) × OfStmt s)

abbrev Parts : Type 0
Parts = List ((p : TPart) × OfPart p)

all_listed : (items : Stmts) → map number_of (loops_of_all (map find (map (λ (x : (s : TStmt) × OfStmt s). x.0) items)))
    ≡ (listed (map stmt_numbers (map (λ (x : (s : TStmt) × OfStmt s). x.0) items))).loops
all_listed [] = refl
all_listed (x ∷ items) =
    two_listed (find x.0).loops (loops_of_all (map find (map (λ (z : (s : TStmt) × OfStmt s). z.0) items))) (stmt_numbers x.0).loops
    (listed (map stmt_numbers (map (λ (z : (s : TStmt) × OfStmt s). z.0) items))).loops x.1 (all_listed items)

parts_listed : (items : Parts) → map number_of (loops_of_all (map find_part (map (λ (x : (p : TPart) × OfPart p). x.0) items)))
    ≡ (listed (map part_numbers (map (λ (x : (p : TPart) × OfPart p). x.0) items))).loops
parts_listed [] = refl
parts_listed (x ∷ items) =
    two_listed (find_part x.0).loops (loops_of_all (map find_part (map (λ (z : (p : TPart) × OfPart p). z.0) items))) (part_numbers x.0).loops
    (listed (map part_numbers (map (λ (z : (p : TPart) × OfPart p). z.0) items))).loops x.1 (parts_listed items)

part_by : (y : TPart-F ((p : TPart) × OfPart p) ((s : TStmt) × OfStmt s)) → PartLayer (map-TPart _ _ TPart TStmt (λ (x : (p : TPart) × OfPart p). x.0) (λ (x : (s : TStmt) × OfStmt s). x.0) y)
part_by (TPart-F.Case place z) = refl
part_by (TPart-F.Default place) = refl
part_by (TPart-F.Does place s) = s.1

-- a loop goes before those in its body
loop_first : (number : ℕ) (xs ns ms : List ℕ) → xs ≡ ns → ms ≡ ns → number ∷ xs ≡ number ∷ ms
loop_first number xs ns ms h k = ap (λ (e : List ℕ). number ∷ e) (h ∙ sym k)

stmt_by : (y : TStmt-F ((p : TPart) × OfPart p) ((s : TStmt) × OfStmt s)) → StmtLayer (map-TStmt _ _ TPart TStmt (λ (x : (p : TPart) × OfPart p). x.0) (λ (x : (s : TStmt) × OfStmt s). x.0) y)
stmt_by (TStmt-F.Expr spot e) = sym (expr_none e)
stmt_by (TStmt-F.Empty spot) = refl
stmt_by (TStmt-F.Block spot parts) = all_listed parts
stmt_by (TStmt-F.If spot test a None) =
    two_listed (find a.0).loops [] (stmt_numbers a.0).loops [] a.1 refl
    ∙ sym (none_before (expr_numbers test).loops ((stmt_numbers a.0).loops ++ []) (expr_none test))
stmt_by (TStmt-F.If spot test a (Some b)) =
    two_listed (find a.0).loops (find b.0).loops (stmt_numbers a.0).loops (stmt_numbers b.0).loops a.1 b.1
    ∙ sym (none_before (expr_numbers test).loops ((stmt_numbers a.0).loops ++ (stmt_numbers b.0).loops) (expr_none test))
stmt_by (TStmt-F.While spot number test a) =
    loop_first number (map number_of (find a.0).loops) (stmt_numbers a.0).loops ((expr_numbers test).loops ++ (stmt_numbers a.0).loops) a.1
    (none_before (expr_numbers test).loops (stmt_numbers a.0).loops (expr_none test))
stmt_by (TStmt-F.DoWhile spot number a test) =
    loop_first number (map number_of (find a.0).loops) (stmt_numbers a.0).loops ((stmt_numbers a.0).loops ++ (expr_numbers test).loops) a.1
    (none_behind (stmt_numbers a.0).loops (expr_numbers test).loops (expr_none test))
stmt_by (TStmt-F.For spot number start test step a) =
    let rest : List ℕ = (stmt_numbers a.0).loops in
    loop_first number (map number_of (find a.0).loops) rest ((first_numbers start).loops ++ ((option_numbers test).loops ++ ((option_numbers step).loops ++ rest))) a.1
    (none_before (first_numbers start).loops ((option_numbers test).loops ++ ((option_numbers step).loops ++ rest)) (first_none start)
    ∙ (none_before (option_numbers test).loops ((option_numbers step).loops ++ rest) (option_none test)
    ∙ none_before (option_numbers step).loops rest (option_none step)))
stmt_by (TStmt-F.Switch spot kind on parts) =
    parts_listed parts
    ∙ sym (none_before (expr_numbers on).loops (listed (map part_numbers (map (λ (x : (p : TPart) × OfPart p). x.0) parts))).loops (expr_none on))
stmt_by (TStmt-F.Break spot) = refl
stmt_by (TStmt-F.Continue spot) = refl
stmt_by (TStmt-F.Return spot e) = sym (option_none e)
stmt_by (TStmt-F.Declare spot list) = sym (declared_none list)

stmt_listed : (s : TStmt) → map number_of (find s).loops ≡ (stmt_numbers s).loops
stmt_listed =
    ind-TStmt OfPart OfStmt
    (λ x y is.
    ap (λ (f : Located). map number_of f.loops) (fold-roll-TPart Located Located part_step stmt_step x) ∙ subst PartLayer is (part_by y)
    ∙ ap (λ (n : Numbers). n.loops) (sym (fold-roll-TPart Numbers Numbers part_numbers_step stmt_numbers_step x)))
    (λ x y is.
    ap (λ (f : Located). map number_of f.loops) (fold-roll-TStmt Located Located part_step stmt_step x) ∙ subst StmtLayer is (stmt_by y)
    ∙ ap (λ (n : Numbers). n.loops) (sym (fold-roll-TStmt Numbers Numbers part_numbers_step stmt_numbers_step x)))

stmts_listed : (list : List TStmt) → map number_of (loops_of_all (map find list)) ≡ (listed (map stmt_numbers list)).loops
stmts_listed [] = refl
stmts_listed (s ∷ list) =
    two_listed (find s).loops (loops_of_all (map find list)) (stmt_numbers s).loops (listed (map stmt_numbers list)).loops (stmt_listed s) (stmts_listed list)

-- the loops of a function are those that are numbered
pub function_listed : (f : TFunc) → map number_of (loops_of f) ≡ (function_numbers f).loops
function_listed f = stmts_listed f.body
