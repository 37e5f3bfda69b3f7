-- Each string is paid for by 16 of the instructions that its construct costs.
use Rattle.std.proofs.Common.{ℕ, suc, ◌≡◌, ◌+◌, ◌*◌, ◌≤◌, List, [], ◌∷◌, ◌++◌, map, length, slice_get, Option, Some, None, refl, sym, subst, arith, length-append}
use Rattle.k_types_meaning.specs.declared.tree.declaration.TDeclarator.{TDeclarator}
use Rattle.k_types_meaning.specs.declared.tree.declaration.TInit.{TInit}
use Rattle.k_types_meaning.specs.declared.tree.declaration.TInit.TheVariants as begins
use Rattle.k_types_meaning.specs.declared.tree.declaration.TItem.{TItem}
use Rattle.k_types_meaning.specs.declared.tree.declaration.TItem.TheVariants as item
use Rattle.k_types_meaning.specs.declared.tree.expression.TExpr.{TExpr, roll-TExpr, fold-roll-TExpr, ind-TExpr, map-TExpr}
use Rattle.k_types_meaning.specs.declared.tree.expression.TExpr.TheOpen.{TExpr-F}
use Rattle.k_types_meaning.specs.declared.tree.statement.TFirst.{TFirst}
use Rattle.k_types_meaning.specs.declared.tree.statement.TFirst.TheVariants as first
use Rattle.k_types_meaning.specs.declared.tree.statement.TPart.{TPart, roll-TPart, fold-TPart, fold-roll-TPart, map-TPart}
use Rattle.k_types_meaning.specs.declared.tree.statement.TPart.TheOpen.{TPart-F, TStmt-F}
use Rattle.k_types_meaning.specs.declared.tree.statement.TStmt.{TStmt, roll-TStmt, fold-roll-TStmt, ind-TStmt, map-TStmt}
use Rattle.k_types_meaning.specs.declared.tree.unit.TFunc.{TFunc}
use Rattle.k_types_meaning.specs.declared.tree.unit.TString.{TString}
use Rattle.k_types_meaning.specs.Bare.{IsTyped}
use Rattle.k_types_meaning.specs.Numbered.{Numbers, before, listed, nothing, expr_numbers, expr_numbers_step, option_numbers, item_numbers, init_numbers, declared_numbers, first_numbers, stmt_numbers, stmt_numbers_step, part_numbers_step, function_numbers, functions_numbers}
use Rattle.k_lower_fits.specs.Costs.{Cost, arguments, expr_cost, expr_cost_step, option_cost, item_cost, init_cost, declared_cost, first_cost, in_row, stmt_cost_step, part_cost_step, stmt_cost, body_cost}
use Rattle.k_lower_fits.specs.Laws.{IsSmall}
use Rattle.k_lower_fits.proofs.Sources.{functions_are_small}
use Rattle.k_lower_sizes.specs.Laws.{StringsAreFew, nodes_of}
use Rattle.k_lower_sizes.proofs.Counts.{nodes_cons}

-- the strings among these are paid for
abbrev Paid : Numbers → Cost → Type 0
Paid n c = 16 * length n.texts ≤ c.instructions

-- those of two parts, with so many instructions more
paid_both : (a b : Numbers) (c d : Cost) (k : ℕ) → Paid a c → Paid b d → 16 * length (before a b).texts ≤ k + (c.instructions + d.instructions)
paid_both a b c d k h j =
    let both : length (a.texts ++ b.texts) ≡ length a.texts + length b.texts = length-append a.texts b.texts in
    let one : 16 * length a.texts ≤ c.instructions = h in
    let two : 16 * length b.texts ≤ d.instructions = j in
    omega (arith, both, one, two)

paid_row : (a b : Numbers) (c d : Cost) → Paid a c → Paid b d → 16 * length (before a b).texts ≤ c.instructions + d.instructions
paid_row a b c d h j = let both : 16 * length (before a b).texts ≤ 0 + (c.instructions + d.instructions) = paid_both a b c d 0 h j in omega (arith, both)

paid_one : (a : Numbers) (c : Cost) (k : ℕ) → Paid a c → 16 * length a.texts ≤ k + c.instructions
paid_one a c k h = let one : 16 * length a.texts ≤ c.instructions = h in omega (arith, one)

paid_three : (a b e : Numbers) (c d f : Cost) (k : ℕ) → Paid a c → Paid b d → Paid e f → 16 * length (before a (before b e)).texts ≤ k + (c.instructions + (d.instructions + f.instructions))
paid_three a b e c d f k h j i =
    let both : length (a.texts ++ (b.texts ++ e.texts)) ≡ length a.texts + length (b.texts ++ e.texts) = length-append a.texts (b.texts ++ e.texts) in
    let last : length (b.texts ++ e.texts) ≡ length b.texts + length e.texts = length-append b.texts e.texts in
    let one : 16 * length a.texts ≤ c.instructions = h in
    let two : 16 * length b.texts ≤ d.instructions = j in
    let three : 16 * length e.texts ≤ f.instructions = i in
    omega (arith, both, last, one, two, three)

-- EXPRESSIONS
abbrev PaidExpr : TExpr → Type 0
PaidExpr e = Paid (expr_numbers e) (expr_cost e)

abbrev trees : List ((e : TExpr) × PaidExpr e) → List TExpr
trees xs = map (λ (x : (e : TExpr) × PaidExpr e). x.0) xs

all_paid : (xs : List ((e : TExpr) × PaidExpr e)) → Paid (listed (map expr_numbers (trees xs))) (arguments (map expr_cost (trees xs)))
all_paid [] = omega arith
all_paid (x ∷ xs) = paid_row (expr_numbers x.0) (listed (map expr_numbers (trees xs))) (expr_cost x.0) (arguments (map expr_cost (trees xs))) x.1 (all_paid xs)

args_paid : (xs : List ((e : TExpr) × PaidExpr e)) → 16 * length (listed (map expr_numbers (trees xs))).texts ≤ 16 + (arguments (map expr_cost (trees xs))).instructions
args_paid xs = paid_one (listed (map expr_numbers (trees xs))) (arguments (map expr_cost (trees xs))) 16 (all_paid xs)

two_paid : (a b : (e : TExpr) × PaidExpr e) → 16 * length (before (expr_numbers a.0) (expr_numbers b.0)).texts ≤ 16 + ((expr_cost a.0).instructions + (expr_cost b.0).instructions)
two_paid a b = paid_both (expr_numbers a.0) (expr_numbers b.0) (expr_cost a.0) (expr_cost b.0) 16 a.1 b.1

one_paid : (a : (e : TExpr) × PaidExpr e) → 16 * length (expr_numbers a.0).texts ≤ 16 + (expr_cost a.0).instructions
one_paid a = paid_one (expr_numbers a.0) (expr_cost a.0) 16 a.1

abbrev Layer : TExpr-F TExpr → Type 0
Layer z = Paid (expr_numbers_step (map-TExpr TExpr Numbers expr_numbers z)) (expr_cost_step (map-TExpr TExpr Cost expr_cost z))

layer : (y : TExpr-F ((e : TExpr) × PaidExpr e)) → Layer (map-TExpr _ TExpr (λ (x : (e : TExpr) × PaidExpr e). x.0) y)
layer (TExpr-F.Number node value) = omega arith
layer (TExpr-F.Str node n bytes) = omega arith
layer (TExpr-F.Object node n) = omega arith
layer (TExpr-F.Variable node n) = omega arith
layer (TExpr-F.Index node a b) = two_paid a b
layer (TExpr-F.Call node f args) = args_paid args
layer (TExpr-F.Getchar node) = omega arith
layer (TExpr-F.Putchar node a) = one_paid a
layer (TExpr-F.Puts node a) = one_paid a
layer (TExpr-F.Printf node format args) = args_paid args
layer (TExpr-F.Post node change a) = let one : 16 * length (expr_numbers a.0).texts ≤ (expr_cost a.0).instructions = a.1 in omega (arith, one)
layer (TExpr-F.Pre node change a) = one_paid a
layer (TExpr-F.Address node a) = one_paid a
layer (TExpr-F.Deref node a) = one_paid a
layer (TExpr-F.Plus node a) = one_paid a
layer (TExpr-F.Unary node op kind a) = one_paid a
layer (TExpr-F.Convert node a) = paid_one (expr_numbers a.0) (expr_cost a.0) 4 a.1
layer (TExpr-F.Cast node a) = one_paid a
layer (TExpr-F.Binary node op kind a b) = two_paid a b
layer (TExpr-F.Both node a b) = two_paid a b
layer (TExpr-F.Either node a b) = two_paid a b
layer (TExpr-F.Forward node a b) = two_paid a b
layer (TExpr-F.Onto node a b) = two_paid a b
layer (TExpr-F.Back node a b) = two_paid a b
layer (TExpr-F.PtrCompare node op a b) = two_paid a b
layer (TExpr-F.PtrDistance node a b) = two_paid a b
layer (TExpr-F.Cond node a b c) = paid_three (expr_numbers a.0) (expr_numbers b.0) (expr_numbers c.0) (expr_cost a.0) (expr_cost b.0) (expr_cost c.0) 16 a.1 b.1 c.1
layer (TExpr-F.Assign node a b) = two_paid a b
layer (TExpr-F.AssignBy node change a b) = two_paid a b
layer (TExpr-F.Comma node a b) = two_paid a b

expr_paid : (e : TExpr) → PaidExpr e
expr_paid =
    ind-TExpr PaidExpr
    (λ x y is.
    subst (λ (n : Numbers). Paid n (expr_cost (roll-TExpr x))) (sym (fold-roll-TExpr Numbers expr_numbers_step x))
    (subst (λ (c : Cost). Paid (expr_numbers_step (map-TExpr TExpr Numbers expr_numbers x)) c) (sym (fold-roll-TExpr Cost expr_cost_step x)) (subst Layer is (layer y))))

option_paid : (o : Option TExpr) → Paid (option_numbers o) (option_cost o)
option_paid None = omega arith
option_paid (Some e) = expr_paid e

item_paid : (i : TItem) → Paid (item_numbers i) (item_cost i)
item_paid (item.Bytes n bytes) = omega arith
item_paid (item.Value p n e) = let one : 16 * length (expr_numbers e).texts ≤ (expr_cost e).instructions = expr_paid e in omega (arith, one)

items_paid : (items : List TItem) → Paid (listed (map item_numbers items)) (in_row (map item_cost items))
items_paid [] = omega arith
items_paid (i ∷ items) = paid_row (item_numbers i) (listed (map item_numbers items)) (item_cost i) (in_row (map item_cost items)) (item_paid i) (items_paid items)

init_paid : (i : TInit) → Paid (init_numbers i) (init_cost i)
init_paid begins.Nothing = omega arith
init_paid (begins.Value e) = let one : 16 * length (expr_numbers e).texts ≤ (expr_cost e).instructions = expr_paid e in omega (arith, one)
init_paid (begins.Elements items) = items_paid items

declared_paid : (list : List TDeclarator) → Paid (declared_numbers list) (declared_cost list)
declared_paid [] = omega arith
declared_paid (d ∷ list) =
    let both : length ((init_numbers d.init).texts ++ (declared_numbers list).texts) ≡ length (init_numbers d.init).texts + length (declared_numbers list).texts =
    length-append (init_numbers d.init).texts (declared_numbers list).texts in
    let one : 16 * length (init_numbers d.init).texts ≤ (init_cost d.init).instructions = init_paid d.init in
    let rest : 16 * length (declared_numbers list).texts ≤ (declared_cost list).instructions = declared_paid list in
    omega (arith, both, one, rest)

first_paid : (f : TFirst) → Paid (first_numbers f) (first_cost f)
first_paid first.Nothing = omega arith
first_paid (first.Value e) = expr_paid e
first_paid (first.Declare list) = declared_paid list

-- STATEMENTS
abbrev part_numbers : TPart → Numbers
part_numbers = fold-TPart Numbers Numbers part_numbers_step stmt_numbers_step

abbrev part_cost : TPart → Cost
part_cost = fold-TPart Cost Cost part_cost_step stmt_cost_step

abbrev PaidStmt : TStmt → Type 0
PaidStmt s = Paid (stmt_numbers s) (stmt_cost s)

abbrev PaidPart : TPart → Type 0
PaidPart p = Paid (part_numbers p) (part_cost p)

abbrev stmts : List ((s : TStmt) × PaidStmt s) → List TStmt
stmts xs = map (λ (x : (s : TStmt) × PaidStmt s). x.0) xs

abbrev parts_in : List ((p : TPart) × PaidPart p) → List TPart
parts_in xs = map (λ (x : (p : TPart) × PaidPart p). x.0) xs

stmts_paid : (xs : List ((s : TStmt) × PaidStmt s)) → Paid (listed (map stmt_numbers (stmts xs))) (in_row (map stmt_cost (stmts xs)))
stmts_paid [] = omega arith
stmts_paid (x ∷ xs) = paid_row (stmt_numbers x.0) (listed (map stmt_numbers (stmts xs))) (stmt_cost x.0) (in_row (map stmt_cost (stmts xs))) x.1 (stmts_paid xs)

parts_paid : (xs : List ((p : TPart) × PaidPart p)) → Paid (listed (map part_numbers (parts_in xs))) (in_row (map part_cost (parts_in xs)))
parts_paid [] = omega arith
parts_paid (x ∷ xs) = paid_row (part_numbers x.0) (listed (map part_numbers (parts_in xs))) (part_cost x.0) (in_row (map part_cost (parts_in xs))) x.1 (parts_paid xs)

abbrev PartLayer : TPart-F TPart TStmt → Type 0
PartLayer z = Paid (part_numbers_step (map-TPart TPart TStmt Numbers Numbers part_numbers stmt_numbers z)) (part_cost_step (map-TPart TPart TStmt Cost Cost part_cost stmt_cost z))

abbrev StmtLayer : TStmt-F TPart TStmt → Type 0
StmtLayer z = Paid (stmt_numbers_step (map-TStmt TPart TStmt Numbers Numbers part_numbers stmt_numbers z)) (stmt_cost_step (map-TStmt TPart TStmt Cost Cost part_cost stmt_cost z))

part_layer : (y : TPart-F ((p : TPart) × PaidPart p) ((s : TStmt) × PaidStmt s)) → PartLayer (map-TPart _ _ TPart TStmt (λ (x : (p : TPart) × PaidPart p). x.0) (λ (x : (s : TStmt) × PaidStmt s). x.0) y)
part_layer (TPart-F.Case p z) = omega arith
part_layer (TPart-F.Default p) = omega arith
part_layer (TPart-F.Does p s) = s.1

stmt_layer : (y : TStmt-F ((p : TPart) × PaidPart p) ((s : TStmt) × PaidStmt s)) → StmtLayer (map-TStmt _ _ TPart TStmt (λ (x : (p : TPart) × PaidPart p). x.0) (λ (x : (s : TStmt) × PaidStmt s). x.0) y)
stmt_layer (TStmt-F.Expr spot e) = paid_one (expr_numbers e) (expr_cost e) 64 (expr_paid e)
stmt_layer (TStmt-F.Empty spot) = omega arith
stmt_layer (TStmt-F.Block spot parts) = paid_one (listed (map stmt_numbers (stmts parts))) (in_row (map stmt_cost (stmts parts))) 64 (stmts_paid parts)
stmt_layer (TStmt-F.If spot test a None) =
    paid_three (expr_numbers test) (stmt_numbers a.0) nothing (expr_cost test) (stmt_cost a.0) (record { registers = 0; instructions = 0 }) 64 (expr_paid test) a.1 (let e : 0 ≤ 0 = omega arith in e)
stmt_layer (TStmt-F.If spot test a (Some b)) =
    paid_three (expr_numbers test) (stmt_numbers a.0) (stmt_numbers b.0) (expr_cost test) (stmt_cost a.0) (stmt_cost b.0) 64 (expr_paid test) a.1 b.1
stmt_layer (TStmt-F.While spot turns test a) = paid_both (expr_numbers test) (stmt_numbers a.0) (expr_cost test) (stmt_cost a.0) 64 (expr_paid test) a.1
stmt_layer (TStmt-F.DoWhile spot turns a test) = paid_both (stmt_numbers a.0) (expr_numbers test) (stmt_cost a.0) (expr_cost test) 64 a.1 (expr_paid test)
stmt_layer (TStmt-F.For spot turns start test next a) =
    let all : length ((first_numbers start).texts ++ ((option_numbers test).texts ++ ((option_numbers next).texts ++ (stmt_numbers a.0).texts)))
    ≡ length (first_numbers start).texts + length ((option_numbers test).texts ++ ((option_numbers next).texts ++ (stmt_numbers a.0).texts)) =
    length-append (first_numbers start).texts ((option_numbers test).texts ++ ((option_numbers next).texts ++ (stmt_numbers a.0).texts)) in
    let rest : 16 * length ((option_numbers test).texts ++ ((option_numbers next).texts ++ (stmt_numbers a.0).texts))
    ≤ 0 + ((option_cost test).instructions + ((option_cost next).instructions + (stmt_cost a.0).instructions)) =
    paid_three (option_numbers test) (option_numbers next) (stmt_numbers a.0) (option_cost test) (option_cost next) (stmt_cost a.0) 0 (option_paid test) (option_paid next) a.1 in
    let one : 16 * length (first_numbers start).texts ≤ (first_cost start).instructions = first_paid start in
    omega (arith, all, rest, one)
stmt_layer (TStmt-F.Switch spot kind on parts) =
    let both : length ((expr_numbers on).texts ++ (listed (map part_numbers (parts_in parts))).texts) ≡ length (expr_numbers on).texts + length (listed (map part_numbers (parts_in parts))).texts =
    length-append (expr_numbers on).texts (listed (map part_numbers (parts_in parts))).texts in
    let one : 16 * length (expr_numbers on).texts ≤ (expr_cost on).instructions = expr_paid on in
    let rest : 16 * length (listed (map part_numbers (parts_in parts))).texts ≤ (in_row (map part_cost (parts_in parts))).instructions = parts_paid parts in
    omega (arith, both, one, rest)
stmt_layer (TStmt-F.Break spot) = omega arith
stmt_layer (TStmt-F.Continue spot) = omega arith
stmt_layer (TStmt-F.Return spot value) = paid_one (option_numbers value) (option_cost value) 64 (option_paid value)
stmt_layer (TStmt-F.Declare spot list) = paid_one (declared_numbers list) (declared_cost list) 64 (declared_paid list)

stmt_paid : (s : TStmt) → PaidStmt s
stmt_paid =
    ind-TStmt PaidPart PaidStmt
    (λ x y is.
    subst (λ (n : Numbers). Paid n (part_cost (roll-TPart x))) (sym (fold-roll-TPart Numbers Numbers part_numbers_step stmt_numbers_step x))
    (subst (λ (c : Cost). Paid (part_numbers_step (map-TPart TPart TStmt Numbers Numbers part_numbers stmt_numbers x)) c) (sym (fold-roll-TPart Cost Cost part_cost_step stmt_cost_step x)) (subst PartLayer is (part_layer y))))
    (λ x y is.
    subst (λ (n : Numbers). Paid n (stmt_cost (roll-TStmt x))) (sym (fold-roll-TStmt Numbers Numbers part_numbers_step stmt_numbers_step x))
    (subst (λ (c : Cost). Paid (stmt_numbers_step (map-TStmt TPart TStmt Numbers Numbers part_numbers stmt_numbers x)) c) (sym (fold-roll-TStmt Cost Cost part_cost_step stmt_cost_step x)) (subst StmtLayer is (stmt_layer y))))

body_paid : (body : List TStmt) → Paid (listed (map stmt_numbers body)) (body_cost body)
body_paid [] = omega arith
body_paid (s ∷ body) = paid_row (stmt_numbers s) (listed (map stmt_numbers body)) (stmt_cost s) (body_cost body) (stmt_paid s) (body_paid body)

functions_paid : (fs : List TFunc) → ((n : ℕ) (f : TFunc) → slice_get fs n ≡ Some f → IsSmall f) → length (functions_numbers fs).texts ≤ 32 * nodes_of fs
functions_paid [] small = omega arith
functions_paid (f ∷ fs) small =
    let both : length ((function_numbers f).texts ++ (functions_numbers fs).texts) ≡ length (function_numbers f).texts + length (functions_numbers fs).texts =
    length-append (function_numbers f).texts (functions_numbers fs).texts in
    let own : 16 * length (function_numbers f).texts ≤ (body_cost f.body).instructions = body_paid f.body in
    let few : (16 + 16 * f.params) + (body_cost f.body).instructions ≤ 512 * f.nodes = (small 0 f refl).instructions in
    let nodes : nodes_of (f ∷ fs) ≡ f.nodes + nodes_of fs = nodes_cons f fs in
    let rest : length (functions_numbers fs).texts ≤ 32 * nodes_of fs = functions_paid fs (λ n g is. small (suc n) g is) in
    omega (arith, both, own, few, nodes, rest)

pub strings_are_few : StringsAreFew
unfolding IsTyped
strings_are_few unit typed h none =
    let texts : typed.strings ≡ (functions_numbers typed.functions).texts = h.3.3 in
    subst (λ (ts : List TString). length ts ≤ 32 * nodes_of typed.functions) (sym texts) (functions_paid typed.functions (λ n f is. functions_are_small unit typed n f h none is))
