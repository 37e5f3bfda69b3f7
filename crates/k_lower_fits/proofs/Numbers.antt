-- The numbers of strings and of loops in each function are those of its source.
use Rattle.std.proofs.Common.{◌≡◌, ℕ, zero, suc, ◌+◌, ◌<◌, ◌≤◌, List, [], ◌∷◌, ◌++◌, map, length, slice_get, Option, Some, None, refl, sym, ◌∙◌, ap, subst, arith, length-append}
use Rattle.std.specs.Prelude.{All}
use Rattle.std.proofs.lemmas.List.Elements.{All-nil, All-cons}
use Rattle.std.proofs.lemmas.Option.{none-some, same_Some}
use Rattle.k_types_meaning.specs.declared.tree.declaration.TDeclarator.{TDeclarator}
use Rattle.k_types_meaning.specs.declared.tree.declaration.TInit.{TInit}
use Rattle.k_types_meaning.specs.declared.tree.declaration.TInit.TheVariants as begins
use Rattle.k_types_meaning.specs.declared.tree.declaration.TItem.{TItem}
use Rattle.k_types_meaning.specs.declared.tree.declaration.TItem.TheVariants as item
use Rattle.k_types_meaning.specs.declared.tree.expression.TExpr.{TExpr, fold-roll-TExpr, ind-TExpr, map-TExpr}
use Rattle.k_types_meaning.specs.declared.tree.expression.TExpr.TheOpen.{TExpr-F}
use Rattle.k_types_meaning.specs.declared.tree.statement.TFirst.{TFirst}
use Rattle.k_types_meaning.specs.declared.tree.statement.TFirst.TheVariants as first
use Rattle.k_types_meaning.specs.declared.tree.statement.TPart.{TPart, fold-TPart, fold-roll-TPart, map-TPart}
use Rattle.k_types_meaning.specs.declared.tree.statement.TPart.TheOpen.{TPart-F, TStmt-F}
use Rattle.k_types_meaning.specs.declared.tree.statement.TStmt.{TStmt, fold-roll-TStmt, ind-TStmt, map-TStmt}
use Rattle.k_types_meaning.specs.declared.tree.unit.TFunc.{TFunc}
use Rattle.k_types_meaning.specs.declared.tree.unit.TString.{TString}
use Rattle.k_types_meaning.specs.declared.tree.unit.TUnit.{TUnit}
use Rattle.k_types_meaning.specs.Numbered.{Numbers, before, listed, numbers_from, CountsUp, IsNumbered, expr_numbers, expr_numbers_step, option_numbers, item_numbers, init_numbers, declared_numbers, first_numbers, stmt_numbers, stmt_numbers_step, part_numbers_step, if_listed, function_numbers, functions_numbers}
use Rattle.k_types_meaning.proofs.Fine.{AllOf}
use Rattle.k_lower_fits.proofs.Split as split

-- as many strings as numbers of strings
abbrev Even : Numbers → Type 0
Even n = length n.strings ≡ length n.texts

even_both : (a b : Numbers) → Even a → Even b → Even (before a b)
even_both a b h k =
    let x : length (a.strings ++ b.strings) ≡ length a.strings + length b.strings = length-append a.strings b.strings in
    let y : length (a.texts ++ b.texts) ≡ length a.texts + length b.texts = length-append a.texts b.texts in
    let p : length a.strings ≡ length a.texts = h in
    let q : length b.strings ≡ length b.texts = k in
    omega (arith, x, y, p, q)

-- EXPRESSIONS
abbrev EvenExpr : TExpr → Type 0
EvenExpr e = Even (expr_numbers e)

abbrev trees : List ((e : TExpr) × EvenExpr e) → List TExpr
trees xs = map (λ (x : (e : TExpr) × EvenExpr e). x.0) xs

all_even : (xs : List ((e : TExpr) × EvenExpr e)) → Even (listed (map expr_numbers (trees xs)))
all_even [] = refl
all_even (x ∷ xs) = even_both (expr_numbers x.0) (listed (map expr_numbers (trees xs))) x.1 (all_even xs)

layer : (y : TExpr-F ((e : TExpr) × EvenExpr e)) → Even (expr_numbers_step (map-TExpr TExpr Numbers expr_numbers (map-TExpr _ TExpr (λ (x : (e : TExpr) × EvenExpr e). x.0) y)))
layer (TExpr-F.Number node value) = refl
layer (TExpr-F.Str node n bytes) = refl
layer (TExpr-F.Object node n) = refl
layer (TExpr-F.Variable node n) = refl
layer (TExpr-F.Index node a b) = even_both (expr_numbers a.0) (expr_numbers b.0) a.1 b.1
layer (TExpr-F.Call node f args) = all_even args
layer (TExpr-F.Getchar node) = refl
layer (TExpr-F.Putchar node a) = a.1
layer (TExpr-F.Puts node a) = a.1
layer (TExpr-F.Printf node format args) = all_even args
layer (TExpr-F.Post node change a) = a.1
layer (TExpr-F.Pre node change a) = a.1
layer (TExpr-F.Address node a) = a.1
layer (TExpr-F.Deref node a) = a.1
layer (TExpr-F.Plus node a) = a.1
layer (TExpr-F.Unary node op kind a) = a.1
layer (TExpr-F.Convert node a) = a.1
layer (TExpr-F.Cast node a) = a.1
layer (TExpr-F.Binary node op kind a b) = even_both (expr_numbers a.0) (expr_numbers b.0) a.1 b.1
layer (TExpr-F.Both node a b) = even_both (expr_numbers a.0) (expr_numbers b.0) a.1 b.1
layer (TExpr-F.Either node a b) = even_both (expr_numbers a.0) (expr_numbers b.0) a.1 b.1
layer (TExpr-F.Forward node a b) = even_both (expr_numbers a.0) (expr_numbers b.0) a.1 b.1
layer (TExpr-F.Onto node a b) = even_both (expr_numbers a.0) (expr_numbers b.0) a.1 b.1
layer (TExpr-F.Back node a b) = even_both (expr_numbers a.0) (expr_numbers b.0) a.1 b.1
layer (TExpr-F.PtrCompare node op a b) = even_both (expr_numbers a.0) (expr_numbers b.0) a.1 b.1
layer (TExpr-F.PtrDistance node a b) = even_both (expr_numbers a.0) (expr_numbers b.0) a.1 b.1
layer (TExpr-F.Cond node a b c) = even_both (expr_numbers a.0) (before (expr_numbers b.0) (expr_numbers c.0)) a.1 (even_both (expr_numbers b.0) (expr_numbers c.0) b.1 c.1)
layer (TExpr-F.Assign node a b) = even_both (expr_numbers a.0) (expr_numbers b.0) a.1 b.1
layer (TExpr-F.AssignBy node change a b) = even_both (expr_numbers a.0) (expr_numbers b.0) a.1 b.1
layer (TExpr-F.Comma node a b) = even_both (expr_numbers a.0) (expr_numbers b.0) a.1 b.1

expr_even : (e : TExpr) → Even (expr_numbers e)
expr_even =
    ind-TExpr EvenExpr
    (λ x y is. subst Even (sym (fold-roll-TExpr Numbers expr_numbers_step x)) (subst (λ (z : TExpr-F TExpr). Even (expr_numbers_step (map-TExpr TExpr Numbers expr_numbers z))) is (layer y)))

option_even : (o : Option TExpr) → Even (option_numbers o)
option_even None = refl
option_even (Some e) = expr_even e

item_even : (i : TItem) → Even (item_numbers i)
item_even (item.Bytes n bytes) = refl
item_even (item.Value p n e) = expr_even e

items_even : (items : List TItem) → Even (listed (map item_numbers items))
items_even [] = refl
items_even (i ∷ items) = even_both (item_numbers i) (listed (map item_numbers items)) (item_even i) (items_even items)

init_even : (i : TInit) → Even (init_numbers i)
init_even begins.Nothing = refl
init_even (begins.Value e) = expr_even e
init_even (begins.Elements items) = items_even items

declared_even : (list : List TDeclarator) → Even (declared_numbers list)
declared_even [] = refl
declared_even (d ∷ list) = even_both (init_numbers d.init) (declared_numbers list) (init_even d.init) (declared_even list)

first_even : (f : TFirst) → Even (first_numbers f)
first_even first.Nothing = refl
first_even (first.Value e) = expr_even e
first_even (first.Declare list) = declared_even list

-- STATEMENTS
abbrev part_numbers : TPart → Numbers
part_numbers = fold-TPart Numbers Numbers part_numbers_step stmt_numbers_step

abbrev EvenStmt : TStmt → Type 0
EvenStmt s = Even (stmt_numbers s)

abbrev EvenPart : TPart → Type 0
EvenPart p = Even (part_numbers p)

abbrev stmts : List ((s : TStmt) × EvenStmt s) → List TStmt
stmts xs = map (λ (x : (s : TStmt) × EvenStmt s). x.0) xs

abbrev parts_in : List ((p : TPart) × EvenPart p) → List TPart
parts_in xs = map (λ (x : (p : TPart) × EvenPart p). x.0) xs

stmts_even : (xs : List ((s : TStmt) × EvenStmt s)) → Even (listed (map stmt_numbers (stmts xs)))
stmts_even [] = refl
stmts_even (x ∷ xs) = even_both (stmt_numbers x.0) (listed (map stmt_numbers (stmts xs))) x.1 (stmts_even xs)

parts_even : (xs : List ((p : TPart) × EvenPart p)) → Even (listed (map part_numbers (parts_in xs)))
parts_even [] = refl
parts_even (x ∷ xs) = even_both (part_numbers x.0) (listed (map part_numbers (parts_in xs))) x.1 (parts_even xs)

abbrev PartLayer : TPart-F TPart TStmt → Type 0
PartLayer z = Even (part_numbers_step (map-TPart TPart TStmt Numbers Numbers part_numbers stmt_numbers z))

abbrev StmtLayer : TStmt-F TPart TStmt → Type 0
StmtLayer z = Even (stmt_numbers_step (map-TStmt TPart TStmt Numbers Numbers part_numbers stmt_numbers z))

part_layer : (y : TPart-F ((p : TPart) × EvenPart p) ((s : TStmt) × EvenStmt s))
    → PartLayer (map-TPart _ _ TPart TStmt (λ (x : (p : TPart) × EvenPart p). x.0) (λ (x : (s : TStmt) × EvenStmt s). x.0) y)
part_layer (TPart-F.Case p z) = refl
part_layer (TPart-F.Default p) = refl
part_layer (TPart-F.Does p s) = s.1

stmt_layer : (y : TStmt-F ((p : TPart) × EvenPart p) ((s : TStmt) × EvenStmt s))
    → StmtLayer (map-TStmt _ _ TPart TStmt (λ (x : (p : TPart) × EvenPart p). x.0) (λ (x : (s : TStmt) × EvenStmt s). x.0) y)
stmt_layer (TStmt-F.Expr spot e) = expr_even e
stmt_layer (TStmt-F.Empty spot) = refl
stmt_layer (TStmt-F.Block spot parts) = stmts_even parts
stmt_layer (TStmt-F.If spot test a None) =
    even_both (expr_numbers test) (before (stmt_numbers a.0) (if_listed None)) (expr_even test) (even_both (stmt_numbers a.0) (if_listed None) a.1 refl)
stmt_layer (TStmt-F.If spot test a (Some b)) =
    even_both (expr_numbers test) (before (stmt_numbers a.0) (stmt_numbers b.0)) (expr_even test) (even_both (stmt_numbers a.0) (stmt_numbers b.0) a.1 b.1)
stmt_layer (TStmt-F.While spot turns test a) = even_both (expr_numbers test) (stmt_numbers a.0) (expr_even test) a.1
stmt_layer (TStmt-F.DoWhile spot turns a test) = even_both (stmt_numbers a.0) (expr_numbers test) a.1 (expr_even test)
stmt_layer (TStmt-F.For spot turns start test next a) =
    even_both (first_numbers start) (before (option_numbers test) (before (option_numbers next) (stmt_numbers a.0))) (first_even start)
    (even_both (option_numbers test) (before (option_numbers next) (stmt_numbers a.0)) (option_even test)
    (even_both (option_numbers next) (stmt_numbers a.0) (option_even next) a.1))
stmt_layer (TStmt-F.Switch spot kind on parts) = even_both (expr_numbers on) (listed (map part_numbers (parts_in parts))) (expr_even on) (parts_even parts)
stmt_layer (TStmt-F.Break spot) = refl
stmt_layer (TStmt-F.Continue spot) = refl
stmt_layer (TStmt-F.Return spot value) = option_even value
stmt_layer (TStmt-F.Declare spot list) = declared_even list

stmt_even : (s : TStmt) → Even (stmt_numbers s)
stmt_even =
    ind-TStmt EvenPart EvenStmt
    (λ x y is. subst Even (sym (fold-roll-TPart Numbers Numbers part_numbers_step stmt_numbers_step x)) (subst PartLayer is (part_layer y)))
    (λ x y is. subst Even (sym (fold-roll-TStmt Numbers Numbers part_numbers_step stmt_numbers_step x)) (subst StmtLayer is (stmt_layer y)))

body_even : (body : List TStmt) → Even (listed (map stmt_numbers body))
body_even [] = refl
body_even (s ∷ body) = even_both (stmt_numbers s) (listed (map stmt_numbers body)) (stmt_even s) (body_even body)

functions_even : (fs : List TFunc) → Even (functions_numbers fs)
functions_even [] = refl
functions_even (f ∷ fs) = even_both (function_numbers f) (functions_numbers fs) (body_even f.body) (functions_even fs)

-- NUMBERS that count up are below their count
below_end : (n k m : ℕ) → n + k ≤ m → AllOf (λ x. x < m) (numbers_from n k)
below_end n zero m less = tt
below_end n (suc k) m less = (omega (arith, less), below_end (suc n) k m (omega (arith, less)))

each : (m : ℕ) (xs : List ℕ) → AllOf (λ x. x < m) xs → All (λ x. x < m) xs
each m [] h = All-nil (λ x. x < m)
each m (x ∷ xs) h = All-cons (λ y. y < m) x xs h.0 (each m xs h.1)

counted : (m : ℕ) (xs : List ℕ) → CountsUp xs → length xs ≡ m → AllOf (λ x. x < m) xs
counted m xs is many = subst (AllOf (λ x. x < m)) (sym is) (below_end 0 (length xs) m (omega (arith, many)))

-- of each function
strings_in : (m : ℕ) (fs : List TFunc) (n : ℕ) (f : TFunc) → slice_get fs n ≡ Some f → AllOf (λ x. x < m) (functions_numbers fs).strings → AllOf (λ x. x < m) (function_numbers f).strings
strings_in m [] n f there h = absurd (none-some f there)
strings_in m (g ∷ fs) zero f there h =
    subst (λ (x : TFunc). AllOf (λ y. y < m) (function_numbers x).strings) (same_Some g f there) (split.front (λ y. y < m) (function_numbers g).strings (functions_numbers fs).strings h)
strings_in m (g ∷ fs) (suc n) f there h = strings_in m fs n f there (split.behind (λ y. y < m) (function_numbers g).strings (functions_numbers fs).strings h)

loops_in : (m : ℕ) (fs : List TFunc) (n : ℕ) (f : TFunc) → slice_get fs n ≡ Some f → AllOf (λ x. x < m) (functions_numbers fs).loops → AllOf (λ x. x < m) (function_numbers f).loops
loops_in m [] n f there h = absurd (none-some f there)
loops_in m (g ∷ fs) zero f there h =
    subst (λ (x : TFunc). AllOf (λ y. y < m) (function_numbers x).loops) (same_Some g f there) (split.front (λ y. y < m) (function_numbers g).loops (functions_numbers fs).loops h)
loops_in m (g ∷ fs) (suc n) f there h = loops_in m fs n f there (split.behind (λ y. y < m) (function_numbers g).loops (functions_numbers fs).loops h)

pub strings_below : (unit : TUnit) (n : ℕ) (f : TFunc) → IsNumbered unit → slice_get unit.functions n ≡ Some f → All (λ x. x < length unit.strings) (function_numbers f).strings
strings_below unit n f h there =
    each (length unit.strings) (function_numbers f).strings
    (strings_in (length unit.strings) unit.functions n f there
    (counted (length unit.strings) (functions_numbers unit.functions).strings h.1 (functions_even unit.functions ∙ ap (λ (ts : List TString). length ts) (sym h.3))))

pub loops_below : (unit : TUnit) (n : ℕ) (f : TFunc) → IsNumbered unit → slice_get unit.functions n ≡ Some f → All (λ x. x < unit.loops) (function_numbers f).loops
loops_below unit n f h there =
    each unit.loops (function_numbers f).loops (loops_in unit.loops unit.functions n f there (counted unit.loops (functions_numbers unit.functions).loops h.2 (sym h.5)))
