-- Trees that get their numbers from the front of three lists: those of their nodes, of their strings and of their loops.
use Rattle.std.proofs.Common.{ℕ, List, [], ◌∷◌, map, Option, Some, None}
use Rattle.k_types_meaning.specs.declared.tree.declaration.TDeclarator.{TDeclarator}
use Rattle.k_types_meaning.specs.declared.tree.declaration.TInit.{TInit}
use Rattle.k_types_meaning.specs.declared.tree.declaration.TInit.TheVariants as begins
use Rattle.k_types_meaning.specs.declared.tree.declaration.TItem.{TItem}
use Rattle.k_types_meaning.specs.declared.tree.declaration.TItem.TheVariants as item
use Rattle.k_types_meaning.specs.declared.tree.expression.Node.{Node}
use Rattle.k_types_meaning.specs.declared.tree.expression.TExpr.{TExpr, fold-TExpr}
use Rattle.k_types_meaning.specs.declared.tree.expression.TExpr.TheOpen.{TExpr-F}
use Rattle.k_types_meaning.specs.declared.tree.expression.TExpr.TheVariants as typed
use Rattle.k_types_meaning.specs.declared.tree.statement.Spot.{Spot}
use Rattle.k_types_meaning.specs.declared.tree.statement.TFirst.{TFirst}
use Rattle.k_types_meaning.specs.declared.tree.statement.TFirst.TheVariants as first
use Rattle.k_types_meaning.specs.declared.tree.statement.TPart.{TPart, fold-TPart}
use Rattle.k_types_meaning.specs.declared.tree.statement.TPart.TheOpen.{TPart-F, TStmt-F}
use Rattle.k_types_meaning.specs.declared.tree.statement.TPart.TheVariants as part
use Rattle.k_types_meaning.specs.declared.tree.statement.TStmt.{TStmt, fold-TStmt}
use Rattle.k_types_meaning.specs.declared.tree.statement.TStmt.TheVariants as stmt
use Rattle.k_types_meaning.specs.declared.tree.unit.TFunc.{TFunc}

-- the number that is next in a list, if there is one
abbrev pub next : List ℕ → ℕ
next [] = 0
next (n ∷ ns) = n

-- the numbers behind the next one
abbrev pub later : List ℕ → List ℕ
later [] = []
later (n ∷ ns) = ns

-- what takes its numbers from the front of three lists, and leaves the others
abbrev pub Filling : Type 0 → Type 0
Filling A = List ℕ → List ℕ → List ℕ → A × List ℕ × List ℕ × List ℕ

-- the same, with a name, so that an equation of folds rewrites it
pub record Fill (A : Type 0) : Type 0 where
  pub from : Filling A

-- each item takes its numbers from what the items before it leave
abbrev pub fill_list : {A : Type 0} → List (Fill A) → Filling (List A)
fill_list [] ns ss ls = ([], ns, ss, ls)
fill_list (fill ∷ fills) ns ss ls = let a = fill.from ns ss ls in let b = fill_list fills a.1 a.2 a.3 in (a.0 ∷ b.0, b.1, b.2, b.3)

-- a node takes the next number
abbrev pub fill_node : Node → List ℕ → Node
fill_node node ns = record node { number = next ns }

-- an expression, whose operands take their numbers
abbrev pub fill_expr_form : TExpr-F (Fill TExpr) → Filling TExpr
fill_expr_form (TExpr-F.Number node value) ns ss ls = (typed.Number (fill_node node ns) value, later ns, ss, ls)
fill_expr_form (TExpr-F.Str node n bytes) ns ss ls = (typed.Str (fill_node node ns) (next ss) bytes, later ns, later ss, ls)
fill_expr_form (TExpr-F.Object node n) ns ss ls = (typed.Object (fill_node node ns) n, later ns, ss, ls)
fill_expr_form (TExpr-F.Variable node n) ns ss ls = (typed.Variable (fill_node node ns) n, later ns, ss, ls)
fill_expr_form (TExpr-F.Index node a b) ns ss ls = let x = a.from (later ns) ss ls in let y = b.from x.1 x.2 x.3 in (typed.Index (fill_node node ns) x.0 y.0, y.1, y.2, y.3)
fill_expr_form (TExpr-F.Call node f args) ns ss ls = let x = fill_list args (later ns) ss ls in (typed.Call (fill_node node ns) f x.0, x.1, x.2, x.3)
fill_expr_form (TExpr-F.Getchar node) ns ss ls = (typed.Getchar (fill_node node ns), later ns, ss, ls)
fill_expr_form (TExpr-F.Putchar node a) ns ss ls = let x = a.from (later ns) ss ls in (typed.Putchar (fill_node node ns) x.0, x.1, x.2, x.3)
fill_expr_form (TExpr-F.Puts node a) ns ss ls = let x = a.from (later ns) ss ls in (typed.Puts (fill_node node ns) x.0, x.1, x.2, x.3)
fill_expr_form (TExpr-F.Printf node format args) ns ss ls = let x = fill_list args (later ns) ss ls in (typed.Printf (fill_node node ns) format x.0, x.1, x.2, x.3)
fill_expr_form (TExpr-F.Post node change a) ns ss ls = let x = a.from (later ns) ss ls in (typed.Post (fill_node node ns) change x.0, x.1, x.2, x.3)
fill_expr_form (TExpr-F.Pre node change a) ns ss ls = let x = a.from (later ns) ss ls in (typed.Pre (fill_node node ns) change x.0, x.1, x.2, x.3)
fill_expr_form (TExpr-F.Address node a) ns ss ls = let x = a.from (later ns) ss ls in (typed.Address (fill_node node ns) x.0, x.1, x.2, x.3)
fill_expr_form (TExpr-F.Deref node a) ns ss ls = let x = a.from (later ns) ss ls in (typed.Deref (fill_node node ns) x.0, x.1, x.2, x.3)
fill_expr_form (TExpr-F.Plus node a) ns ss ls = let x = a.from (later ns) ss ls in (typed.Plus (fill_node node ns) x.0, x.1, x.2, x.3)
fill_expr_form (TExpr-F.Unary node op kind a) ns ss ls = let x = a.from (later ns) ss ls in (typed.Unary (fill_node node ns) op kind x.0, x.1, x.2, x.3)
fill_expr_form (TExpr-F.Convert node a) ns ss ls = let x = a.from (later ns) ss ls in (typed.Convert (fill_node node ns) x.0, x.1, x.2, x.3)
fill_expr_form (TExpr-F.Cast node a) ns ss ls = let x = a.from (later ns) ss ls in (typed.Cast (fill_node node ns) x.0, x.1, x.2, x.3)
fill_expr_form (TExpr-F.Binary node op kind a b) ns ss ls = let x = a.from (later ns) ss ls in let y = b.from x.1 x.2 x.3 in (typed.Binary (fill_node node ns) op kind x.0 y.0, y.1, y.2, y.3)
fill_expr_form (TExpr-F.Both node a b) ns ss ls = let x = a.from (later ns) ss ls in let y = b.from x.1 x.2 x.3 in (typed.Both (fill_node node ns) x.0 y.0, y.1, y.2, y.3)
fill_expr_form (TExpr-F.Either node a b) ns ss ls = let x = a.from (later ns) ss ls in let y = b.from x.1 x.2 x.3 in (typed.Either (fill_node node ns) x.0 y.0, y.1, y.2, y.3)
fill_expr_form (TExpr-F.Forward node a b) ns ss ls = let x = a.from (later ns) ss ls in let y = b.from x.1 x.2 x.3 in (typed.Forward (fill_node node ns) x.0 y.0, y.1, y.2, y.3)
fill_expr_form (TExpr-F.Onto node a b) ns ss ls = let x = a.from (later ns) ss ls in let y = b.from x.1 x.2 x.3 in (typed.Onto (fill_node node ns) x.0 y.0, y.1, y.2, y.3)
fill_expr_form (TExpr-F.Back node a b) ns ss ls = let x = a.from (later ns) ss ls in let y = b.from x.1 x.2 x.3 in (typed.Back (fill_node node ns) x.0 y.0, y.1, y.2, y.3)
fill_expr_form (TExpr-F.PtrCompare node op a b) ns ss ls = let x = a.from (later ns) ss ls in let y = b.from x.1 x.2 x.3 in (typed.PtrCompare (fill_node node ns) op x.0 y.0, y.1, y.2, y.3)
fill_expr_form (TExpr-F.PtrDistance node a b) ns ss ls = let x = a.from (later ns) ss ls in let y = b.from x.1 x.2 x.3 in (typed.PtrDistance (fill_node node ns) x.0 y.0, y.1, y.2, y.3)
fill_expr_form (TExpr-F.Cond node a b c) ns ss ls = let x = a.from (later ns) ss ls in let y = b.from x.1 x.2 x.3 in let z = c.from y.1 y.2 y.3 in (typed.Cond (fill_node node ns) x.0 y.0 z.0, z.1, z.2, z.3)
fill_expr_form (TExpr-F.Assign node a b) ns ss ls = let x = a.from (later ns) ss ls in let y = b.from x.1 x.2 x.3 in (typed.Assign (fill_node node ns) x.0 y.0, y.1, y.2, y.3)
fill_expr_form (TExpr-F.AssignBy node change a b) ns ss ls = let x = a.from (later ns) ss ls in let y = b.from x.1 x.2 x.3 in (typed.AssignBy (fill_node node ns) change x.0 y.0, y.1, y.2, y.3)
fill_expr_form (TExpr-F.Comma node a b) ns ss ls = let x = a.from (later ns) ss ls in let y = b.from x.1 x.2 x.3 in (typed.Comma (fill_node node ns) x.0 y.0, y.1, y.2, y.3)

-- an expression takes its numbers
abbrev pub fill_expr : TExpr → Fill TExpr
fill_expr = fold-TExpr (Fill TExpr) (λ x. record { from = fill_expr_form x })

-- an expression takes its numbers where it is there
abbrev pub fill_option : Option TExpr → Filling (Option TExpr)
fill_option None ns ss ls = (None, ns, ss, ls)
fill_option (Some e) ns ss ls = let a = (fill_expr e).from ns ss ls in (Some a.0, a.1, a.2, a.3)

-- an item of braces takes its numbers
abbrev pub fill_item_form : TItem → Filling TItem
fill_item_form (item.Bytes n bytes) ns ss ls = (item.Bytes n bytes, ns, ss, ls)
fill_item_form (item.Value p n e) ns ss ls = let a = (fill_expr e).from ns ss ls in (item.Value p n a.0, a.1, a.2, a.3)

-- an item of braces takes its numbers, with a name
abbrev pub fill_item : TItem → Fill TItem
fill_item i = record { from = fill_item_form i }

-- an initialiser takes its numbers
abbrev pub fill_init : TInit → Filling TInit
fill_init begins.Nothing ns ss ls = (begins.Nothing, ns, ss, ls)
fill_init (begins.Value e) ns ss ls = let a = (fill_expr e).from ns ss ls in (begins.Value a.0, a.1, a.2, a.3)
fill_init (begins.Elements items) ns ss ls = let a = fill_list (map fill_item items) ns ss ls in (begins.Elements a.0, a.1, a.2, a.3)

-- a declared variable takes its numbers
abbrev pub fill_declarator_form : TDeclarator → Filling TDeclarator
fill_declarator_form d ns ss ls = let a = fill_init d.init ns ss ls in (record d { init = a.0 }, a.1, a.2, a.3)

-- a declared variable takes its numbers, with a name
abbrev pub fill_declarator : TDeclarator → Fill TDeclarator
fill_declarator d = record { from = fill_declarator_form d }

-- declared variables take their numbers
abbrev pub fill_declared : List TDeclarator → Filling (List TDeclarator)
fill_declared list = fill_list (map fill_declarator list)

-- the first part of a `for` takes its numbers
abbrev pub fill_first : TFirst → Filling TFirst
fill_first first.Nothing ns ss ls = (first.Nothing, ns, ss, ls)
fill_first (first.Value e) ns ss ls = let a = (fill_expr e).from ns ss ls in (first.Value a.0, a.1, a.2, a.3)
fill_first (first.Declare list) ns ss ls = let a = fill_declared list ns ss ls in (first.Declare a.0, a.1, a.2, a.3)

-- a statement takes the next number
abbrev pub fill_spot : Spot → List ℕ → Spot
fill_spot spot ns = record spot { number = next ns }

-- a statement, whose statements and parts take their numbers
abbrev pub fill_stmt_form : TStmt-F (Fill TPart) (Fill TStmt) → Filling TStmt
fill_stmt_form (TStmt-F.Expr spot e) ns ss ls = let a = (fill_expr e).from (later ns) ss ls in (stmt.Expr (fill_spot spot ns) a.0, a.1, a.2, a.3)
fill_stmt_form (TStmt-F.Empty spot) ns ss ls = (stmt.Empty (fill_spot spot ns), later ns, ss, ls)
fill_stmt_form (TStmt-F.Block spot parts) ns ss ls = let a = fill_list parts (later ns) ss ls in (stmt.Block (fill_spot spot ns) a.0, a.1, a.2, a.3)
fill_stmt_form (TStmt-F.If spot test one None) ns ss ls =
    let a = (fill_expr test).from (later ns) ss ls in let b = one.from a.1 a.2 a.3 in
    (stmt.If (fill_spot spot ns) a.0 b.0 None, b.1, b.2, b.3)
fill_stmt_form (TStmt-F.If spot test one (Some other)) ns ss ls =
    let a = (fill_expr test).from (later ns) ss ls in let b = one.from a.1 a.2 a.3 in let c = other.from b.1 b.2 b.3 in
    (stmt.If (fill_spot spot ns) a.0 b.0 (Some c.0), c.1, c.2, c.3)
fill_stmt_form (TStmt-F.While spot turns test body) ns ss ls =
    let a = (fill_expr test).from (later ns) ss (later ls) in let b = body.from a.1 a.2 a.3 in
    (stmt.While (fill_spot spot ns) (next ls) a.0 b.0, b.1, b.2, b.3)
fill_stmt_form (TStmt-F.DoWhile spot turns body test) ns ss ls =
    let a = body.from (later ns) ss (later ls) in let b = (fill_expr test).from a.1 a.2 a.3 in
    (stmt.DoWhile (fill_spot spot ns) (next ls) a.0 b.0, b.1, b.2, b.3)
fill_stmt_form (TStmt-F.For spot turns start test step body) ns ss ls =
    let a = fill_first start (later ns) ss (later ls) in let b = fill_option test a.1 a.2 a.3 in
    let c = fill_option step b.1 b.2 b.3 in let d = body.from c.1 c.2 c.3 in
    (stmt.For (fill_spot spot ns) (next ls) a.0 b.0 c.0 d.0, d.1, d.2, d.3)
fill_stmt_form (TStmt-F.Switch spot kind on parts) ns ss ls =
    let a = (fill_expr on).from (later ns) ss ls in let b = fill_list parts a.1 a.2 a.3 in
    (stmt.Switch (fill_spot spot ns) kind a.0 b.0, b.1, b.2, b.3)
fill_stmt_form (TStmt-F.Break spot) ns ss ls = (stmt.Break (fill_spot spot ns), later ns, ss, ls)
fill_stmt_form (TStmt-F.Continue spot) ns ss ls = (stmt.Continue (fill_spot spot ns), later ns, ss, ls)
fill_stmt_form (TStmt-F.Return spot value) ns ss ls = let a = fill_option value (later ns) ss ls in (stmt.Return (fill_spot spot ns) a.0, a.1, a.2, a.3)
fill_stmt_form (TStmt-F.Declare spot list) ns ss ls = let a = fill_declared list (later ns) ss ls in (stmt.Declare (fill_spot spot ns) a.0, a.1, a.2, a.3)

-- a part of a switch, whose statement takes its numbers
abbrev pub fill_part_form : TPart-F (Fill TPart) (Fill TStmt) → Filling TPart
fill_part_form (TPart-F.Case p value) ns ss ls = (part.Case p value, ns, ss, ls)
fill_part_form (TPart-F.Default p) ns ss ls = (part.Default p, ns, ss, ls)
fill_part_form (TPart-F.Does p body) ns ss ls = let a = body.from ns ss ls in (part.Does p a.0, a.1, a.2, a.3)

-- a statement takes its numbers
abbrev pub fill_stmt : TStmt → Fill TStmt
fill_stmt = fold-TStmt (Fill TPart) (Fill TStmt) (λ x. record { from = fill_part_form x }) (λ x. record { from = fill_stmt_form x })

-- a part of a switch takes its numbers
abbrev pub fill_part : TPart → Fill TPart
fill_part = fold-TPart (Fill TPart) (Fill TStmt) (λ x. record { from = fill_part_form x }) (λ x. record { from = fill_stmt_form x })

-- a function, whose statements take their numbers; it does not know how many loops come before it
abbrev pub fill_function_form : TFunc → Filling TFunc
fill_function_form f ns ss ls = let a = fill_list (map fill_stmt f.body) ns ss ls in (record f { body = a.0 }, a.1, a.2, a.3)

-- a function takes its numbers, with a name
abbrev pub fill_function : TFunc → Fill TFunc
fill_function f = record { from = fill_function_form f }
