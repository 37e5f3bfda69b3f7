-- Trees that get the places of their nodes from the front of a list, in the order in which the nodes are laid.
use Rattle.std.proofs.Common.{List, [], ◌∷◌, map, Option, Some, None}
use Rattle.k_parse_steps.specs.Types.{Place, Expr, Init, Declarator, Param, Params, First, Stmt, Part, Head, Item}
use Rattle.k_tree.specs.declared.tree.expression.Expr.{fold-Expr}
use Rattle.k_tree.specs.declared.tree.expression.Expr.TheOpen.{Expr-F}
use Rattle.k_tree.specs.declared.tree.expression.Expr.TheVariants as expr
use Rattle.k_tree.specs.declared.tree.declaration.Init.{fold-Init}
use Rattle.k_tree.specs.declared.tree.declaration.Init.TheOpen.{Init-F}
use Rattle.k_tree.specs.declared.tree.declaration.Init.TheVariants as init
use Rattle.k_tree.specs.declared.tree.declaration.Params.TheVariants as params
use Rattle.k_tree.specs.declared.tree.statement.First.TheVariants as first
use Rattle.k_tree.specs.declared.tree.statement.Stmt.{fold-Stmt}
use Rattle.k_tree.specs.declared.tree.statement.Part.{fold-Part}
use Rattle.k_tree.specs.declared.tree.statement.Part.TheOpen.{Part-F, Stmt-F}
use Rattle.k_tree.specs.declared.tree.statement.Part.TheVariants as part
use Rattle.k_tree.specs.declared.tree.statement.Stmt.TheVariants as stmt
use Rattle.k_tree.specs.declared.tree.unit.Item.TheVariants as item
use Rattle.k_tree.specs.declared.tree.unit.Unit as source
use Rattle.k_tree.specs.Bare.{nowhere}

-- the place that is next in a list, if there is one
abbrev pub next_place : List Place → Place
next_place [] = nowhere
next_place (p ∷ ps) = p

-- the places behind the next one
abbrev pub later_places : List Place → List Place
later_places [] = []
later_places (p ∷ ps) = ps

-- what takes its places from the front of a list, and leaves the others
abbrev pub Filling : Type 0 → Type 0
Filling A = List Place → A × List Place

-- the same, with a name, so that an equation of folds rewrites it
pub record Fill (A : Type 0) : Type 0 where
  pub from : Filling A

-- each item takes its places from what the items before it leave
abbrev pub fill_list : {A : Type 0} → List (Fill A) → Filling (List A)
fill_list [] ps = ([], ps)
fill_list (fill ∷ fills) ps = let a = fill.from ps in let b = fill_list fills a.1 in (a.0 ∷ b.0, b.1)

-- what may be left out takes places where it is there
abbrev pub fill_option : {A : Type 0} → (A → Fill A) → Option A → Filling (Option A)
fill_option fill None ps = (None, ps)
fill_option fill (Some x) ps = let a = (fill x).from ps in (Some a.0, a.1)

-- an expression, whose parts take their places
abbrev pub fill_expr_form : Expr-F (Fill Expr) → Filling Expr
fill_expr_form (Expr-F.Name place name) ps = (expr.Name (next_place ps) name, later_places ps)
fill_expr_form (Expr-F.Number place kind value) ps = (expr.Number (next_place ps) kind value, later_places ps)
fill_expr_form (Expr-F.Char place value) ps = (expr.Char (next_place ps) value, later_places ps)
fill_expr_form (Expr-F.Str place bytes) ps = (expr.Str (next_place ps) bytes, later_places ps)
fill_expr_form (Expr-F.Paren place inner) ps =
    let a = inner.from (later_places ps) in (expr.Paren (next_place ps) a.0, a.1)
fill_expr_form (Expr-F.Index place base index) ps =
    let a = base.from ps in let b = index.from (later_places a.1) in (expr.Index (next_place a.1) a.0 b.0, b.1)
fill_expr_form (Expr-F.Call place name args) ps =
    let a = fill_list args (later_places ps) in (expr.Call (next_place ps) name a.0, a.1)
fill_expr_form (Expr-F.Post place op operand) ps =
    let a = operand.from ps in (expr.Post (next_place a.1) op a.0, later_places a.1)
fill_expr_form (Expr-F.Pre place op operand) ps =
    let a = operand.from (later_places ps) in (expr.Pre (next_place ps) op a.0, a.1)
fill_expr_form (Expr-F.Unary place op operand) ps =
    let a = operand.from (later_places ps) in (expr.Unary (next_place ps) op a.0, a.1)
fill_expr_form (Expr-F.SizeofExpr place operand) ps =
    let a = operand.from (later_places ps) in (expr.SizeofExpr (next_place ps) a.0, a.1)
fill_expr_form (Expr-F.SizeofType place specs stars) ps = (expr.SizeofType (next_place ps) specs stars, later_places ps)
fill_expr_form (Expr-F.Cast place specs stars operand) ps =
    let a = operand.from (later_places ps) in (expr.Cast (next_place ps) specs stars a.0, a.1)
fill_expr_form (Expr-F.Binary place op left right) ps =
    let a = left.from ps in let b = right.from (later_places a.1) in (expr.Binary (next_place a.1) op a.0 b.0, b.1)
fill_expr_form (Expr-F.Cond place test chosen other) ps =
    let a = test.from ps in let b = chosen.from (later_places a.1) in let c = other.from b.1 in
    (expr.Cond (next_place a.1) a.0 b.0 c.0, c.1)
fill_expr_form (Expr-F.Assign place op left right) ps =
    let a = left.from ps in let b = right.from (later_places a.1) in (expr.Assign (next_place a.1) op a.0 b.0, b.1)
fill_expr_form (Expr-F.Comma place left right) ps =
    let a = left.from ps in let b = right.from (later_places a.1) in (expr.Comma (next_place a.1) a.0 b.0, b.1)

-- an expression takes its places
abbrev pub fill_expr : Expr → Fill Expr
fill_expr = fold-Expr (Fill Expr) (λ x. record { from = fill_expr_form x })

-- dimensions take their places
abbrev pub fill_dims : List (Option Expr) → Filling (List (Option Expr))
fill_dims dims = fill_list (map (λ d. record { from = fill_option fill_expr d }) dims)

-- an initialiser, whose items take their places
abbrev pub fill_init_form : Init-F (Fill Init) → Filling Init
fill_init_form (Init-F.One place value) ps = let a = (fill_expr value).from (later_places ps) in (init.One (next_place ps) a.0, a.1)
fill_init_form (Init-F.List place items comma) ps =
    let a = fill_list items (later_places ps) in (init.List (next_place ps) a.0 comma, a.1)

-- an initialiser takes its places
abbrev pub fill_init : Init → Fill Init
fill_init = fold-Init (Fill Init) (λ x. record { from = fill_init_form x })

-- a declarator takes its places
abbrev pub fill_declarator : Declarator → Filling Declarator
fill_declarator d ps =
    let a = fill_dims d.dims (later_places ps) in let b = fill_option fill_init d.init a.1 in
    (record d { place = next_place ps; dims = a.0; init = b.0 }, b.1)

-- declarators take their places
abbrev pub fill_declarators : List Declarator → Filling (List Declarator)
fill_declarators list = fill_list (map (λ d. record { from = fill_declarator d }) list)

-- a parameter takes its places
abbrev pub fill_param : Param → Filling Param
fill_param p ps = let a = fill_dims p.dims (later_places ps) in (record p { place = next_place ps; dims = a.0 }, a.1)

-- what stands between the parentheses of a head takes its places
abbrev pub fill_params : Params → Filling Params
fill_params params.Empty ps = (params.Empty, ps)
fill_params params.Void ps = (params.Void, ps)
fill_params (params.List list) ps = let a = fill_list (map (λ p. record { from = fill_param p }) list) ps in (params.List a.0, a.1)

-- the head of a function takes its places
abbrev pub fill_head : Head → Filling Head
fill_head h ps = let a = fill_params h.params (later_places ps) in (record h { name_place = next_place ps; params = a.0 }, a.1)

-- the first part of a `for` takes its places
abbrev pub fill_first : First → Filling First
fill_first first.Nothing ps = (first.Nothing, ps)
fill_first (first.Value value) ps = let a = (fill_expr value).from ps in (first.Value a.0, a.1)
fill_first (first.Declare specs list) ps = let a = fill_declarators list ps in (first.Declare specs a.0, a.1)

-- a statement, whose statements take their places
abbrev pub fill_stmt_form : Stmt-F (Fill Part) (Fill Stmt) → Filling Stmt
fill_stmt_form (Stmt-F.Expr place value) ps = let a = (fill_expr value).from (later_places ps) in (stmt.Expr (next_place ps) a.0, a.1)
fill_stmt_form (Stmt-F.Empty place) ps = (stmt.Empty (next_place ps), later_places ps)
fill_stmt_form (Stmt-F.Block place parts) ps = let a = fill_list parts (later_places ps) in (stmt.Block (next_place ps) a.0, a.1)
fill_stmt_form (Stmt-F.If place test chosen None) ps =
    let a = (fill_expr test).from (later_places ps) in let b = chosen.from a.1 in (stmt.If (next_place ps) a.0 b.0 None, b.1)
fill_stmt_form (Stmt-F.If place test chosen (Some other)) ps =
    let a = (fill_expr test).from (later_places ps) in let b = chosen.from a.1 in let c = other.from b.1 in
    (stmt.If (next_place ps) a.0 b.0 (Some c.0), c.1)
fill_stmt_form (Stmt-F.While place test body) ps =
    let a = (fill_expr test).from (later_places ps) in let b = body.from a.1 in (stmt.While (next_place ps) a.0 b.0, b.1)
fill_stmt_form (Stmt-F.DoWhile place body test) ps =
    let a = body.from (later_places ps) in let b = (fill_expr test).from a.1 in (stmt.DoWhile (next_place ps) a.0 b.0, b.1)
fill_stmt_form (Stmt-F.For place start test step body) ps =
    let a = fill_first start (later_places ps) in let b = fill_option fill_expr test a.1 in
    let c = fill_option fill_expr step b.1 in let d = body.from c.1 in
    (stmt.For (next_place ps) a.0 b.0 c.0 d.0, d.1)
fill_stmt_form (Stmt-F.Switch place on parts) ps =
    let a = (fill_expr on).from (later_places ps) in let b = fill_list parts a.1 in (stmt.Switch (next_place ps) a.0 b.0, b.1)
fill_stmt_form (Stmt-F.Break place) ps = (stmt.Break (next_place ps), later_places ps)
fill_stmt_form (Stmt-F.Continue place) ps = (stmt.Continue (next_place ps), later_places ps)
fill_stmt_form (Stmt-F.Return place value) ps =
    let a = fill_option fill_expr value (later_places ps) in (stmt.Return (next_place ps) a.0, a.1)
fill_stmt_form (Stmt-F.Declare place specs list) ps =
    let a = fill_declarators list (later_places ps) in (stmt.Declare (next_place ps) specs a.0, a.1)

-- a part of a `switch`, whose statement takes its places
abbrev pub fill_part_form : Part-F (Fill Part) (Fill Stmt) → Filling Part
fill_part_form (Part-F.Case place value) ps = let a = (fill_expr value).from (later_places ps) in (part.Case (next_place ps) a.0, a.1)
fill_part_form (Part-F.Default place) ps = (part.Default (next_place ps), later_places ps)
fill_part_form (Part-F.Does place body) ps = let a = body.from (later_places ps) in (part.Does (next_place ps) a.0, a.1)

-- a statement takes its places
abbrev pub fill_stmt : Stmt → Fill Stmt
fill_stmt = fold-Stmt (Fill Part) (Fill Stmt) (λ x. record { from = fill_part_form x }) (λ x. record { from = fill_stmt_form x })

-- a part of a `switch` takes its places
abbrev pub fill_part : Part → Fill Part
fill_part = fold-Part (Fill Part) (Fill Stmt) (λ x. record { from = fill_part_form x }) (λ x. record { from = fill_stmt_form x })

-- the parts of a `switch` take their places
abbrev pub fill_switched : List Part → Filling (List Part)
fill_switched parts = fill_list (map fill_part parts)

-- the statements and declarations of a block take their places
abbrev pub fill_stmts : List Stmt → Filling (List Stmt)
fill_stmts parts = fill_list (map fill_stmt parts)

-- what stands behind the head of a function takes its places
abbrev pub fill_body : Place → Head → List Stmt → Filling Item
fill_body place head body ps = let a = fill_stmts body ps in (item.Function place head a.0 (next_place a.1), later_places a.1)

-- an item takes its places
abbrev pub fill_item : Item → Filling Item
fill_item (item.Function place head body close) ps =
    let a = fill_head head (later_places ps) in fill_body (next_place ps) a.0 body a.1
fill_item (item.Prototype place head) ps = let a = fill_head head (later_places ps) in (item.Prototype (next_place ps) a.0, a.1)
fill_item (item.Objects place specs list) ps =
    let a = fill_declarators list (later_places ps) in (item.Objects (next_place ps) specs a.0, a.1)

-- a source takes its places
abbrev pub fill_unit : source.Unit → List Place → source.Unit
fill_unit unit ps = let a = fill_list (map (λ i. record { from = fill_item i }) unit.items) ps in record { items = a.0; end = next_place a.1 }
