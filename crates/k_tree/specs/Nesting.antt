-- Believed with the theorem on the top call.
-- Nesting: the most initialisers, statements and expressions that lie one in another, from an item down to a node.
use Rattle.std.specs.Prelude.{ℕ, ◌+◌, max, List, [], ◌∷◌, map, Option, Some, None}
use Rattle.k_tree.specs.declared.tree.expression.Expr.{Expr, fold-Expr}
use Rattle.k_tree.specs.declared.tree.expression.Expr.TheOpen.{Expr-F}
use Rattle.k_tree.specs.declared.tree.declaration.Init.{Init, fold-Init}
use Rattle.k_tree.specs.declared.tree.declaration.Init.TheOpen.{Init-F}
use Rattle.k_tree.specs.declared.tree.declaration.Declarator.{Declarator}
use Rattle.k_tree.specs.declared.tree.declaration.Param.{Param}
use Rattle.k_tree.specs.declared.tree.declaration.Params.{Params}
use Rattle.k_tree.specs.declared.tree.declaration.Params.TheVariants as params
use Rattle.k_tree.specs.declared.tree.statement.First.{First}
use Rattle.k_tree.specs.declared.tree.statement.First.TheVariants as first
use Rattle.k_tree.specs.declared.tree.statement.Stmt.{Stmt, fold-Stmt}
use Rattle.k_tree.specs.declared.tree.statement.Part.TheOpen.{Part-F, Stmt-F}
use Rattle.k_tree.specs.declared.tree.statement.Part.{Part, fold-Part}
use Rattle.k_tree.specs.declared.tree.unit.Item.{Item}
use Rattle.k_tree.specs.declared.tree.unit.Item.TheVariants as item
use Rattle.k_tree.specs.declared.tree.unit.Unit as source

-- the greatest of some depths, 0 where there is none
abbrev pub deepest : List ℕ → ℕ
deepest [] = 0
deepest (n ∷ ns) = max n (deepest ns)

-- the depth of what may be left out, 0 where it is left out
abbrev pub depth_of_option : Option ℕ → ℕ
depth_of_option None = 0
depth_of_option (Some n) = n

-- C17 6.5: the depth of an expression, of whose parts the depths are known: one more than the deepest
abbrev pub expr_depth_step : Expr-F ℕ → ℕ
expr_depth_step (Expr-F.Name place name) = 1
expr_depth_step (Expr-F.Number place kind value) = 1
expr_depth_step (Expr-F.Char place value) = 1
expr_depth_step (Expr-F.Str place bytes) = 1
expr_depth_step (Expr-F.Paren place inner) = 1 + inner
expr_depth_step (Expr-F.Index place base index) = 1 + max base index
expr_depth_step (Expr-F.Call place name args) = 1 + deepest args
expr_depth_step (Expr-F.Post place op operand) = 1 + operand
expr_depth_step (Expr-F.Pre place op operand) = 1 + operand
expr_depth_step (Expr-F.Unary place op operand) = 1 + operand
expr_depth_step (Expr-F.SizeofExpr place operand) = 1 + operand
expr_depth_step (Expr-F.SizeofType place specs stars) = 1
expr_depth_step (Expr-F.Cast place specs stars operand) = 1 + operand
expr_depth_step (Expr-F.Binary place op left right) = 1 + max left right
expr_depth_step (Expr-F.Cond place test chosen other) = 1 + max test (max chosen other)
expr_depth_step (Expr-F.Assign place op left right) = 1 + max left right
expr_depth_step (Expr-F.Comma place left right) = 1 + max left right

-- C17 6.5: the most expressions that lie one in another in an expression, itself among them
abbrev pub expr_depth : Expr → ℕ
expr_depth = fold-Expr ℕ expr_depth_step

-- the depth of an expression that may be left out
abbrev pub option_depth : Option Expr → ℕ
option_depth None = 0
option_depth (Some value) = expr_depth value

-- C17 6.7.6.2: the depth of the deepest size among dimensions
abbrev pub dims_depth : List (Option Expr) → ℕ
dims_depth dims = deepest (map option_depth dims)

-- C17 6.7.9: the depth of an initialiser, of whose items the depths are known: one more than the deepest
abbrev pub init_depth_step : Init-F ℕ → ℕ
init_depth_step (Init-F.One place value) = 1 + expr_depth value
init_depth_step (Init-F.List place items comma) = 1 + deepest items

-- C17 6.7.9: the most initialisers and expressions that lie one in another in an initialiser, itself among them
abbrev pub init_depth : Init → ℕ
init_depth = fold-Init ℕ init_depth_step

-- C17 6.7.9: the depth of the initialiser of a declarator, 0 where it has none
abbrev pub initialised_depth : Option Init → ℕ
initialised_depth None = 0
initialised_depth (Some init) = init_depth init

-- C17 6.7.6: the deepest part of a declarator, which adds nothing of its own
abbrev pub declarator_depth : Declarator → ℕ
declarator_depth d = max (dims_depth d.dims) (initialised_depth d.init)

-- C17 6.7: the deepest declarator of a declaration
abbrev pub declarators_depth : List Declarator → ℕ
declarators_depth list = deepest (map declarator_depth list)

-- C17 6.7.6.3: the deepest size of a parameter, which adds nothing of its own
abbrev pub param_depth : Param → ℕ
param_depth p = dims_depth p.dims

-- C17 6.7.6.3: the deepest parameter of a head
abbrev pub params_depth : Params → ℕ
params_depth params.Empty = 0
params_depth params.Void = 0
params_depth (params.List list) = deepest (map param_depth list)

-- C17 6.8.5.3: the depth of the first part of a `for`, which adds nothing of its own
abbrev pub first_depth : First → ℕ
first_depth first.Nothing = 0
first_depth (first.Value value) = expr_depth value
first_depth (first.Declare specs list) = declarators_depth list

-- C17 6.8: the depth of a statement, of whose statements the depths are known: one more than the deepest part
abbrev pub stmt_depth_step : Stmt-F ℕ ℕ → ℕ
stmt_depth_step (Stmt-F.Expr place value) = 1 + expr_depth value
stmt_depth_step (Stmt-F.Empty place) = 1
stmt_depth_step (Stmt-F.Block place parts) = 1 + deepest parts
stmt_depth_step (Stmt-F.If place test chosen other) = 1 + max (expr_depth test) (max chosen (depth_of_option other))
stmt_depth_step (Stmt-F.While place test body) = 1 + max (expr_depth test) body
stmt_depth_step (Stmt-F.DoWhile place body test) = 1 + max body (expr_depth test)
stmt_depth_step (Stmt-F.For place start test step body) =
    1 + max (first_depth start) (max (option_depth test) (max (option_depth step) body))
stmt_depth_step (Stmt-F.Switch place on parts) = 1 + max (expr_depth on) (deepest parts)
stmt_depth_step (Stmt-F.Break place) = 1
stmt_depth_step (Stmt-F.Continue place) = 1
stmt_depth_step (Stmt-F.Return place value) = 1 + option_depth value
stmt_depth_step (Stmt-F.Declare place specs list) = 1 + declarators_depth list

-- C17 6.8.1, 6.8.4.2: the depth of a part of a `switch`, which adds nothing of its own
abbrev pub part_depth_step : Part-F ℕ ℕ → ℕ
part_depth_step (Part-F.Case place value) = expr_depth value
part_depth_step (Part-F.Default place) = 0
part_depth_step (Part-F.Does place body) = body

-- C17 6.8: the most statements, initialisers and expressions that lie one in another in a statement, itself among them
abbrev pub stmt_depth : Stmt → ℕ
stmt_depth = fold-Stmt ℕ ℕ part_depth_step stmt_depth_step

-- C17 6.8.4.2: the most statements, initialisers and expressions that lie one in another in a part of a `switch`
abbrev pub part_depth : Part → ℕ
part_depth = fold-Part ℕ ℕ part_depth_step stmt_depth_step

-- C17 6.9: an item and the block of a function count as nothing
abbrev pub item_depth : Item → ℕ
item_depth (item.Function place head body close) = max (params_depth head.params) (deepest (map stmt_depth body))
item_depth (item.Prototype place head) = params_depth head.params
item_depth (item.Objects place specs list) = declarators_depth list

-- C17 6.9: the depth of the deepest item of a source
abbrev pub nesting : source.Unit → ℕ
nesting unit = deepest (map item_depth unit.items)
