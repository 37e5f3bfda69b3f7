-- Believed with the theorem on the top call.
-- Node counts: how many items, parameters, declarators, initialisers, statements, parts of a `switch` and expressions a tree has.
use Rattle.std.specs.Prelude.{ℕ, ◌+◌, List, map, sum, Option, Some, None}
use Rattle.k_tree.specs.declared.tree.expression.Expr.{Expr, fold-Expr}
use Rattle.k_tree.specs.declared.tree.expression.Expr.TheOpen.{Expr-F}
use Rattle.k_tree.specs.declared.tree.declaration.Init.{Init, fold-Init}
use Rattle.k_tree.specs.declared.tree.declaration.Init.TheOpen.{Init-F}
use Rattle.k_tree.specs.declared.tree.declaration.Declarator.{Declarator}
use Rattle.k_tree.specs.declared.tree.declaration.Param.{Param}
use Rattle.k_tree.specs.declared.tree.declaration.Params.{Params}
use Rattle.k_tree.specs.declared.tree.declaration.Params.TheVariants as params
use Rattle.k_tree.specs.declared.tree.statement.First.{First}
use Rattle.k_tree.specs.declared.tree.statement.First.TheVariants as first
use Rattle.k_tree.specs.declared.tree.statement.Stmt.{Stmt, fold-Stmt}
use Rattle.k_tree.specs.declared.tree.statement.Part.TheOpen.{Part-F, Stmt-F}
use Rattle.k_tree.specs.declared.tree.statement.Part.{Part, fold-Part}
use Rattle.k_tree.specs.declared.tree.unit.Item.{Item}
use Rattle.k_tree.specs.declared.tree.unit.Item.TheVariants as item
use Rattle.k_tree.specs.declared.tree.unit.Unit as source

-- the count of what may be left out, 0 where it is left out
abbrev pub of_option : Option ℕ → ℕ
of_option None = 0
of_option (Some n) = n

-- C17 6.5: the count of an expression, whose parts are counted
abbrev pub expr_step : Expr-F ℕ → ℕ
expr_step (Expr-F.Name place name) = 1
expr_step (Expr-F.Number place kind value) = 1
expr_step (Expr-F.Char place value) = 1
expr_step (Expr-F.Str place bytes) = 1
expr_step (Expr-F.Paren place inner) = 1 + inner
expr_step (Expr-F.Index place base index) = 1 + base + index
expr_step (Expr-F.Call place name args) = 1 + sum args
expr_step (Expr-F.Post place op operand) = 1 + operand
expr_step (Expr-F.Pre place op operand) = 1 + operand
expr_step (Expr-F.Unary place op operand) = 1 + operand
expr_step (Expr-F.SizeofExpr place operand) = 1 + operand
expr_step (Expr-F.SizeofType place specs stars) = 1
expr_step (Expr-F.Cast place specs stars operand) = 1 + operand
expr_step (Expr-F.Binary place op left right) = 1 + left + right
expr_step (Expr-F.Cond place test chosen other) = 1 + test + chosen + other
expr_step (Expr-F.Assign place op left right) = 1 + left + right
expr_step (Expr-F.Comma place left right) = 1 + left + right

-- C17 6.5: how many expressions there are in an expression, itself among them
abbrev pub expr_count : Expr → ℕ
expr_count = fold-Expr ℕ expr_step

-- how many expressions there are in one that may be left out
abbrev pub option_count : Option Expr → ℕ
option_count None = 0
option_count (Some value) = expr_count value

-- C17 6.7.6.2: how many expressions there are in the sizes of dimensions
abbrev pub dims_count : List (Option Expr) → ℕ
dims_count dims = sum (map option_count dims)

-- C17 6.7.9: the count of an initialiser, whose items are counted
abbrev pub init_step : Init-F ℕ → ℕ
init_step (Init-F.One place value) = 1 + expr_count value
init_step (Init-F.List place items comma) = 1 + sum items

-- C17 6.7.9: how many initialisers and expressions there are in an initialiser, itself among them
abbrev pub init_count : Init → ℕ
init_count = fold-Init ℕ init_step

-- C17 6.7.9: how many initialisers and expressions there are in the initialiser of a declarator, 0 where it has none
abbrev pub initialised_count : Option Init → ℕ
initialised_count None = 0
initialised_count (Some init) = init_count init

-- C17 6.7.6: a declarator with its dimensions and its initialiser
abbrev pub declarator_count : Declarator → ℕ
declarator_count d = 1 + dims_count d.dims + initialised_count d.init

-- C17 6.7: how many nodes there are in the declarators of a declaration
abbrev pub declarators_count : List Declarator → ℕ
declarators_count list = sum (map declarator_count list)

-- C17 6.7.6.3: a parameter with its dimensions
abbrev pub param_count : Param → ℕ
param_count p = 1 + dims_count p.dims

-- C17 6.7.6.3: the parameters of a head, where an empty list and `void` alone are none
abbrev pub params_count : Params → ℕ
params_count params.Empty = 0
params_count params.Void = 0
params_count (params.List list) = sum (map param_count list)

-- C17 6.8.5.3: the first part of a `for` is no statement
abbrev pub first_count : First → ℕ
first_count first.Nothing = 0
first_count (first.Value value) = expr_count value
first_count (first.Declare specs list) = declarators_count list

-- C17 6.8: the count of a statement, whose statements are counted
abbrev pub stmt_step : Stmt-F ℕ ℕ → ℕ
stmt_step (Stmt-F.Expr place value) = 1 + expr_count value
stmt_step (Stmt-F.Empty place) = 1
stmt_step (Stmt-F.Block place parts) = 1 + sum parts
stmt_step (Stmt-F.If place test chosen other) = 1 + expr_count test + chosen + of_option other
stmt_step (Stmt-F.While place test body) = 1 + expr_count test + body
stmt_step (Stmt-F.DoWhile place body test) = 1 + body + expr_count test
stmt_step (Stmt-F.For place start test step body) = 1 + first_count start + option_count test + option_count step + body
stmt_step (Stmt-F.Switch place on parts) = 1 + expr_count on + sum parts
stmt_step (Stmt-F.Break place) = 1
stmt_step (Stmt-F.Continue place) = 1
stmt_step (Stmt-F.Return place value) = 1 + option_count value
stmt_step (Stmt-F.Declare place specs list) = 1 + declarators_count list

-- C17 6.8.1, 6.8.4.2: the count of a part of a `switch`, a label or a statement that is counted; the part itself counts
abbrev pub part_step : Part-F ℕ ℕ → ℕ
part_step (Part-F.Case place value) = 1 + expr_count value
part_step (Part-F.Default place) = 1
part_step (Part-F.Does place body) = 1 + body

-- C17 6.8: how many nodes there are in a statement, itself among them
abbrev pub stmt_count : Stmt → ℕ
stmt_count = fold-Stmt ℕ ℕ part_step stmt_step

-- C17 6.8.4.2: how many nodes there are in a part of a `switch`, itself among them
abbrev pub part_count : Part → ℕ
part_count = fold-Part ℕ ℕ part_step stmt_step

-- C17 6.9: an item and what is in it; the block of a function is no statement
abbrev pub item_count : Item → ℕ
item_count (item.Function place head body close) = 1 + params_count head.params + sum (map stmt_count body)
item_count (item.Prototype place head) = 1 + params_count head.params
item_count (item.Objects place specs list) = 1 + declarators_count list

-- C17 6.9: the items of a source
abbrev pub unit_count : source.Unit → ℕ
unit_count unit = sum (map item_count unit.items)
