-- Believed with the theorem on the top call.
-- Trees without their places: two trees are equal up to places where these are equal.
use Rattle.std.specs.Prelude.{List, map, Option, Some, None, option_map}
use Rattle.k_num.specs.declared.place.Place.{Place}
use Rattle.k_tree.specs.declared.tree.expression.Expr.{Expr, fold-Expr}
use Rattle.k_tree.specs.declared.tree.expression.Expr.TheOpen.{Expr-F}
use Rattle.k_tree.specs.declared.tree.expression.Expr.TheVariants as expr
use Rattle.k_tree.specs.declared.tree.declaration.Init.{Init, fold-Init}
use Rattle.k_tree.specs.declared.tree.declaration.Init.TheOpen.{Init-F}
use Rattle.k_tree.specs.declared.tree.declaration.Init.TheVariants as init
use Rattle.k_tree.specs.declared.tree.declaration.Declarator.{Declarator}
use Rattle.k_tree.specs.declared.tree.declaration.Param.{Param}
use Rattle.k_tree.specs.declared.tree.declaration.Params.{Params}
use Rattle.k_tree.specs.declared.tree.declaration.Params.TheVariants as params
use Rattle.k_tree.specs.declared.tree.statement.First.{First}
use Rattle.k_tree.specs.declared.tree.statement.First.TheVariants as first
use Rattle.k_tree.specs.declared.tree.statement.Stmt.{Stmt, fold-Stmt}
use Rattle.k_tree.specs.declared.tree.statement.Part.TheOpen.{Part-F, Stmt-F}
use Rattle.k_tree.specs.declared.tree.statement.Part.{Part, fold-Part}
use Rattle.k_tree.specs.declared.tree.statement.Part.TheVariants as part
use Rattle.k_tree.specs.declared.tree.statement.Stmt.TheVariants as stmt
use Rattle.k_tree.specs.declared.tree.unit.Head.{Head}
use Rattle.k_tree.specs.declared.tree.unit.Item.{Item}
use Rattle.k_tree.specs.declared.tree.unit.Item.TheVariants as item
use Rattle.k_tree.specs.declared.tree.unit.Unit as source

-- the one place that every node gets, so that places no longer tell trees apart
abbrev pub nowhere : Place
nowhere = record { line = 0; column = 0 }

-- C17 6.5: an expression without its own place, whose parts have none either
abbrev pub bare_expr_step : Expr-F Expr → Expr
bare_expr_step (Expr-F.Name place name) = expr.Name nowhere name
bare_expr_step (Expr-F.Number place kind value) = expr.Number nowhere kind value
bare_expr_step (Expr-F.Char place value) = expr.Char nowhere value
bare_expr_step (Expr-F.Str place bytes) = expr.Str nowhere bytes
bare_expr_step (Expr-F.Paren place inner) = expr.Paren nowhere inner
bare_expr_step (Expr-F.Index place base index) = expr.Index nowhere base index
bare_expr_step (Expr-F.Call place name args) = expr.Call nowhere name args
bare_expr_step (Expr-F.Post place op operand) = expr.Post nowhere op operand
bare_expr_step (Expr-F.Pre place op operand) = expr.Pre nowhere op operand
bare_expr_step (Expr-F.Unary place op operand) = expr.Unary nowhere op operand
bare_expr_step (Expr-F.SizeofExpr place operand) = expr.SizeofExpr nowhere operand
bare_expr_step (Expr-F.SizeofType place specs stars) = expr.SizeofType nowhere specs stars
bare_expr_step (Expr-F.Cast place specs stars operand) = expr.Cast nowhere specs stars operand
bare_expr_step (Expr-F.Binary place op left right) = expr.Binary nowhere op left right
bare_expr_step (Expr-F.Cond place test chosen other) = expr.Cond nowhere test chosen other
bare_expr_step (Expr-F.Assign place op left right) = expr.Assign nowhere op left right
bare_expr_step (Expr-F.Comma place left right) = expr.Comma nowhere left right

-- C17 6.5: an expression without the places in it
abbrev pub bare_expr : Expr → Expr
bare_expr = fold-Expr Expr bare_expr_step

-- C17 6.7.6.2: the dimensions of an array without the places in their sizes
abbrev pub bare_dims : List (Option Expr) → List (Option Expr)
bare_dims dims = map (option_map bare_expr) dims

-- C17 6.7.9: an initialiser without its own place, whose items have none either
abbrev pub bare_init_step : Init-F Init → Init
bare_init_step (Init-F.One place value) = init.One nowhere (bare_expr value)
bare_init_step (Init-F.List place items comma) = init.List nowhere items comma

-- C17 6.7.9: an initialiser without the places in it
abbrev pub bare_init : Init → Init
bare_init = fold-Init Init bare_init_step

-- C17 6.7.6: a declarator, with its dimensions and initialiser, without the places in it
abbrev pub bare_declarator : Declarator → Declarator
bare_declarator d = record d { place = nowhere; dims = bare_dims d.dims; init = option_map bare_init d.init }

-- C17 6.7.6.3: a parameter without the places in it
abbrev pub bare_param : Param → Param
bare_param p = record p { place = nowhere; dims = bare_dims p.dims }

-- C17 6.7.6.3: what stands between the parentheses of a head, without the places in it
abbrev pub bare_params : Params → Params
bare_params params.Empty = params.Empty
bare_params params.Void = params.Void
bare_params (params.List list) = params.List (map bare_param list)

-- C17 6.7.6.3, 6.9.1: the head of a function without the places in it
abbrev pub bare_head : Head → Head
bare_head h = record h { name_place = nowhere; params = bare_params h.params }

-- C17 6.8.5.3: the first part of a `for` without the places in it
abbrev pub bare_first : First → First
bare_first first.Nothing = first.Nothing
bare_first (first.Value value) = first.Value (bare_expr value)
bare_first (first.Declare specs list) = first.Declare specs (map bare_declarator list)

-- C17 6.8: a statement without its own place, whose statements have none either
abbrev pub bare_stmt_step : Stmt-F Part Stmt → Stmt
bare_stmt_step (Stmt-F.Expr place value) = stmt.Expr nowhere (bare_expr value)
bare_stmt_step (Stmt-F.Empty place) = stmt.Empty nowhere
bare_stmt_step (Stmt-F.Block place parts) = stmt.Block nowhere parts
bare_stmt_step (Stmt-F.If place test chosen other) = stmt.If nowhere (bare_expr test) chosen other
bare_stmt_step (Stmt-F.While place test body) = stmt.While nowhere (bare_expr test) body
bare_stmt_step (Stmt-F.DoWhile place body test) = stmt.DoWhile nowhere body (bare_expr test)
bare_stmt_step (Stmt-F.For place start test step body) =
    stmt.For nowhere (bare_first start) (option_map bare_expr test) (option_map bare_expr step) body
bare_stmt_step (Stmt-F.Switch place on parts) = stmt.Switch nowhere (bare_expr on) parts
bare_stmt_step (Stmt-F.Break place) = stmt.Break nowhere
bare_stmt_step (Stmt-F.Continue place) = stmt.Continue nowhere
bare_stmt_step (Stmt-F.Return place value) = stmt.Return nowhere (option_map bare_expr value)
bare_stmt_step (Stmt-F.Declare place specs list) = stmt.Declare nowhere specs (map bare_declarator list)

-- C17 6.8.1, 6.8.4.2: a part of a `switch` without its own place, whose statement has none either
abbrev pub bare_part_step : Part-F Part Stmt → Part
bare_part_step (Part-F.Case place value) = part.Case nowhere (bare_expr value)
bare_part_step (Part-F.Default place) = part.Default nowhere
bare_part_step (Part-F.Does place body) = part.Does nowhere body

-- C17 6.8: a statement without the places in it
abbrev pub bare_stmt : Stmt → Stmt
bare_stmt = fold-Stmt Part Stmt bare_part_step bare_stmt_step

-- C17 6.8.4.2: a part of a `switch` without the places in it
abbrev pub bare_part : Part → Part
bare_part = fold-Part Part Stmt bare_part_step bare_stmt_step

-- C17 6.9: an item without the places in it
abbrev pub bare_item : Item → Item
bare_item (item.Function place head body close) = item.Function nowhere (bare_head head) (map bare_stmt body) nowhere
bare_item (item.Prototype place head) = item.Prototype nowhere (bare_head head)
bare_item (item.Objects place specs list) = item.Objects nowhere specs (map bare_declarator list)

-- C17 6.9: a source without the places in it
abbrev pub bare : source.Unit → source.Unit
bare unit = record { items = map bare_item unit.items; end = nowhere }
