-- Believed with the theorem on the top call.
-- Whether a typed source calls the library's `getchar` (C17 7.21.7.6), be that call reached or not. The operand of a `sizeof` is no part of the typed tree.
use Rattle.std.specs.Prelude.{Bool, true, false, ◌||◌, List, [], ◌∷◌, map, Option, Some, None, unwrap_or}
use Rattle.k_types_meaning.specs.declared.tree.expression.TExpr.{TExpr, fold-TExpr}
use Rattle.k_types_meaning.specs.declared.tree.expression.TExpr.TheOpen.{TExpr-F}
use Rattle.k_types_meaning.specs.declared.tree.declaration.TDeclarator.{TDeclarator}
use Rattle.k_types_meaning.specs.declared.tree.declaration.TInit.{TInit}
use Rattle.k_types_meaning.specs.declared.tree.declaration.TInit.TheVariants as init
use Rattle.k_types_meaning.specs.declared.tree.declaration.TItem.{TItem}
use Rattle.k_types_meaning.specs.declared.tree.declaration.TItem.TheVariants as item
use Rattle.k_types_meaning.specs.declared.tree.statement.TFirst.{TFirst}
use Rattle.k_types_meaning.specs.declared.tree.statement.TFirst.TheVariants as first
use Rattle.k_types_meaning.specs.declared.tree.statement.TPart.{TPart, fold-TPart}
use Rattle.k_types_meaning.specs.declared.tree.statement.TPart.TheOpen.{TPart-F, TStmt-F}
use Rattle.k_types_meaning.specs.declared.tree.statement.TStmt.{TStmt, fold-TStmt}
use Rattle.k_types_meaning.specs.declared.tree.unit.TFunc.{TFunc}
use Rattle.k_types_meaning.specs.declared.tree.unit.TUnit.{TUnit}

-- one of several holds a call
abbrev pub any : List Bool → Bool
any [] = false
any (one ∷ others) = one || any others

-- an expression holds a call, of whose operands it is known
abbrev pub calls_step : TExpr-F Bool → Bool
calls_step (TExpr-F.Getchar node) = true
calls_step (TExpr-F.Number node value) = false
calls_step (TExpr-F.Str node n bytes) = false
calls_step (TExpr-F.Object node n) = false
calls_step (TExpr-F.Variable node n) = false
calls_step (TExpr-F.Call node f args) = any args
calls_step (TExpr-F.Printf node format args) = any args
calls_step (TExpr-F.Putchar node a) = a
calls_step (TExpr-F.Puts node a) = a
calls_step (TExpr-F.Post node change a) = a
calls_step (TExpr-F.Pre node change a) = a
calls_step (TExpr-F.Address node a) = a
calls_step (TExpr-F.Deref node a) = a
calls_step (TExpr-F.Plus node a) = a
calls_step (TExpr-F.Unary node op kind a) = a
calls_step (TExpr-F.Convert node a) = a
calls_step (TExpr-F.Cast node a) = a
calls_step (TExpr-F.Cond node a b c) = a || (b || c)
calls_step (TExpr-F.Index node a b) = a || b
calls_step (TExpr-F.Binary node op kind a b) = a || b
calls_step (TExpr-F.Both node a b) = a || b
calls_step (TExpr-F.Either node a b) = a || b
calls_step (TExpr-F.Forward node a b) = a || b
calls_step (TExpr-F.Onto node a b) = a || b
calls_step (TExpr-F.Back node a b) = a || b
calls_step (TExpr-F.PtrCompare node op a b) = a || b
calls_step (TExpr-F.PtrDistance node a b) = a || b
calls_step (TExpr-F.Assign node a b) = a || b
calls_step (TExpr-F.AssignBy node change a b) = a || b
calls_step (TExpr-F.Comma node a b) = a || b

-- an expression holds a call
abbrev pub calls : TExpr → Bool
calls = fold-TExpr Bool calls_step

-- an expression that may be left out holds a call
abbrev pub calls_if_there : Option TExpr → Bool
calls_if_there None = false
calls_if_there (Some e) = calls e

-- an item of braces holds a call
abbrev pub item_calls : TItem → Bool
item_calls (item.Bytes n bytes) = false
item_calls (item.Value place n e) = calls e

-- what a variable begins with holds a call
abbrev pub init_calls : TInit → Bool
init_calls init.Nothing = false
init_calls (init.Value e) = calls e
init_calls (init.Elements items) = any (map item_calls items)

-- a declared variable begins with a call
abbrev pub declarator_calls : TDeclarator → Bool
declarator_calls d = init_calls d.init

-- one of the declared variables begins with a call
abbrev pub declared_calls : List TDeclarator → Bool
declared_calls list = any (map declarator_calls list)

-- the first part of a `for` holds a call
abbrev pub first_calls : TFirst → Bool
first_calls first.Nothing = false
first_calls (first.Value e) = calls e
first_calls (first.Declare list) = declared_calls list

-- a statement holds a call, of whose statements and parts it is known
abbrev pub stmt_step : TStmt-F Bool Bool → Bool
stmt_step (TStmt-F.Expr spot e) = calls e
stmt_step (TStmt-F.Empty spot) = false
stmt_step (TStmt-F.Block spot parts) = any parts
stmt_step (TStmt-F.If spot test a b) = calls test || (a || unwrap_or b false)
stmt_step (TStmt-F.While spot turns test body) = calls test || body
stmt_step (TStmt-F.DoWhile spot turns body test) = calls test || body
stmt_step (TStmt-F.For spot turns start test step body) = first_calls start || (calls_if_there test || (calls_if_there step || body))
stmt_step (TStmt-F.Switch spot kind on parts) = calls on || any parts
stmt_step (TStmt-F.Break spot) = false
stmt_step (TStmt-F.Continue spot) = false
stmt_step (TStmt-F.Return spot value) = calls_if_there value
stmt_step (TStmt-F.Declare spot list) = declared_calls list

-- a part of a switch holds a call, of whose statement it is known
abbrev pub part_step : TPart-F Bool Bool → Bool
part_step (TPart-F.Case place value) = false
part_step (TPart-F.Default place) = false
part_step (TPart-F.Does place s) = s

-- a statement holds a call
abbrev pub stmt_calls : TStmt → Bool
stmt_calls = fold-TStmt Bool Bool part_step stmt_step

-- a part of a switch holds a call
abbrev pub part_calls : TPart → Bool
part_calls = fold-TPart Bool Bool part_step stmt_step

-- a function holds a call
abbrev pub function_calls : TFunc → Bool
function_calls f = any (map stmt_calls f.body)

-- a source holds a call
unfoldable pub calls_getchar : TUnit → Bool
calls_getchar unit = any (map function_calls unit.functions)
