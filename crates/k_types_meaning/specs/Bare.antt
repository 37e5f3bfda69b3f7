-- Believed with the theorem on the top call.
-- A typed tree without its numbers: what two typed trees have in common that differ in numbers alone.
use Rattle.std.specs.Prelude.{◌≡◌, List, [], map, Option, Some, None}
use Rattle.k_tree.specs.declared.tree.unit.Unit as source
use Rattle.k_types_meaning.specs.declared.tree.expression.Node.{Node}
use Rattle.k_types_meaning.specs.declared.tree.expression.TExpr.{TExpr, fold-TExpr}
use Rattle.k_types_meaning.specs.declared.tree.expression.TExpr.TheOpen.{TExpr-F}
use Rattle.k_types_meaning.specs.declared.tree.expression.TExpr.TheVariants as typed
use Rattle.k_types_meaning.specs.declared.tree.declaration.TDeclarator.{TDeclarator}
use Rattle.k_types_meaning.specs.declared.tree.declaration.TInit.{TInit}
use Rattle.k_types_meaning.specs.declared.tree.declaration.TInit.TheVariants as begins
use Rattle.k_types_meaning.specs.declared.tree.declaration.TItem.{TItem}
use Rattle.k_types_meaning.specs.declared.tree.declaration.TItem.TheVariants as item
use Rattle.k_types_meaning.specs.declared.tree.statement.Spot.{Spot}
use Rattle.k_types_meaning.specs.declared.tree.statement.TFirst.{TFirst}
use Rattle.k_types_meaning.specs.declared.tree.statement.TFirst.TheVariants as first
use Rattle.k_types_meaning.specs.declared.tree.statement.TStmt.{TStmt, fold-TStmt}
use Rattle.k_types_meaning.specs.declared.tree.statement.TStmt.TheVariants as stmt
use Rattle.k_types_meaning.specs.declared.tree.statement.TPart.{TPart}
use Rattle.k_types_meaning.specs.declared.tree.statement.TPart.TheVariants as part
use Rattle.k_types_meaning.specs.declared.tree.statement.TPart.TheOpen.{TPart-F, TStmt-F}
use Rattle.k_types_meaning.specs.declared.tree.unit.TFunc.{TFunc}
use Rattle.k_types_meaning.specs.declared.tree.unit.TUnit.{TUnit}
use Rattle.k_types_meaning.specs.Made.{Fine}
use Rattle.k_types_meaning.specs.Numbered.{IsNumbered}
use Rattle.k_types_meaning.specs.Units.{Parts, unit_placed, tree_of_parts}

-- a node without its number
abbrev pub bare_node : Node → Node
bare_node node = record node { number = 0 }

-- an expression without its numbers, of whose operands they are gone
abbrev pub bare_step : TExpr-F TExpr → TExpr
bare_step (TExpr-F.Number node value) = typed.Number (bare_node node) value
bare_step (TExpr-F.Str node n bytes) = typed.Str (bare_node node) 0 bytes
bare_step (TExpr-F.Object node n) = typed.Object (bare_node node) n
bare_step (TExpr-F.Variable node n) = typed.Variable (bare_node node) n
bare_step (TExpr-F.Index node a b) = typed.Index (bare_node node) a b
bare_step (TExpr-F.Call node f args) = typed.Call (bare_node node) f args
bare_step (TExpr-F.Getchar node) = typed.Getchar (bare_node node)
bare_step (TExpr-F.Putchar node a) = typed.Putchar (bare_node node) a
bare_step (TExpr-F.Puts node a) = typed.Puts (bare_node node) a
bare_step (TExpr-F.Printf node format args) = typed.Printf (bare_node node) format args
bare_step (TExpr-F.Post node change a) = typed.Post (bare_node node) change a
bare_step (TExpr-F.Pre node change a) = typed.Pre (bare_node node) change a
bare_step (TExpr-F.Address node a) = typed.Address (bare_node node) a
bare_step (TExpr-F.Deref node a) = typed.Deref (bare_node node) a
bare_step (TExpr-F.Plus node a) = typed.Plus (bare_node node) a
bare_step (TExpr-F.Unary node op kind a) = typed.Unary (bare_node node) op kind a
bare_step (TExpr-F.Convert node a) = typed.Convert (bare_node node) a
bare_step (TExpr-F.Cast node a) = typed.Cast (bare_node node) a
bare_step (TExpr-F.Binary node op kind a b) = typed.Binary (bare_node node) op kind a b
bare_step (TExpr-F.Both node a b) = typed.Both (bare_node node) a b
bare_step (TExpr-F.Either node a b) = typed.Either (bare_node node) a b
bare_step (TExpr-F.Forward node a b) = typed.Forward (bare_node node) a b
bare_step (TExpr-F.Onto node a b) = typed.Onto (bare_node node) a b
bare_step (TExpr-F.Back node a b) = typed.Back (bare_node node) a b
bare_step (TExpr-F.PtrCompare node op a b) = typed.PtrCompare (bare_node node) op a b
bare_step (TExpr-F.PtrDistance node a b) = typed.PtrDistance (bare_node node) a b
bare_step (TExpr-F.Cond node a b c) = typed.Cond (bare_node node) a b c
bare_step (TExpr-F.Assign node a b) = typed.Assign (bare_node node) a b
bare_step (TExpr-F.AssignBy node change a b) = typed.AssignBy (bare_node node) change a b
bare_step (TExpr-F.Comma node a b) = typed.Comma (bare_node node) a b

-- an expression without its numbers
abbrev pub bare_expr : TExpr → TExpr
bare_expr = fold-TExpr TExpr bare_step

-- an expression that may be left out, without its numbers
abbrev pub bare_option : Option TExpr → Option TExpr
bare_option None = None
bare_option (Some e) = Some (bare_expr e)

-- an item of braces without its numbers
abbrev pub bare_item : TItem → TItem
bare_item (item.Bytes n bytes) = item.Bytes n bytes
bare_item (item.Value p n e) = item.Value p n (bare_expr e)

-- an initialiser without its numbers
abbrev pub bare_init : TInit → TInit
bare_init begins.Nothing = begins.Nothing
bare_init (begins.Value e) = begins.Value (bare_expr e)
bare_init (begins.Elements items) = begins.Elements (map bare_item items)

-- declared variables without their numbers
abbrev pub bare_declared : List TDeclarator → List TDeclarator
bare_declared list = map (λ (d : TDeclarator). record d { init = bare_init d.init }) list

-- the first part of a `for` without its numbers
abbrev pub bare_first : TFirst → TFirst
bare_first first.Nothing = first.Nothing
bare_first (first.Value e) = first.Value (bare_expr e)
bare_first (first.Declare list) = first.Declare (bare_declared list)

-- a statement's place without its number
abbrev pub bare_spot : Spot → Spot
bare_spot spot = record spot { number = 0 }

-- a statement without its numbers, of whose statements and parts they are gone
abbrev pub bare_stmt_step : TStmt-F TPart TStmt → TStmt
bare_stmt_step (TStmt-F.Expr spot e) = stmt.Expr (bare_spot spot) (bare_expr e)
bare_stmt_step (TStmt-F.Empty spot) = stmt.Empty (bare_spot spot)
bare_stmt_step (TStmt-F.Block spot parts) = stmt.Block (bare_spot spot) parts
bare_stmt_step (TStmt-F.If spot test a b) = stmt.If (bare_spot spot) (bare_expr test) a b
bare_stmt_step (TStmt-F.While spot loop test body) = stmt.While (bare_spot spot) 0 (bare_expr test) body
bare_stmt_step (TStmt-F.DoWhile spot loop body test) = stmt.DoWhile (bare_spot spot) 0 body (bare_expr test)
bare_stmt_step (TStmt-F.For spot loop start test step body) =
    stmt.For (bare_spot spot) 0 (bare_first start) (bare_option test) (bare_option step) body
bare_stmt_step (TStmt-F.Switch spot kind on parts) = stmt.Switch (bare_spot spot) kind (bare_expr on) parts
bare_stmt_step (TStmt-F.Break spot) = stmt.Break (bare_spot spot)
bare_stmt_step (TStmt-F.Continue spot) = stmt.Continue (bare_spot spot)
bare_stmt_step (TStmt-F.Return spot value) = stmt.Return (bare_spot spot) (bare_option value)
bare_stmt_step (TStmt-F.Declare spot list) = stmt.Declare (bare_spot spot) (bare_declared list)

-- a part of a switch without its numbers, of whose statement they are gone
abbrev pub bare_part_step : TPart-F TPart TStmt → TPart
bare_part_step (TPart-F.Case p value) = part.Case p value
bare_part_step (TPart-F.Default p) = part.Default p
bare_part_step (TPart-F.Does p s) = part.Does p s

-- a statement without its numbers
abbrev pub bare_stmt : TStmt → TStmt
bare_stmt = fold-TStmt TPart TStmt bare_part_step bare_stmt_step

-- a function without its numbers
abbrev pub bare_function : TFunc → TFunc
bare_function f = record f { loops = 0; body = map bare_stmt f.body }

-- a source without its numbers
abbrev pub bare_unit : TUnit → TUnit
bare_unit unit = record unit {
  strings = [];
  functions = map bare_function unit.functions;
  nodes = 0;
  loops = 0;
}

-- *Typing*: a source has this typed tree: its items have no fault, the tree is what they come to but for its numbers, and it is numbered.
unfoldable pub IsTyped : source.Unit → TUnit → Type 0
IsTyped unit typed =
    (parts : Parts) × ((unit_placed unit).made ≡ Fine parts) × (bare_unit typed ≡ tree_of_parts unit parts) × IsNumbered typed
