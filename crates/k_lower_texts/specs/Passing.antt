-- Believed with a public law.
-- Tests of the strings, of the formats, of the calls and of the constants in a typed function.
use Rattle.std.specs.Prelude.{ℕ, ℤ, Bool, true, ◌&&◌, List, [], ◌∷◌, map, Option, Some, None}
use Rattle.k_types_meaning.specs.declared.tree.declaration.TDeclarator.{TDeclarator}
use Rattle.k_types_meaning.specs.declared.tree.declaration.TInit.{TInit}
use Rattle.k_types_meaning.specs.declared.tree.declaration.TInit.TheVariants as begins
use Rattle.k_types_meaning.specs.declared.tree.declaration.TItem.{TItem}
use Rattle.k_types_meaning.specs.declared.tree.declaration.TItem.TheVariants as item
use Rattle.k_types_meaning.specs.declared.tree.expression.Piece.{Piece}
use Rattle.k_types_meaning.specs.declared.tree.expression.TExpr.{TExpr, fold-TExpr}
use Rattle.k_types_meaning.specs.declared.tree.expression.TExpr.TheOpen.{TExpr-F}
use Rattle.k_types_meaning.specs.declared.tree.statement.TFirst.{TFirst}
use Rattle.k_types_meaning.specs.declared.tree.statement.TFirst.TheVariants as first
use Rattle.k_types_meaning.specs.declared.tree.statement.TStmt.{TStmt, fold-TStmt}
use Rattle.k_types_meaning.specs.declared.tree.statement.TPart.TheOpen.{TPart-F, TStmt-F}
use Rattle.k_types_meaning.specs.declared.types.TType.{TType}

-- What is tested: the bytes of a string, the pieces of a format, a call of this type of the function of this number, and a constant of this type.
pub record Asks : Type 0 where
  pub bytes : List ℕ → Bool
  pub format : List Piece → Bool
  pub call : TType → ℕ → Bool
  pub number : TType → ℤ → Bool

-- all these pass
abbrev pub all_pass : List Bool → Bool
all_pass [] = true
all_pass (b ∷ bs) = b && all_pass bs

-- what may be left out passes
abbrev pub if_passes : Option Bool → Bool
if_passes None = true
if_passes (Some b) = b

-- an expression passes, of whose operands it is known
abbrev pub expr_step : Asks → TExpr-F Bool → Bool
expr_step asks (TExpr-F.Number node z) = asks.number node.of z
expr_step asks (TExpr-F.Str node n bytes) = asks.bytes bytes
expr_step asks (TExpr-F.Object node n) = true
expr_step asks (TExpr-F.Variable node n) = true
expr_step asks (TExpr-F.Index node a b) = a && b
expr_step asks (TExpr-F.Call node f args) = asks.call node.of f && all_pass args
expr_step asks (TExpr-F.Getchar node) = true
expr_step asks (TExpr-F.Putchar node a) = a
expr_step asks (TExpr-F.Puts node a) = a
expr_step asks (TExpr-F.Printf node format args) = asks.format format && all_pass args
expr_step asks (TExpr-F.Post node change a) = a
expr_step asks (TExpr-F.Pre node change a) = a
expr_step asks (TExpr-F.Address node a) = a
expr_step asks (TExpr-F.Deref node a) = a
expr_step asks (TExpr-F.Plus node a) = a
expr_step asks (TExpr-F.Unary node op kind a) = a
expr_step asks (TExpr-F.Convert node a) = a
expr_step asks (TExpr-F.Cast node a) = a
expr_step asks (TExpr-F.Binary node op kind a b) = a && b
expr_step asks (TExpr-F.Both node a b) = a && b
expr_step asks (TExpr-F.Either node a b) = a && b
expr_step asks (TExpr-F.Forward node a b) = a && b
expr_step asks (TExpr-F.Onto node a b) = a && b
expr_step asks (TExpr-F.Back node a b) = a && b
expr_step asks (TExpr-F.PtrCompare node op a b) = a && b
expr_step asks (TExpr-F.PtrDistance node a b) = a && b
expr_step asks (TExpr-F.Cond node a b c) = a && (b && c)
expr_step asks (TExpr-F.Assign node a b) = a && b
expr_step asks (TExpr-F.AssignBy node change a b) = a && b
expr_step asks (TExpr-F.Comma node a b) = a && b

-- an expression passes
abbrev pub expr_passes : Asks → TExpr → Bool
expr_passes asks = fold-TExpr Bool (expr_step asks)

-- so does one that may be left out
abbrev pub option_passes : Asks → Option TExpr → Bool
option_passes asks None = true
option_passes asks (Some e) = expr_passes asks e

-- an item of braces passes
abbrev pub item_passes : Asks → TItem → Bool
item_passes asks (item.Bytes n bytes) = true
item_passes asks (item.Value place n e) = expr_passes asks e

-- all items of braces pass
abbrev pub items_pass : Asks → List TItem → Bool
items_pass asks [] = true
items_pass asks (i ∷ items) = item_passes asks i && items_pass asks items

-- an initialiser passes
abbrev pub init_passes : Asks → TInit → Bool
init_passes asks begins.Nothing = true
init_passes asks (begins.Value e) = expr_passes asks e
init_passes asks (begins.Elements items) = items_pass asks items

-- declared variables pass
abbrev pub declared_pass : Asks → List TDeclarator → Bool
declared_pass asks [] = true
declared_pass asks (d ∷ ds) = init_passes asks d.init && declared_pass asks ds

-- the first part of a `for` passes
abbrev pub first_passes : Asks → TFirst → Bool
first_passes asks first.Nothing = true
first_passes asks (first.Value e) = expr_passes asks e
first_passes asks (first.Declare list) = declared_pass asks list

-- a statement passes, of whose statements and parts it is known
abbrev pub stmt_step : Asks → TStmt-F Bool Bool → Bool
stmt_step asks (TStmt-F.Expr spot e) = expr_passes asks e
stmt_step asks (TStmt-F.Empty spot) = true
stmt_step asks (TStmt-F.Block spot parts) = all_pass parts
stmt_step asks (TStmt-F.If spot test a b) = expr_passes asks test && (a && if_passes b)
stmt_step asks (TStmt-F.While spot number test body) = expr_passes asks test && body
stmt_step asks (TStmt-F.DoWhile spot number body test) = body && expr_passes asks test
stmt_step asks (TStmt-F.For spot number start test step body) =
    first_passes asks start && (option_passes asks test && (option_passes asks step && body))
stmt_step asks (TStmt-F.Switch spot kind on parts) = expr_passes asks on && all_pass parts
stmt_step asks (TStmt-F.Break spot) = true
stmt_step asks (TStmt-F.Continue spot) = true
stmt_step asks (TStmt-F.Return spot value) = option_passes asks value
stmt_step asks (TStmt-F.Declare spot list) = declared_pass asks list

-- a part of a switch passes, of whose statement it is known
abbrev pub part_step : TPart-F Bool Bool → Bool
part_step (TPart-F.Case place z) = true
part_step (TPart-F.Default place) = true
part_step (TPart-F.Does place s) = s

-- a statement passes
abbrev pub stmt_passes : Asks → TStmt → Bool
stmt_passes asks = fold-TStmt Bool Bool part_step (stmt_step asks)

-- the block of a function passes
abbrev pub body_passes : Asks → List TStmt → Bool
body_passes asks body = all_pass (map (stmt_passes asks) body)
