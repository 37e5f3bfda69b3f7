-- What is in range as `specs/Ranges` says it, with numbers of strings that the source has, and no format writes more bytes than an int can count.
use Rattle.std.specs.Prelude.{ℕ, ◌+◌, ◌≡◌, nat_le, nat_lt, Bool, true, ◌&&◌, List, [], ◌∷◌, map, length, slice_get, Option, Some, None, unwrap_or}
use Rattle.k_types_meaning.specs.declared.tree.declaration.TDeclarator.{TDeclarator}
use Rattle.k_types_meaning.specs.declared.tree.declaration.TInit.{TInit}
use Rattle.k_types_meaning.specs.declared.tree.declaration.TInit.TheVariants as begins
use Rattle.k_types_meaning.specs.declared.tree.declaration.TItem.{TItem}
use Rattle.k_types_meaning.specs.declared.tree.declaration.TItem.TheVariants as item
use Rattle.k_types_meaning.specs.declared.tree.expression.Piece.{Piece}
use Rattle.k_types_meaning.specs.declared.tree.expression.Piece.TheVariants as piece
use Rattle.k_types_meaning.specs.declared.tree.expression.TExpr.{TExpr, fold-TExpr}
use Rattle.k_types_meaning.specs.declared.tree.expression.TExpr.TheOpen.{TExpr-F}
use Rattle.k_types_meaning.specs.declared.tree.statement.TFirst.{TFirst}
use Rattle.k_types_meaning.specs.declared.tree.statement.TFirst.TheVariants as first
use Rattle.k_types_meaning.specs.declared.tree.statement.TPart.TheOpen.{TPart-F, TStmt-F}
use Rattle.k_types_meaning.specs.declared.tree.statement.TStmt.{TStmt, fold-TStmt}
use Rattle.k_types_meaning.specs.declared.tree.unit.TFunc.{TFunc}
use Rattle.k_types_meaning.specs.declared.tree.unit.TObject.{TObject}
use Rattle.k_types_meaning.specs.declared.tree.unit.TUnit.{TUnit}
use Rattle.k_evaluation_laws.specs.Kinds.{sort_of, kind_in}
pub use Rattle.k_evaluation_laws.specs.Ranges.{all_stand, is_in_range, initials_in_range}

-- the most bytes that a piece of a format writes: an argument never takes more than 65
abbrev pub most_of : Piece → ℕ
most_of (piece.Bytes bytes) = length bytes
most_of (piece.Argument how) = 65

-- those of a format
abbrev pub most_written : List Piece → ℕ
most_written [] = 0
most_written (p ∷ format) = most_of p + most_written format

-- whether an expression of a source with so many strings is in range, of whose operands it is known
abbrev pub expr_step : ℕ → TExpr-F Bool → Bool
expr_step strings (TExpr-F.Number node value) = is_in_range node.of value
expr_step strings (TExpr-F.Str node string bytes) = nat_lt string strings
expr_step strings (TExpr-F.Object node object) = true
expr_step strings (TExpr-F.Variable node variable) = true
expr_step strings (TExpr-F.Index node base index) = base && index
expr_step strings (TExpr-F.Call node function args) = all_stand args
expr_step strings (TExpr-F.Getchar node) = true
expr_step strings (TExpr-F.Putchar node of) = of
expr_step strings (TExpr-F.Puts node of) = of
expr_step strings (TExpr-F.Printf node format args) = nat_le (most_written format) 2147483647 && all_stand args
expr_step strings (TExpr-F.Post node by of) = of
expr_step strings (TExpr-F.Pre node by of) = of
expr_step strings (TExpr-F.Address node of) = of
expr_step strings (TExpr-F.Deref node of) = of
expr_step strings (TExpr-F.Plus node of) = of
expr_step strings (TExpr-F.Unary node op kind of) = of
expr_step strings (TExpr-F.Convert node of) = of
expr_step strings (TExpr-F.Cast node of) = of
expr_step strings (TExpr-F.Binary node op kind left right) = left && right
expr_step strings (TExpr-F.Both node left right) = left && right
expr_step strings (TExpr-F.Either node left right) = left && right
expr_step strings (TExpr-F.Forward node left right) = left && right
expr_step strings (TExpr-F.Onto node left right) = left && right
expr_step strings (TExpr-F.Back node left right) = left && right
expr_step strings (TExpr-F.PtrCompare node op left right) = left && right
expr_step strings (TExpr-F.PtrDistance node left right) = left && right
expr_step strings (TExpr-F.Cond node test a b) = test && (a && b)
expr_step strings (TExpr-F.Assign node left right) = left && right
expr_step strings (TExpr-F.AssignBy node by left right) = left && right
expr_step strings (TExpr-F.Comma node left right) = left && right

-- an expression
abbrev pub expr_in_range : ℕ → TExpr → Bool
expr_in_range strings = fold-TExpr Bool (expr_step strings)

abbrev pub option_in_range : ℕ → Option TExpr → Bool
option_in_range strings None = true
option_in_range strings (Some e) = expr_in_range strings e

abbrev pub item_in_range : ℕ → TItem → Bool
item_in_range strings (item.Bytes element bytes) = true
item_in_range strings (item.Value place element e) = expr_in_range strings e

abbrev pub items_in_range : ℕ → List TItem → Bool
items_in_range strings [] = true
items_in_range strings (i ∷ items) = item_in_range strings i && items_in_range strings items

abbrev pub init_in_range : ℕ → TInit → Bool
init_in_range strings begins.Nothing = true
init_in_range strings (begins.Value e) = expr_in_range strings e
init_in_range strings (begins.Elements items) = items_in_range strings items

abbrev pub declared_in_range : ℕ → List TDeclarator → Bool
declared_in_range strings [] = true
declared_in_range strings (d ∷ list) = init_in_range strings d.init && declared_in_range strings list

abbrev pub first_in_range : ℕ → TFirst → Bool
first_in_range strings first.Nothing = true
first_in_range strings (first.Value e) = expr_in_range strings e
first_in_range strings (first.Declare list) = declared_in_range strings list

-- a statement, of whose statements and parts it is known
abbrev pub stmt_step : ℕ → TStmt-F Bool Bool → Bool
stmt_step strings (TStmt-F.Expr spot e) = expr_in_range strings e
stmt_step strings (TStmt-F.Empty spot) = true
stmt_step strings (TStmt-F.Block spot parts) = all_stand parts
stmt_step strings (TStmt-F.If spot test a b) = expr_in_range strings test && (a && unwrap_or b true)
stmt_step strings (TStmt-F.While spot number test body) = expr_in_range strings test && body
stmt_step strings (TStmt-F.DoWhile spot number body test) = expr_in_range strings test && body
stmt_step strings (TStmt-F.For spot number start test step body) =
    first_in_range strings start && (option_in_range strings test && (option_in_range strings step && body))
stmt_step strings (TStmt-F.Switch spot kind on parts) = expr_in_range strings on && all_stand parts
stmt_step strings (TStmt-F.Break spot) = true
stmt_step strings (TStmt-F.Continue spot) = true
stmt_step strings (TStmt-F.Return spot value) = option_in_range strings value
stmt_step strings (TStmt-F.Declare spot list) = declared_in_range strings list

-- a part of a switch, of whose statement it is known
abbrev pub part_step : TPart-F Bool Bool → Bool
part_step (TPart-F.Case place value) = true
part_step (TPart-F.Default place) = true
part_step (TPart-F.Does place s) = s

-- a statement
abbrev pub stmt_in_range : ℕ → TStmt → Bool
stmt_in_range strings = fold-TStmt Bool Bool part_step (stmt_step strings)

-- ALL NUMBERS OF A SOURCE ARE IN RANGE
pub record AreInRange (unit : TUnit) : Type 0 where
  pub functions : (n : ℕ) (f : TFunc) → slice_get unit.functions n ≡ Some f → all_stand (map (stmt_in_range (length unit.strings)) f.body) ≡ true
  pub objects : (n : ℕ) (o : TObject) → slice_get unit.objects n ≡ Some o → initials_in_range (kind_in (sort_of o.of)) o.first ≡ true
