-- Believed with a public law.
-- The texts that a program may write: those of its strings and formats, as one list of bytes in text order.
use Rattle.std.specs.Prelude.{ℕ, List, [], ◌∷◌, ◌++◌, map, Option, Some, None, unwrap_or}
use Rattle.std.specs.List.{concat}
use Rattle.k_types_meaning.specs.declared.tree.declaration.TDeclarator.{TDeclarator}
use Rattle.k_types_meaning.specs.declared.tree.declaration.TInit.{TInit}
use Rattle.k_types_meaning.specs.declared.tree.declaration.TInit.TheVariants as init
use Rattle.k_types_meaning.specs.declared.tree.declaration.TItem.{TItem}
use Rattle.k_types_meaning.specs.declared.tree.declaration.TItem.TheVariants as item
use Rattle.k_types_meaning.specs.declared.tree.expression.Piece.{Piece}
use Rattle.k_types_meaning.specs.declared.tree.expression.Piece.TheVariants as piece
use Rattle.k_types_meaning.specs.declared.tree.expression.TExpr.{TExpr, fold-TExpr}
use Rattle.k_types_meaning.specs.declared.tree.expression.TExpr.TheOpen.{TExpr-F}
use Rattle.k_types_meaning.specs.declared.tree.statement.TFirst.{TFirst}
use Rattle.k_types_meaning.specs.declared.tree.statement.TFirst.TheVariants as first
use Rattle.k_types_meaning.specs.declared.tree.statement.TPart.{TPart, fold-TPart}
use Rattle.k_types_meaning.specs.declared.tree.statement.TPart.TheOpen.{TPart-F, TStmt-F}
use Rattle.k_types_meaning.specs.declared.tree.statement.TStmt.{TStmt, fold-TStmt}
use Rattle.k_types_meaning.specs.declared.tree.unit.TFunc.{TFunc}
use Rattle.k_types_meaning.specs.declared.tree.unit.TUnit.{TUnit}

-- the bytes of a piece of a format
abbrev pub piece_text : Piece → List ℕ
piece_text (piece.Bytes bytes) = bytes
piece_text (piece.Argument how) = []

-- the texts of an expression, of whose operands they are known
abbrev pub texts_step : TExpr-F (List ℕ) → List ℕ
texts_step (TExpr-F.Number node z) = []
texts_step (TExpr-F.Str node n bytes) = bytes
texts_step (TExpr-F.Object node n) = []
texts_step (TExpr-F.Variable node n) = []
texts_step (TExpr-F.Index node a b) = a ++ b
texts_step (TExpr-F.Call node f args) = concat args
texts_step (TExpr-F.Getchar node) = []
texts_step (TExpr-F.Putchar node a) = a
texts_step (TExpr-F.Puts node a) = a
texts_step (TExpr-F.Printf node format args) = concat (map piece_text format) ++ concat args
texts_step (TExpr-F.Post node change a) = a
texts_step (TExpr-F.Pre node change a) = a
texts_step (TExpr-F.Address node a) = a
texts_step (TExpr-F.Deref node a) = a
texts_step (TExpr-F.Plus node a) = a
texts_step (TExpr-F.Unary node op kind a) = a
texts_step (TExpr-F.Convert node a) = a
texts_step (TExpr-F.Cast node a) = a
texts_step (TExpr-F.Binary node op kind a b) = a ++ b
texts_step (TExpr-F.Both node a b) = a ++ b
texts_step (TExpr-F.Either node a b) = a ++ b
texts_step (TExpr-F.Forward node a b) = a ++ b
texts_step (TExpr-F.Onto node a b) = a ++ b
texts_step (TExpr-F.Back node a b) = a ++ b
texts_step (TExpr-F.PtrCompare node op a b) = a ++ b
texts_step (TExpr-F.PtrDistance node a b) = a ++ b
texts_step (TExpr-F.Cond node a b c) = a ++ (b ++ c)
texts_step (TExpr-F.Assign node a b) = a ++ b
texts_step (TExpr-F.AssignBy node change a b) = a ++ b
texts_step (TExpr-F.Comma node a b) = a ++ b

-- the texts of an expression
abbrev pub texts : TExpr → List ℕ
texts = fold-TExpr (List ℕ) texts_step

-- those of an expression that may be left out
abbrev pub option_texts : Option TExpr → List ℕ
option_texts None = []
option_texts (Some e) = texts e

-- those of an item of braces: its own bytes are elements, which are no text
abbrev pub item_texts : TItem → List ℕ
item_texts (item.Bytes n bytes) = []
item_texts (item.Value place n e) = texts e

-- those of an initialiser
abbrev pub init_texts : TInit → List ℕ
init_texts init.Nothing = []
init_texts (init.Value e) = texts e
init_texts (init.Elements items) = concat (map item_texts items)

-- those of declarators
abbrev pub declared_texts : List TDeclarator → List ℕ
declared_texts list = concat (map (λ (d : TDeclarator). init_texts d.init) list)

-- those of the first part of a `for`
abbrev pub first_texts : TFirst → List ℕ
first_texts first.Nothing = []
first_texts (first.Value e) = texts e
first_texts (first.Declare list) = declared_texts list

-- those of a statement, of whose statements and parts they are known
abbrev pub stmt_step : TStmt-F (List ℕ) (List ℕ) → List ℕ
stmt_step (TStmt-F.Expr spot e) = texts e
stmt_step (TStmt-F.Empty spot) = []
stmt_step (TStmt-F.Block spot parts) = concat parts
stmt_step (TStmt-F.If spot test a b) = texts test ++ (a ++ unwrap_or b [])
stmt_step (TStmt-F.While spot number test body) = texts test ++ body
stmt_step (TStmt-F.DoWhile spot number body test) = texts test ++ body
stmt_step (TStmt-F.For spot number start test step body) = first_texts start ++ (option_texts test ++ (option_texts step ++ body))
stmt_step (TStmt-F.Switch spot kind on parts) = texts on ++ concat parts
stmt_step (TStmt-F.Break spot) = []
stmt_step (TStmt-F.Continue spot) = []
stmt_step (TStmt-F.Return spot value) = option_texts value
stmt_step (TStmt-F.Declare spot list) = declared_texts list

-- those of a part of a switch, of whose statement they are known
abbrev pub part_step : TPart-F (List ℕ) (List ℕ) → List ℕ
part_step (TPart-F.Case place z) = []
part_step (TPart-F.Default place) = []
part_step (TPart-F.Does place s) = s

-- those of a statement
abbrev pub stmt_texts : TStmt → List ℕ
stmt_texts = fold-TStmt (List ℕ) (List ℕ) part_step stmt_step

-- those of a part of a switch
abbrev pub part_texts : TPart → List ℕ
part_texts = fold-TPart (List ℕ) (List ℕ) part_step stmt_step

-- those of a function
abbrev pub function_texts : TFunc → List ℕ
function_texts f = concat (map stmt_texts f.body)

-- those of a source
unfoldable pub source_texts : TUnit → List ℕ
source_texts unit = concat (map function_texts unit.functions)
