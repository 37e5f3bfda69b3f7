-- Believed with a public law.
-- Which statements and which expressions stand in a function of a typed source.
use Rattle.std.specs.Prelude.{ℕ, ◌≡◌, List, [], ◌∷◌, ◌++◌, Option, None, Some, slice_get}
use Rattle.k_num.specs.declared.numbers.Kind.{Kind}
use Rattle.k_num.specs.declared.place.Place.{Place}
use Rattle.k_types_meaning.specs.declared.tree.declaration.TDeclarator.{TDeclarator}
use Rattle.k_types_meaning.specs.declared.tree.declaration.TInit.{TInit}
use Rattle.k_types_meaning.specs.declared.tree.declaration.TInit.TheVariants as begins
use Rattle.k_types_meaning.specs.declared.tree.declaration.TItem.{TItem}
use Rattle.k_types_meaning.specs.declared.tree.declaration.TItem.TheVariants as item
use Rattle.k_types_meaning.specs.declared.tree.expression.TExpr.{TExpr, out-TExpr}
use Rattle.k_types_meaning.specs.declared.tree.expression.TExpr.TheOpen.{TExpr-F}
use Rattle.k_types_meaning.specs.declared.tree.statement.Spot.{Spot}
use Rattle.k_types_meaning.specs.declared.tree.statement.TFirst.{TFirst}
use Rattle.k_types_meaning.specs.declared.tree.statement.TFirst.TheVariants as first
use Rattle.k_types_meaning.specs.declared.tree.statement.TPart.{TPart}
use Rattle.k_types_meaning.specs.declared.tree.statement.TPart.TheVariants as typed_part
use Rattle.k_types_meaning.specs.declared.tree.statement.TPart.TheOpen.{TStmt-F}
use Rattle.k_types_meaning.specs.declared.tree.statement.TStmt.{TStmt, out-TStmt}
use Rattle.k_types_meaning.specs.declared.tree.statement.TStmt.TheVariants as typed
use Rattle.k_types_meaning.specs.declared.tree.unit.TFunc.{TFunc}

-- A STATEMENT STANDS IN ANOTHER: it is that one, or it stands in a part of it
pub data StandsIn : TStmt → TStmt → Type 0 where
  itself : (s : TStmt) → StandsIn s s
  in_block : (s : TStmt) (spot : Spot) (parts : List TStmt) (n : ℕ) (t : TStmt) → slice_get parts n ≡ Some t → StandsIn s t → StandsIn s (typed.Block spot parts)
  in_first : (s : TStmt) (spot : Spot) (test : TExpr) (a : TStmt) (b : Option TStmt) → StandsIn s a → StandsIn s (typed.If spot test a b)
  in_second : (s : TStmt) (spot : Spot) (test : TExpr) (a b : TStmt) → StandsIn s b → StandsIn s (typed.If spot test a (Some b))
  in_while : (s : TStmt) (spot : Spot) (number : ℕ) (test : TExpr) (a : TStmt) → StandsIn s a → StandsIn s (typed.While spot number test a)
  in_do : (s : TStmt) (spot : Spot) (number : ℕ) (a : TStmt) (test : TExpr) → StandsIn s a → StandsIn s (typed.DoWhile spot number a test)
  in_for : (s : TStmt) (spot : Spot) (number : ℕ) (start : TFirst) (test step : Option TExpr) (a : TStmt) → StandsIn s a → StandsIn s (typed.For spot number start test step a)
  in_switch : (s : TStmt) (spot : Spot) (kind : Kind) (on : TExpr) (parts : List TPart) (n : ℕ) (place : Place) (t : TStmt) → slice_get parts n ≡ Some (typed_part.Does place t)
      → StandsIn s t → StandsIn s (typed.Switch spot kind on parts)

-- it stands in the block of a function
pub record StandsInFunction (s : TStmt) (f : TFunc) : Type 0 where
  pub number : ℕ
  pub outer : TStmt
  pub there : slice_get f.body number ≡ Some outer
  pub within : StandsIn s outer

-- the operands of an expression
abbrev pub operands_of : TExpr-F TExpr → List TExpr
operands_of (TExpr-F.Number node value) = []
operands_of (TExpr-F.Str node string bytes) = []
operands_of (TExpr-F.Object node object) = []
operands_of (TExpr-F.Variable node variable) = []
operands_of (TExpr-F.Index node base index) = base ∷ index ∷ []
operands_of (TExpr-F.Call node function args) = args
operands_of (TExpr-F.Getchar node) = []
operands_of (TExpr-F.Putchar node of) = of ∷ []
operands_of (TExpr-F.Puts node of) = of ∷ []
operands_of (TExpr-F.Printf node format args) = args
operands_of (TExpr-F.Post node by of) = of ∷ []
operands_of (TExpr-F.Pre node by of) = of ∷ []
operands_of (TExpr-F.Address node of) = of ∷ []
operands_of (TExpr-F.Deref node of) = of ∷ []
operands_of (TExpr-F.Plus node of) = of ∷ []
operands_of (TExpr-F.Unary node op kind of) = of ∷ []
operands_of (TExpr-F.Convert node of) = of ∷ []
operands_of (TExpr-F.Cast node of) = of ∷ []
operands_of (TExpr-F.Binary node op kind left right) = left ∷ right ∷ []
operands_of (TExpr-F.Both node left right) = left ∷ right ∷ []
operands_of (TExpr-F.Either node left right) = left ∷ right ∷ []
operands_of (TExpr-F.Forward node left right) = left ∷ right ∷ []
operands_of (TExpr-F.Onto node left right) = left ∷ right ∷ []
operands_of (TExpr-F.Back node left right) = left ∷ right ∷ []
operands_of (TExpr-F.PtrCompare node op left right) = left ∷ right ∷ []
operands_of (TExpr-F.PtrDistance node left right) = left ∷ right ∷ []
operands_of (TExpr-F.Cond node test a b) = test ∷ a ∷ b ∷ []
operands_of (TExpr-F.Assign node left right) = left ∷ right ∷ []
operands_of (TExpr-F.AssignBy node by left right) = left ∷ right ∷ []
operands_of (TExpr-F.Comma node left right) = left ∷ right ∷ []

-- AN EXPRESSION STANDS IN ANOTHER: it is that one, or it stands in an operand of it
pub data IsWithin : TExpr → TExpr → Type 0 where
  itself_within : (e : TExpr) → IsWithin e e
  in_operand : (e d : TExpr) (n : ℕ) (operand : TExpr) → slice_get (operands_of (out-TExpr d)) n ≡ Some operand → IsWithin e operand → IsWithin e d

-- an expression that may be left out
abbrev pub option_values : Option TExpr → List TExpr
option_values None = []
option_values (Some e) = e ∷ []

-- the expressions of items of braces
abbrev pub item_values : List TItem → List TExpr
item_values [] = []
item_values (item.Bytes element bytes ∷ items) = item_values items
item_values (item.Value place element e ∷ items) = e ∷ item_values items

-- of an initialiser
abbrev pub init_values : TInit → List TExpr
init_values begins.Nothing = []
init_values (begins.Value e) = e ∷ []
init_values (begins.Elements items) = item_values items

-- of declarators
abbrev pub declared_values : List TDeclarator → List TExpr
declared_values [] = []
declared_values (d ∷ list) = init_values d.init ++ declared_values list

-- of the first part of a `for`
abbrev pub first_values : TFirst → List TExpr
first_values first.Nothing = []
first_values (first.Value e) = e ∷ []
first_values (first.Declare list) = declared_values list

-- of a statement, beside those of the statements in it
abbrev pub expressions_at : {P S : Type 0} → TStmt-F P S → List TExpr
expressions_at (TStmt-F.Expr spot e) = e ∷ []
expressions_at (TStmt-F.Empty spot) = []
expressions_at (TStmt-F.Block spot parts) = []
expressions_at (TStmt-F.If spot test a b) = test ∷ []
expressions_at (TStmt-F.While spot number test body) = test ∷ []
expressions_at (TStmt-F.DoWhile spot number body test) = test ∷ []
expressions_at (TStmt-F.For spot number start test step body) = first_values start ++ (option_values test ++ option_values step)
expressions_at (TStmt-F.Switch spot kind on parts) = on ∷ []
expressions_at (TStmt-F.Break spot) = []
expressions_at (TStmt-F.Continue spot) = []
expressions_at (TStmt-F.Return spot value) = option_values value
expressions_at (TStmt-F.Declare spot list) = declared_values list

-- an expression stands in the block of a function
pub record IsExpressionOf (e : TExpr) (f : TFunc) : Type 0 where
  pub statement : TStmt
  pub stands : StandsInFunction statement f
  pub number : ℕ
  pub outer : TExpr
  pub there : slice_get (expressions_at (out-TStmt statement)) number ≡ Some outer
  pub within : IsWithin e outer
