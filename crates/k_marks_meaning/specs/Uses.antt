-- Believed with the theorem on the top call.
-- What expressions do with the variables of their function: which they name, and which they assign.
use Rattle.std.specs.Prelude.{ℕ, List, [], ◌∷◌, ◌++◌, map, Option, Some, None}
use Rattle.k_types_meaning.specs.declared.tree.expression.TExpr.{TExpr, fold-TExpr}
use Rattle.k_types_meaning.specs.declared.tree.expression.TExpr.TheOpen.{TExpr-F}
use Rattle.k_types_meaning.specs.declared.tree.declaration.TDeclarator.{TDeclarator}
use Rattle.k_types_meaning.specs.declared.tree.declaration.TInit.{TInit}
use Rattle.k_types_meaning.specs.declared.tree.declaration.TInit.TheVariants as begins
use Rattle.k_types_meaning.specs.declared.tree.declaration.TItem.{TItem}
use Rattle.k_types_meaning.specs.declared.tree.declaration.TItem.TheVariants as item
use Rattle.k_types_meaning.specs.declared.tree.statement.TFirst.{TFirst}
use Rattle.k_types_meaning.specs.declared.tree.statement.TFirst.TheVariants as first
use Rattle.k_marks_meaning.specs.declared.uses.Use.{Use}
use Rattle.k_marks_meaning.specs.declared.uses.Use.TheVariants.{Names, Assigns, Declares}

-- what an expression does with variables, in text order, and the variable that it is itself
pub record Used : Type 0 where
  pub itself : Option ℕ
  pub uses : List Use

-- an expression that is no variable
abbrev pub of_uses : List Use → Used
of_uses uses = record { itself = None; uses = uses }

-- what operands do, one behind another
abbrev pub in_order : List Used → List Use
in_order [] = []
in_order (a ∷ rest) = a.uses ++ in_order rest

-- a variable, if there is one, is assigned
abbrev pub assigns : Option ℕ → List Use
assigns None = []
assigns (Some n) = Assigns n ∷ []

-- C17 6.5.16p3: an operand that is assigned
abbrev pub target : Used → List Use
target a = assigns a.itself ++ a.uses

-- what an expression does, of whose operands it is known
abbrev pub uses_step : TExpr-F Used → Used
uses_step (TExpr-F.Number node value) = of_uses ([])
uses_step (TExpr-F.Str node n bytes) = of_uses ([])
uses_step (TExpr-F.Object node n) = of_uses ([])
uses_step (TExpr-F.Variable node n) = record { itself = Some n; uses = Names n ∷ [] }
uses_step (TExpr-F.Index node a b) = of_uses (a.uses ++ b.uses)
uses_step (TExpr-F.Call node f args) = of_uses (in_order args)
uses_step (TExpr-F.Getchar node) = of_uses ([])
uses_step (TExpr-F.Putchar node a) = of_uses a.uses
uses_step (TExpr-F.Puts node a) = of_uses a.uses
uses_step (TExpr-F.Printf node format args) = of_uses (in_order args)
uses_step (TExpr-F.Post node change a) = of_uses (target a)
uses_step (TExpr-F.Pre node change a) = of_uses (target a)
uses_step (TExpr-F.Address node a) = of_uses a.uses
uses_step (TExpr-F.Deref node a) = of_uses a.uses
uses_step (TExpr-F.Plus node a) = of_uses a.uses
uses_step (TExpr-F.Unary node op kind a) = of_uses a.uses
uses_step (TExpr-F.Convert node a) = of_uses a.uses
uses_step (TExpr-F.Cast node a) = of_uses a.uses
uses_step (TExpr-F.Binary node op kind a b) = of_uses (a.uses ++ b.uses)
uses_step (TExpr-F.Both node a b) = of_uses (a.uses ++ b.uses)
uses_step (TExpr-F.Either node a b) = of_uses (a.uses ++ b.uses)
uses_step (TExpr-F.Forward node a b) = of_uses (a.uses ++ b.uses)
uses_step (TExpr-F.Onto node a b) = of_uses (a.uses ++ b.uses)
uses_step (TExpr-F.Back node a b) = of_uses (a.uses ++ b.uses)
uses_step (TExpr-F.PtrCompare node op a b) = of_uses (a.uses ++ b.uses)
uses_step (TExpr-F.PtrDistance node a b) = of_uses (a.uses ++ b.uses)
uses_step (TExpr-F.Cond node a b c) = of_uses (a.uses ++ (b.uses ++ c.uses))
uses_step (TExpr-F.Assign node a b) = of_uses (target a ++ b.uses)
uses_step (TExpr-F.AssignBy node change a b) = of_uses (target a ++ b.uses)
uses_step (TExpr-F.Comma node a b) = of_uses (a.uses ++ b.uses)

-- what an expression does with variables
abbrev pub used : TExpr → Used
used = fold-TExpr Used uses_step

-- the same, as a list alone
abbrev pub uses_of : TExpr → List Use
uses_of e = (used e).uses

-- that of an expression that may be left out
abbrev pub option_uses : Option TExpr → List Use
option_uses None = []
option_uses (Some e) = uses_of e

-- several lists, one behind another
abbrev pub all_uses : List (List Use) → List Use
all_uses [] = []
all_uses (xs ∷ rest) = xs ++ all_uses rest

-- that of an item of braces
abbrev pub item_uses : TItem → List Use
item_uses (item.Bytes n bytes) = []
item_uses (item.Value p n e) = uses_of e

-- that of an initialiser
abbrev pub init_uses : TInit → List Use
init_uses begins.Nothing = []
init_uses (begins.Value e) = uses_of e
init_uses (begins.Elements items) = all_uses (map item_uses items)

-- that of a declarator
abbrev pub declarator_uses : TDeclarator → List Use
declarator_uses d = Declares d.variable ∷ init_uses d.init

-- that of declarators
abbrev pub declared_uses : List TDeclarator → List Use
declared_uses list = all_uses (map declarator_uses list)

-- that of the first part of a `for`
abbrev pub first_uses : TFirst → List Use
first_uses first.Nothing = []
first_uses (first.Value e) = uses_of e
first_uses (first.Declare list) = declared_uses list

-- the variables that declarators declare
abbrev pub declares : List TDeclarator → List Use
declares list = map (λ (d : TDeclarator). Declares d.variable) list

-- the variables that the first part of a `for` declares, without what their initialisers do: these run before the loop
abbrev pub first_declares : TFirst → List Use
first_declares first.Nothing = []
first_declares (first.Value e) = []
first_declares (first.Declare list) = declares list
