-- Believed with a public law.
-- What expressions do with variables, with file objects and with functions: which they name, assign, take the address of and call.
use Rattle.std.specs.Prelude.{nat_eq, Bool, false, List, [], ◌∷◌, ◌++◌, map, Option, Some, None}
use Rattle.k_types_meaning.specs.declared.tree.expression.TExpr.{TExpr, fold-TExpr}
use Rattle.k_types_meaning.specs.declared.tree.expression.TExpr.TheOpen.{TExpr-F}
use Rattle.k_types_meaning.specs.declared.tree.declaration.TDeclarator.{TDeclarator}
use Rattle.k_types_meaning.specs.declared.tree.declaration.TInit.{TInit}
use Rattle.k_types_meaning.specs.declared.tree.declaration.TInit.TheVariants as begins
use Rattle.k_types_meaning.specs.declared.tree.declaration.TItem.{TItem}
use Rattle.k_types_meaning.specs.declared.tree.declaration.TItem.TheVariants as item
use Rattle.k_types_meaning.specs.declared.tree.statement.TFirst.{TFirst}
use Rattle.k_types_meaning.specs.declared.tree.statement.TFirst.TheVariants as first
use Rattle.k_wide_meaning.specs.declared.occurrences.Scalar.{Scalar}
use Rattle.k_wide_meaning.specs.declared.occurrences.Scalar.TheVariants.{Variable, Object}
use Rattle.k_wide_meaning.specs.declared.occurrences.Occurrence.{Occurrence}
use Rattle.k_wide_meaning.specs.declared.occurrences.Occurrence.TheVariants.{Names, Assigns, Declares, Addresses, Calls}

-- what an expression does, in text order, and the scalar that it is itself
pub record Occurring : Type 0 where
  pub itself : Option Scalar
  pub all : List Occurrence

-- an expression that is no scalar
abbrev pub of_all : List Occurrence → Occurring
of_all all = record { itself = None; all = all }

-- an expression that is this scalar
abbrev pub scalar : Scalar → Occurring
scalar s = record { itself = Some s; all = Names s ∷ [] }

-- what operands do, one behind another
abbrev pub in_order : List Occurring → List Occurrence
in_order [] = []
in_order (a ∷ rest) = a.all ++ in_order rest

-- a scalar, if there is one, is assigned
abbrev pub assigned : Option Scalar → List Occurrence
assigned None = []
assigned (Some s) = Assigns s ∷ []

-- C17 6.5.16p3: an operand that is assigned
abbrev pub target : Occurring → List Occurrence
target a = assigned a.itself ++ a.all

-- C17 6.5.3.2: a file object, if it is one, is the operand of `&`
abbrev pub addressed : Option Scalar → List Occurrence
addressed None = []
addressed (Some (Variable n)) = []
addressed (Some (Object n)) = Addresses n ∷ []

-- what an expression does, of whose operands it is known
abbrev pub occurs_step : TExpr-F Occurring → Occurring
occurs_step (TExpr-F.Number node value) = of_all ([])
occurs_step (TExpr-F.Str node n bytes) = of_all ([])
occurs_step (TExpr-F.Object node n) = scalar (Object n)
occurs_step (TExpr-F.Variable node n) = scalar (Variable n)
occurs_step (TExpr-F.Index node a b) = of_all (a.all ++ b.all)
occurs_step (TExpr-F.Call node f args) = of_all (Calls f ∷ in_order args)
occurs_step (TExpr-F.Getchar node) = of_all ([])
occurs_step (TExpr-F.Putchar node a) = of_all a.all
occurs_step (TExpr-F.Puts node a) = of_all a.all
occurs_step (TExpr-F.Printf node format args) = of_all (in_order args)
occurs_step (TExpr-F.Post node change a) = of_all (target a)
occurs_step (TExpr-F.Pre node change a) = of_all (target a)
occurs_step (TExpr-F.Address node a) = of_all (addressed a.itself ++ a.all)
occurs_step (TExpr-F.Deref node a) = of_all a.all
occurs_step (TExpr-F.Plus node a) = of_all a.all
occurs_step (TExpr-F.Unary node op kind a) = of_all a.all
occurs_step (TExpr-F.Convert node a) = of_all a.all
occurs_step (TExpr-F.Cast node a) = of_all a.all
occurs_step (TExpr-F.Binary node op kind a b) = of_all (a.all ++ b.all)
occurs_step (TExpr-F.Both node a b) = of_all (a.all ++ b.all)
occurs_step (TExpr-F.Either node a b) = of_all (a.all ++ b.all)
occurs_step (TExpr-F.Forward node a b) = of_all (a.all ++ b.all)
occurs_step (TExpr-F.Onto node a b) = of_all (a.all ++ b.all)
occurs_step (TExpr-F.Back node a b) = of_all (a.all ++ b.all)
occurs_step (TExpr-F.PtrCompare node op a b) = of_all (a.all ++ b.all)
occurs_step (TExpr-F.PtrDistance node a b) = of_all (a.all ++ b.all)
occurs_step (TExpr-F.Cond node a b c) = of_all (a.all ++ (b.all ++ c.all))
occurs_step (TExpr-F.Assign node a b) = of_all (target a ++ b.all)
occurs_step (TExpr-F.AssignBy node change a b) = of_all (target a ++ b.all)
occurs_step (TExpr-F.Comma node a b) = of_all (a.all ++ b.all)

-- what an expression does
abbrev pub occurring : TExpr → Occurring
occurring = fold-TExpr Occurring occurs_step

-- the same, as a list alone
abbrev pub occurs_in : TExpr → List Occurrence
occurs_in e = (occurring e).all

-- that of an expression that may be left out
abbrev pub option_occurs : Option TExpr → List Occurrence
option_occurs None = []
option_occurs (Some e) = occurs_in e

-- several lists, one behind another
abbrev pub all_of : List (List Occurrence) → List Occurrence
all_of [] = []
all_of (xs ∷ rest) = xs ++ all_of rest

-- that of an item of braces
abbrev pub item_occurs : TItem → List Occurrence
item_occurs (item.Bytes n bytes) = []
item_occurs (item.Value p n e) = occurs_in e

-- that of an initialiser
abbrev pub init_occurs : TInit → List Occurrence
init_occurs begins.Nothing = []
init_occurs (begins.Value e) = occurs_in e
init_occurs (begins.Elements items) = all_of (map item_occurs items)

-- that of a declarator
abbrev pub declarator_occurs : TDeclarator → List Occurrence
declarator_occurs d = Declares d.variable ∷ init_occurs d.init

-- that of declarators
abbrev pub declared_occurs : List TDeclarator → List Occurrence
declared_occurs list = all_of (map declarator_occurs list)

-- that of the first part of a `for`
abbrev pub first_occurs : TFirst → List Occurrence
first_occurs first.Nothing = []
first_occurs (first.Value e) = occurs_in e
first_occurs (first.Declare list) = declared_occurs list

-- the variables that the first part of a `for` declares, without what their initialisers do: these run before the loop
abbrev pub first_declared : TFirst → List Occurrence
first_declared first.Nothing = []
first_declared (first.Value e) = []
first_declared (first.Declare list) = map (λ (d : TDeclarator). Declares d.variable) list

-- two scalars are one
abbrev pub same_scalar : Scalar → Scalar → Bool
same_scalar (Variable m) (Variable n) = nat_eq m n
same_scalar (Object m) (Object n) = nat_eq m n
same_scalar _ _ = false
