-- Believed with a public law.
-- How declarations are lowered, and how a variable begins.
use Rattle.std.specs.Prelude.{ℕ, zero, suc, ◌+◌, true, false, List, [], ◌∷◌, length, slice_get, None}
use Rattle.k_num.specs.declared.place.Place.{Place}
use Rattle.k_types_meaning.specs.declared.tree.declaration.TDeclarator.{TDeclarator}
use Rattle.k_types_meaning.specs.declared.tree.declaration.TInit.{TInit}
use Rattle.k_types_meaning.specs.declared.tree.declaration.TInit.TheVariants as init
use Rattle.k_types_meaning.specs.declared.tree.declaration.TItem.{TItem}
use Rattle.k_types_meaning.specs.declared.tree.declaration.TItem.TheVariants as item
use Rattle.k_types_meaning.specs.declared.tree.expression.TExpr.{TExpr}
use Rattle.k_types_meaning.specs.declared.tree.statement.TFirst.{TFirst}
use Rattle.k_types_meaning.specs.declared.tree.statement.TFirst.TheVariants as first
use Rattle.k_code.specs.declared.instruction.Do.TheVariants.{Address, Fill, Forget, ObjectOpen, Store}
use Rattle.k_code.specs.declared.instruction.Home.TheVariants.{Local}
use Rattle.k_evaluation.specs.Declarations.{elements_of, values_from}
use Rattle.k_lower_code.specs.Expressions.{lowered}
use Rattle.k_lower_code.specs.Lowered.{Lowered, Designated, InRegister}
use Rattle.k_lower_code.specs.Assignments.{writes}
use Rattle.k_lower_code.specs.Pieces.{Piece, only, ◌>>>◌, does, sets}
use Rattle.k_lower_code.specs.Stretches.{Inside, Stretch, of_piece, nothing_done, behind}

-- how an expression is lowered here
abbrev pub means : Inside → TExpr → Lowered
means w e = lowered w.program w.vars e

-- the first temporary of a function stands behind its variables
abbrev pub temporary : Inside → ℕ
temporary w = length w.vars

-- an expression whose value is not used
abbrev pub drops : Inside → TExpr → Piece (Unit {0})
drops w e = (means w e).value false (temporary w) >>> λ a. only tt

-- a register is initialised at its declarator, by a move
abbrev pub initialises : Inside → TDeclarator → TExpr → Designated → Piece (Unit {0})
initialises w d e target =
    (means w e).value true (temporary w) >>> λ a. writes w.program d.place false (temporary w) target a >>> λ v. only tt

-- a register begins unset, or by a move
abbrev pub begins_register : Inside → TDeclarator → TInit → Piece (Unit {0})
begins_register w d init.Nothing = does w.program d.place (Forget d.variable)
begins_register w d (init.Value e) = initialises w d e (InRegister d.variable false)
begins_register w d (init.Elements items) = only tt

-- a value is stored, at this place, in an element of the call's object of this number
abbrev pub stores_at : Inside → Place → ℕ → ℕ → TExpr → Piece (Unit {0})
stores_at w place object n e =
    (means w e).value true (temporary w) >>> λ a. sets w.program place (Address (Local object) n) (temporary w + 1) >>> λ address.
    does w.program place (Store address a None)

-- an item of braces that is no string is stored, at its own place, in an element of that object
abbrev pub stores_item : Inside → ℕ → TItem → Piece (Unit {0})
stores_item w object (item.Bytes n bytes) = only tt
stores_item w object (item.Value place n e) = stores_at w place object n e

-- the items that are no strings, in text order
abbrev pub stores_items : Inside → ℕ → List TItem → Piece (Unit {0})
stores_items w object [] = only tt
stores_items w object (i ∷ items) = stores_item w object i >>> λ done. stores_items w object items

-- the call's object of this number begins unset, by a store, or as an array
abbrev pub begins_object : Inside → TDeclarator → ℕ → TInit → Piece (Unit {0})
begins_object w d object init.Nothing = only tt
begins_object w d object (init.Value e) = stores_at w d.place object 0 e
begins_object w d object (init.Elements items) =
    does w.program d.place (Fill object (values_from items)) >>> λ filled. stores_items w object items

-- a variable has the call's next object, of which this is the number; it holds its address from now on
abbrev pub makes_variable : Inside → TDeclarator → ℕ → ℕ → Piece (Unit {0})
makes_variable w d elements object =
    does w.program d.place (ObjectOpen elements) >>> λ made.
    does w.program d.place (Address (Local object) 0 d.variable) >>> λ set. begins_object w d object d.init

-- a declarator, by how many elements its variable's object has: a register has none
abbrev pub declares_by : Inside → TDeclarator → ℕ → Stretch
declares_by w d zero = of_piece d.place (begins_register w d d.init)
declares_by w d (suc n) = record (nothing_done d.place) {
  size = (makes_variable w d (suc n) 0).size;
  code = λ site first. (makes_variable w d (suc n) site.objects).code first;
  opens = 1;
}

-- a declarator
unfoldable pub declares : Inside → TDeclarator → Stretch
declares w d = declares_by w d (elements_of (slice_get w.vars d.variable))

-- the declarators of a declaration, in their order
abbrev pub declares_all : Inside → Place → List TDeclarator → Stretch
declares_all w place [] = nothing_done place
declares_all w place (d ∷ ds) = behind (declares w d) (declares_all w place ds)

-- the first part of a `for`
abbrev pub starts_with : Inside → Place → TFirst → Stretch
starts_with w place first.Nothing = nothing_done place
starts_with w place (first.Value e) = of_piece place (drops w e)
starts_with w place (first.Declare list) = declares_all w place list
