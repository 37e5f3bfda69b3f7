-- Believed with a public law.
-- The sizes of declarators and parameters as relations (C17 6.7.6.2): one case for each form of their dimensions.
use Rattle.std.specs.Prelude.{ℕ, ◌≡◌, ◌+◌, ◌≤◌, pos, Bool, List, [], ◌∷◌, ◌++◌, length, Option, Some, None}
use Rattle.k_num.specs.declared.place.Place.{Place}
use Rattle.k_tree.specs.declared.tree.declaration.Init.{Init}
use Rattle.k_tree.specs.declared.tree.declaration.Init.TheVariants as init
use Rattle.k_tree.specs.declared.tree.expression.Expr.{Expr}
use Rattle.k_tree.specs.declared.tree.expression.Expr.TheVariants as expr
use Rattle.k_types_meaning.specs.Constants.{constant}
use Rattle.k_types_meaning.specs.Conversions.{Typed}
use Rattle.k_types_meaning.specs.Elaborated.{Elab}
use Rattle.k_types_meaning.specs.Names.{Names}
use Rattle.k_types_meaning.specs.Types.{elements}

-- C17 6.7.6.2p1: an expression is a size, where these names are known: an integer constant expression of 1 or more; `&` is applied in it to
-- these variables
pub data IsSize : Names → Expr → ℕ → List ℕ → Type 0 where
  size : (names : Names) (e : Expr) (v : Typed) (d : ℕ) → Elab names e v → constant v.tree ≡ Some (pos d) → 1 ≤ d → IsSize names e d v.taken

-- dimensions of which none is left out have these sizes
pub data AreSizes : Names → List (Option Expr) → List ℕ → List ℕ → Type 0 where
  no_sizes : (names : Names) → AreSizes names [] [] []
  more_sizes : (names : Names) (e : Expr) (es : List (Option Expr)) (d : ℕ) (ds taken others : List ℕ)
      → IsSize names e d taken → AreSizes names es ds others → AreSizes names (Some e ∷ es) (d ∷ ds) (taken ++ others)

-- an object has at most 4,194,304 elements
abbrev pub AreWithinLimit : List ℕ → Type 0
AreWithinLimit ds = elements ds ≤ 4194304

-- C17 6.4.5, 6.5.1p5: an expression is a string of these bytes, in parentheses or not
pub data IsString : Expr → List ℕ → Type 0 where
  string : (p : Place) (bytes : List ℕ) → IsString (expr.Str p bytes) bytes
  enclosed : (p : Place) (e : Expr) (bytes : List ℕ) → IsString e bytes → IsString (expr.Paren p e) bytes

-- C17 6.7.9p22: an initialiser gives so many elements to an array of unknown size: a string its length with the 0 behind it, braces
-- their items
pub data GivesSize : Init → ℕ → Type 0 where
  by_string : (p : Place) (e : Expr) (bytes : List ℕ) → IsString e bytes → GivesSize (init.One p e) (length bytes + 1)
  by_braces : (p : Place) (items : List Init) (comma : Bool) → GivesSize (init.List p items comma) (length items)

-- C17 6.7.6.2, 6.7.9p22: the dimensions of an object with this initialiser or none have these sizes
pub data ObjectSizes : Names → List (Option Expr) → Option Init → List ℕ → List ℕ → Type 0 where
  -- there are no dimensions
  no_dimensions : (names : Names) (start : Option Init) → ObjectSizes names [] start [] []
  -- each is written
  written : (names : Names) (e : Expr) (es : List (Option Expr)) (start : Option Init) (ds taken : List ℕ)
      → AreSizes names (Some e ∷ es) ds taken → AreWithinLimit ds
      → ObjectSizes names (Some e ∷ es) start ds taken
  -- the first is left out, and the initialiser gives it
  first_given : (names : Names) (es : List (Option Expr)) (start : Init) (d : ℕ) (ds taken : List ℕ)
      → GivesSize start d → AreSizes names es ds taken → AreWithinLimit (d ∷ ds)
      → ObjectSizes names (None ∷ es) (Some start) (d ∷ ds) taken

-- C17 6.7.6.3p7: the dimensions of a parameter behind the first have these sizes; the first counts for nothing
pub data ParameterSizes : Names → List (Option Expr) → List ℕ → List ℕ → Type 0 where
  -- there are no dimensions
  no_parameter_dimensions : (names : Names) → ParameterSizes names [] [] []
  -- the first is left out
  first_left_out : (names : Names) (es : List (Option Expr)) (ds taken : List ℕ)
      → AreSizes names es ds taken → AreWithinLimit ds
      → ParameterSizes names (None ∷ es) ds taken
  -- the first is a size
  first_written : (names : Names) (e : Expr) (es : List (Option Expr)) (d : ℕ) (ds taken others : List ℕ)
      → IsSize names e d taken → AreSizes names es ds others → AreWithinLimit ds
      → ParameterSizes names (Some e ∷ es) ds (taken ++ others)
