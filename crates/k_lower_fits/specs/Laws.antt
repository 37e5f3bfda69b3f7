-- Believed with a public law.
-- What holds of each function of a source that has a typed tree.
use Rattle.std.specs.Prelude.{ℕ, ◌≡◌, ◌*◌, ◌≤◌, ◌<◌, true, [], length, slice_get, Some, All}
use Rattle.k_tree.specs.declared.tree.unit.Unit as source
use Rattle.k_tree.specs.Ranked.{RankedUnit}
use Rattle.k_types_meaning.specs.declared.tree.unit.TFunc.{TFunc}
use Rattle.k_types_meaning.specs.declared.tree.unit.TUnit.{TUnit}
use Rattle.k_types_meaning.specs.Bare.{IsTyped}
use Rattle.k_types_meaning.specs.Numbered.{function_numbers}
use Rattle.k_types_meaning.specs.Units.{faults}
use Rattle.k_lower_fits.specs.Costs.{registers_of, instructions_of}
use Rattle.k_lower_fits.specs.Fits.{limits_of, body_fits}
use Rattle.k_lower_fits.specs.Placed.{body_placed}

-- A FUNCTION FITS its source: its parameters are among its variables, its block fits, and its strings and loops have numbers of the source
pub record FunctionFits (unit : TUnit) (f : TFunc) : Type 0 where
  pub params : f.params ≤ length f.variables
  pub body : body_fits (limits_of unit f) f.body ≡ true
  pub strings : All (λ n. n < length unit.strings) (function_numbers f).strings
  pub loops : All (λ n. n < unit.loops) (function_numbers f).loops

-- each function of a source without faults fits
abbrev pub FunctionsFit : Type 0
FunctionsFit =
    (unit : source.Unit) (typed : TUnit) (n : ℕ) (f : TFunc)
    → IsTyped unit typed → faults unit ≡ [] → slice_get typed.functions n ≡ Some f → FunctionFits typed f

-- A FUNCTION IS SMALL: its size is the count of the nodes of its definition, and it takes few registers and instructions for it
pub record IsSmall (f : TFunc) : Type 0 where
  pub registers : registers_of f ≤ 2 * f.nodes
  pub instructions : instructions_of f ≤ 512 * f.nodes

-- each function of a source without faults is small
abbrev pub FunctionsAreSmall : Type 0
FunctionsAreSmall =
    (unit : source.Unit) (typed : TUnit) (n : ℕ) (f : TFunc)
    → IsTyped unit typed → faults unit ≡ [] → slice_get typed.functions n ≡ Some f → IsSmall f

-- in each function of a source that the grammar gives, declarations stand directly in blocks and in first parts of `for` alone
abbrev pub DeclarationsArePlaced : Type 0
DeclarationsArePlaced =
    (unit : source.Unit) (typed : TUnit) (n : ℕ) (f : TFunc)
    → RankedUnit unit → IsTyped unit typed → slice_get typed.functions n ≡ Some f → body_placed f.body ≡ true
