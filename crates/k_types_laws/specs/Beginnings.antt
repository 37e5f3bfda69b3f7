-- Believed with a public law.
-- With what an object begins, as relations (C17 6.7.9): one case for each form of an initialiser.
use Rattle.std.specs.Prelude.{ℕ, suc, ◌≡◌, ◌+◌, ◌≤◌, ℤ, Bool, true, false, List, [], ◌∷◌, ◌++◌, length, Option, Some, None}
use Rattle.k_num.specs.declared.numbers.Kind.{Kind}
use Rattle.k_num.specs.declared.numbers.Kind.TheVariants.{I8}
use Rattle.k_num.specs.declared.place.Place.{Place}
use Rattle.k_tree.specs.declared.tree.declaration.Init.{Init}
use Rattle.k_tree.specs.declared.tree.declaration.Init.TheVariants as init
use Rattle.k_tree.specs.declared.tree.expression.Expr.{Expr}
use Rattle.k_types_meaning.specs.declared.tree.declaration.TInit.{TInit}
use Rattle.k_types_meaning.specs.declared.tree.declaration.TInit.TheVariants as begins
use Rattle.k_types_meaning.specs.declared.tree.declaration.TItem.{TItem}
use Rattle.k_types_meaning.specs.declared.tree.declaration.TItem.TheVariants as item
use Rattle.k_types_meaning.specs.declared.tree.expression.TExpr.{TExpr}
use Rattle.k_types_meaning.specs.declared.types.CType.{CType}
use Rattle.k_types_meaning.specs.declared.types.CType.TheVariants as ctype
use Rattle.k_types_meaning.specs.declared.types.Element.{Element}
use Rattle.k_types_meaning.specs.Constants.{constant}
use Rattle.k_types_meaning.specs.Conversions.{Typed, passed}
use Rattle.k_types_meaning.specs.Elaborated.{Elab}
use Rattle.k_types_meaning.specs.Names.{Names}
use Rattle.k_types_meaning.specs.Types.{elements}
use Rattle.k_types_laws.specs.Sizes.{IsString}

-- C17 6.7.9p4: an object may begin with this value: any in a function, a constant at file scope
pub data MayBegin : Bool → TExpr → Type 0 where
  in_function : (tree : TExpr) → MayBegin false tree
  constant_value : (tree : TExpr) (z : ℤ) → constant tree ≡ Some z → MayBegin true tree

-- C17 6.7.9p11: an expression gives a value to an object of this type, converted as in assignment; `&` is applied in it to these variables
pub data Gives : Names → Bool → CType → Expr → TExpr → List ℕ → Type 0 where
  value : (names : Names) (file : Bool) (of : CType) (e : Expr) (v : Typed) (tree : TExpr)
      → Elab names e v → passed of v ≡ Some tree → MayBegin file tree → Gives names file of e tree v.taken

mutual
  -- C17 6.7.9p2, p14, p16: an initialiser gives these items to numbers of this kind in these dimensions, from the element of this number on
  pub data ItemsOf : Names → Bool → Kind → List ℕ → ℕ → Init → List TItem → List ℕ → Type 0 where
    -- C17 6.7.9p11: a value, to one number
    number : (names : Names) (file : Bool) (kind : Kind) (n : ℕ) (p : Place) (e : Expr) (tree : TExpr) (taken : List ℕ)
        → Gives names file (ctype.Number kind) e tree taken
        → ItemsOf names file kind [] n (init.One p e) (item.Value p n tree ∷ []) taken
    -- C17 6.7.9p14: a string, to the last dimension of char; the 0 behind it may have no room
    string_of_chars : (names : Names) (file : Bool) (d n : ℕ) (p : Place) (e : Expr) (v : Typed) (bytes : List ℕ)
        → Elab names e v → IsString e bytes → length bytes ≤ d
        → ItemsOf names file I8 (d ∷ []) n (init.One p e) (item.Bytes n bytes ∷ []) v.taken
    -- C17 6.7.9p16, p20: braces, to as many elements as the first dimension says
    braces : (names : Names) (file : Bool) (kind : Kind) (d : ℕ) (ds : List ℕ) (n : ℕ) (p : Place) (list : List Init) (comma : Bool)
        (items : List TItem) (taken : List ℕ)
        → ItemsOfAll names file kind ds d n list items taken
        → ItemsOf names file kind (d ∷ ds) n (init.List p list comma) items taken

  -- C17 6.7.9p2, p17: initialisers in braces give these items to so many elements at most, each of these dimensions, one after the other
  pub data ItemsOfAll : Names → Bool → Kind → List ℕ → ℕ → ℕ → List Init → List TItem → List ℕ → Type 0 where
    no_items : (names : Names) (file : Bool) (kind : Kind) (dims : List ℕ) (count n : ℕ) → ItemsOfAll names file kind dims count n [] [] []
    more_items : (names : Names) (file : Bool) (kind : Kind) (dims : List ℕ) (count n : ℕ) (i : Init) (list : List Init)
        (items others : List TItem) (taken more : List ℕ)
        → ItemsOf names file kind dims n i items taken → ItemsOfAll names file kind dims count (n + elements dims) list others more
        → ItemsOfAll names file kind dims (suc count) n (i ∷ list) (items ++ others) (taken ++ more)

-- C17 6.7.9: an object of this type begins with this, where it has this initialiser or none and these names are known; `&` is applied
-- in it to these variables
pub data Begins : Names → Bool → CType → Option Init → TInit → List ℕ → Type 0 where
  -- C17 6.7.9p10: there is no initialiser
  nothing : (names : Names) (file : Bool) (of : CType) → Begins names file of None begins.Nothing []
  -- C17 6.7.9p11: a number
  number_value : (names : Names) (file : Bool) (kind : Kind) (p : Place) (e : Expr) (tree : TExpr) (taken : List ℕ)
      → Gives names file (ctype.Number kind) e tree taken
      → Begins names file (ctype.Number kind) (Some (init.One p e)) (begins.Value tree) taken
  -- C17 6.7.9p11: a pointer
  pointer_value : (names : Names) (file : Bool) (to : Element) (p : Place) (e : Expr) (tree : TExpr) (taken : List ℕ)
      → Gives names file (ctype.Pointer to) e tree taken
      → Begins names file (ctype.Pointer to) (Some (init.One p e)) (begins.Value tree) taken
  -- C17 6.7.9p14, p16: an array
  array_items : (names : Names) (file : Bool) (count : ℕ) (of : Element) (i : Init) (items : List TItem) (taken : List ℕ)
      → ItemsOf names file of.kind (count ∷ of.dims) 0 i items taken
      → Begins names file (ctype.Array count of) (Some i) (begins.Elements items) taken
