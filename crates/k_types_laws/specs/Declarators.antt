-- Believed with a public law.
-- What declarators and parameters declare, as relations in the standard's terms (C17 6.7, 6.7.6).
use Rattle.std.specs.Prelude.{ℕ, ◌≡◌, Bool, true, false, List, [], ◌∷◌, ◌++◌, Option, Some}
use Rattle.k_num.specs.declared.numbers.Kind.{Kind}
use Rattle.k_tree.specs.declared.tree.declaration.Declarator.{Declarator}
use Rattle.k_tree.specs.declared.tree.declaration.Param.{Param}
use Rattle.k_tree.specs.declared.tree.expression.Expr.{Expr}
use Rattle.k_types_meaning.specs.declared.tree.declaration.TInit.{TInit}
use Rattle.k_types_meaning.specs.declared.types.Base.TheVariants as base
use Rattle.k_types_meaning.specs.declared.types.CType.{CType}
use Rattle.k_types_meaning.specs.declared.types.CType.TheVariants as ctype
use Rattle.k_types_meaning.specs.declared.types.Element.{Element}
use Rattle.k_types_meaning.specs.Declarations.{Object, Saying, is_twice}
use Rattle.k_types_meaning.specs.ElaboratedDeclarators.{declares, names_within}
use Rattle.k_types_meaning.specs.ElaboratedFunctions.{param_named}
use Rattle.k_types_meaning.specs.Functions.{local_base, option_twice}
use Rattle.k_types_meaning.specs.Names.{Names}
use Rattle.k_types_meaning.specs.Specifiers.{says_const}
use Rattle.k_types_laws.specs.Beginnings.{Begins}
use Rattle.k_types_laws.specs.Sizes.{ObjectSizes, ParameterSizes}

-- numbers of a kind in these dimensions, const or not
abbrev pub numbers : Kind → Bool → List ℕ → Element
numbers kind fixed dims = record { kind = kind; dims = dims; fixed = fixed }

-- C17 6.7.6: the type of an object of numbers of this kind, const or not, by its stars and sizes; at file scope no object is a pointer
pub data HasType : Bool → Kind → Bool → List Bool → List ℕ → CType → Type 0 where
  number : (file : Bool) (kind : Kind) (fixed : Bool) → HasType file kind fixed [] [] (ctype.Number kind)
  pointer : (kind : Kind) (fixed star : Bool) → HasType false kind fixed (star ∷ []) [] (ctype.Pointer (numbers kind fixed []))
  array : (file : Bool) (kind : Kind) (fixed : Bool) (d : ℕ) (ds : List ℕ)
      → HasType file kind fixed [] (d ∷ ds) (ctype.Array d (numbers kind fixed ds))

-- C17 6.7: a declarator declares an object, at file scope or in a function, with this number, where these names are known
pub data DeclaresObject : Bool → Saying → ℕ → Names → Declarator → Object → Type 0 where
  -- C17 6.7p3, 6.7.2, 6.7.6, 6.7.9: its name is not declared in its scope already; its specifiers name a kind; its dimensions have sizes,
  -- which make it a type; and its initialiser, which knows its name, is one for an object of the type
  object : (file : Bool) (s : Saying) (n : ℕ) (names : Names) (d : Declarator) (kind : Kind) (dims : List ℕ) (of : CType) (start : TInit)
      (taken others : List ℕ)
      → is_twice names d.name ≡ false → s.names_base ≡ Some (base.Of kind)
      → ObjectSizes names d.dims d.init dims taken → HasType file kind s.fixed d.stars dims of
      → Begins (names_within file s n names d of) file of d.init start others
      → DeclaresObject file s n names d (declares s d of start (taken ++ others))

-- C17 6.7.6.3p7: the type of a parameter of numbers of this kind, const or not, by its dimensions, its stars and the sizes behind its first
-- dimension: an array is the pointer to its element
pub data HasParameterType : Kind → Bool → List (Option Expr) → List Bool → List ℕ → CType → Type 0 where
  number_parameter : (kind : Kind) (fixed : Bool) → HasParameterType kind fixed [] [] [] (ctype.Number kind)
  pointer_parameter : (kind : Kind) (fixed star : Bool)
      → HasParameterType kind fixed [] (star ∷ []) [] (ctype.Pointer (numbers kind fixed []))
  array_parameter : (kind : Kind) (fixed : Bool) (dim : Option Expr) (dims : List (Option Expr)) (ds : List ℕ)
      → HasParameterType kind fixed (dim ∷ dims) [] ds (ctype.Pointer (numbers kind fixed ds))

-- C17 6.7.6.3: a parameter of a prototype or of a definition declares a variable of this type; `&` is applied in it to these variables
pub data DeclaresParameter : Bool → Names → Param → CType → List ℕ → Type 0 where
  -- its name is not declared in its scope already; its specifiers name a kind; its dimensions have sizes, which make it a type; and in a
  -- definition it has a name
  parameter : (defines : Bool) (names : Names) (p : Param) (kind : Kind) (dims : List ℕ) (of : CType) (taken : List ℕ)
      → option_twice names p.name ≡ false → local_base p.specs ≡ Some (base.Of kind)
      → ParameterSizes names p.dims dims taken → HasParameterType kind (says_const p.specs) p.dims p.stars dims of
      → param_named defines p ≡ true
      → DeclaresParameter defines names p of taken
