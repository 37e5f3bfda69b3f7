-- Believed with a public law.
-- *Typing* of functions as a relation: which typed function a definition means, and that a prototype is right (C17 6.7.6.3, 6.9.1).
use Rattle.std.specs.Prelude.{◌≡◌, ℕ, Bool, true, false, ◌||◌, not, List, [], ◌∷◌, length, is_some, Option, Some, None}
use Rattle.k_num.specs.declared.place.Place.{Place}
use Rattle.k_tree.specs.declared.tree.declaration.Param.{Param}
use Rattle.k_tree.specs.declared.tree.statement.Stmt.{Stmt}
use Rattle.k_tree.specs.declared.tree.unit.Head.{Head}
use Rattle.k_types_meaning.specs.declared.names.Meaning.{Meaning}
use Rattle.k_types_meaning.specs.declared.names.Meaning.TheVariants as meaning
use Rattle.k_types_meaning.specs.declared.names.Signature.{Signature}
use Rattle.k_types_meaning.specs.declared.tree.statement.TStmt.{TStmt}
use Rattle.k_types_meaning.specs.declared.tree.unit.TFunc.{TFunc}
use Rattle.k_types_meaning.specs.declared.types.CType.{CType}
use Rattle.k_types_meaning.specs.Dimensions.{Sizes, dimensions, param_sizes}
use Rattle.k_types_meaning.specs.Functions.{same_signature, param_type, local_base, type_of_param, option_twice, behind_param, params_of, within_function, result_type, signature, meaning_here, function_tree, body_names}
use Rattle.k_types_meaning.specs.Made.{Fine}
use Rattle.k_types_meaning.specs.Names.{Names}
use Rattle.k_types_meaning.specs.Specifiers.{says_const}
use Rattle.k_types_meaning.specs.Statements.{Around, Known}
use Rattle.k_types_meaning.specs.ElaboratedStatements.{ElabStmts}

-- a parameter has a type, whatever its sizes are
abbrev pub param_has_type : Param → Bool
param_has_type p = is_some (param_type (says_const p.specs) (local_base p.specs) p [])

-- C17 6.9.1p5: a parameter has a name, where it is one of a definition
abbrev pub param_named : Bool → Param → Bool
param_named defines p = not defines || is_some p.name

-- C17 6.7.6.3: a parameter of a prototype or of a definition declares a variable of its type
pub data ElabParam : Bool → Names → Param → CType → Type 0 where
  -- its name is not declared in its scope already; its sizes are right; it has a type, and in a definition a name
  param : (defines : Bool) (names : Names) (p : Param) (sizes : Sizes) (dims : List ℕ)
      → option_twice names p.name ≡ false → dimensions names p.dims ≡ Fine sizes → param_sizes sizes.sizes ≡ Some dims
      → param_has_type p ≡ true → param_named defines p ≡ true
      → ElabParam defines names p (type_of_param names p)

-- C17 6.7.6.3: the parameters of a head, one after the other: what one declares is known to the next
pub data ElabParams : Bool → Known → List Param → List CType → Known → Type 0 where
  no_params : (defines : Bool) (known : Known) → ElabParams defines known [] [] known
  more_params : (defines : Bool) (known : Known) (p : Param) (ps : List Param) (of : CType) (ofs : List CType) (after : Known)
      → ElabParam defines known.names p of → ElabParams defines (behind_param known p) ps ofs after
      → ElabParams defines known (p ∷ ps) (of ∷ ofs) after

-- C17 6.7p3, 6.7p4, 6.9p3: a function of a type may be declared, for the first time or again as one that is defined already, where its name means
-- this at file scope: nothing, or a function of an equal type, which is not defined twice
pub data MayDeclare : Signature → Bool → Option Meaning → Type 0 where
  first_declared : (f : Signature) (again : Bool) → MayDeclare f again None
  declared_alike : (f g : Signature) → same_signature f g ≡ true → MayDeclare f false (Some (meaning.Function g))

-- C17 6.7.6.3p1, 6.9.1p3: a head declares a function, whose result has this type, and which may be declared
abbrev pub Declares : List (List ℕ) → Bool → Names → Head → CType → Type 0
Declares defined again names head of =
    (result_type head ≡ Some of) × MayDeclare (signature defined names head) again (meaning_here names head.name)

-- C17 6.7.6.3: a prototype is right, where these names are known
pub data ElabPrototype : List (List ℕ) → Names → Head → Type 0 where
  prototype : (defined : List (List ℕ)) (names : Names) (head : Head) (types : List CType) (inside : Known) (of : CType)
      → ElabParams false (within_function names) (params_of head.params) types inside → Declares defined false names head of
      → ElabPrototype defined names head

-- what lies around the block of a function with this result: no loop and no switch
abbrev pub within : CType → Around
within of = record { in_loop = false; in_switch = false; result = of }

-- C17 6.2.1p4: what the block of a function knows: its parameters, in the scope above the file's, in which its own name is
abbrev pub known_to_body : List (List ℕ) → Names → Head → Known → Known
known_to_body defined names head inside = record inside { names = body_names defined names head inside.names }

-- C17 6.9.1: the definition of a function, here or again, means a typed function, where these names are known
pub data ElabFunction : List (List ℕ) → Bool → Names → Place → Head → List Stmt → Place → TFunc → Type 0 where
  definition : (defined : List (List ℕ)) (again : Bool) (names : Names) (p : Place) (head : Head) (body : List Stmt) (close : Place)
      (types : List CType) (inside : Known) (of : CType) (trees : List TStmt) (after : Known)
      → ElabParams true (within_function names) (params_of head.params) types inside → Declares defined again names head of
      → ElabStmts (within of) (known_to_body defined names head inside) body trees after
      → ElabFunction defined again names p head body close (function_tree p head body close of (length types) after trees)
