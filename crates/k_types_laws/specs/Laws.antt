-- Believed with a public law.
-- Laws of declarators and parameters as relations: judging them agrees.
use Rattle.std.specs.Prelude.{ℕ, ◌≡◌, ◌≤◌, Bool, List, [], ◌∷◌, Option, Some}
use Rattle.k_num.specs.declared.numbers.Kind.{Kind}
use Rattle.k_tree.specs.declared.tree.declaration.Declarator.{Declarator}
use Rattle.k_tree.specs.declared.tree.declaration.Init.{Init}
use Rattle.k_tree.specs.declared.tree.declaration.Param.{Param}
use Rattle.k_tree.specs.declared.tree.expression.Expr.{Expr}
use Rattle.k_types_meaning.specs.declared.tree.declaration.TInit.{TInit}
use Rattle.k_types_meaning.specs.declared.types.CType.{CType}
use Rattle.k_types_meaning.specs.declared.types.CType.TheVariants as ctype
use Rattle.k_types_meaning.specs.declared.types.Base.TheVariants as base
use Rattle.k_types_meaning.specs.Declarations.{Object, Saying, declarator_judged, no_pointer, object_type}
use Rattle.k_types_meaning.specs.Dimensions.{Size, Sizes, dimensions, object_sizes, param_sizes}
use Rattle.k_types_meaning.specs.ElaboratedFunctions.{ElabParam}
use Rattle.k_types_meaning.specs.Functions.{sizes_taken}
use Rattle.k_types_meaning.specs.Initialisers.{beginning, begun, first_given}
use Rattle.k_types_meaning.specs.Made.{Fine}
use Rattle.k_types_meaning.specs.Names.{Names}
use Rattle.k_types_laws.specs.Beginnings.{Begins}
use Rattle.k_types_laws.specs.Declarators.{DeclaresObject, DeclaresParameter, HasType}
use Rattle.k_types_laws.specs.Sizes.{ObjectSizes, ParameterSizes}

-- judging finds no fault in dimensions, of which these are the sizes that count, with the variables that `&` is applied to
abbrev pub AreJudged : Names → List (Option Expr) → (List Size → Option (List ℕ)) → List ℕ → List ℕ → Type 0
AreJudged names dims counted ds taken =
    (sizes : Sizes) × (dimensions names dims ≡ Fine sizes) × (counted sizes.sizes ≡ Some ds) × (sizes.taken ≡ taken)

-- The dimensions of an object have sizes exactly where judging finds no fault in them, and then those that judging finds.
abbrev pub ObjectSizesElaborate : Type 0
ObjectSizesElaborate =
    (names : Names) (dims : List (Option Expr)) (start : Option Init) (ds taken : List ℕ)
    → (AreJudged names dims (λ sizes. object_sizes sizes (first_given start)) ds taken → ObjectSizes names dims start ds taken)
    × (ObjectSizes names dims start ds taken → AreJudged names dims (λ sizes. object_sizes sizes (first_given start)) ds taken)

-- So do those of a parameter.
abbrev pub ParameterSizesElaborate : Type 0
ParameterSizesElaborate =
    (names : Names) (dims : List (Option Expr)) (ds taken : List ℕ)
    → (AreJudged names dims param_sizes ds taken → ParameterSizes names dims ds taken)
    × (ParameterSizes names dims ds taken → AreJudged names dims param_sizes ds taken)

-- each is 1 or more
abbrev pub ArePositive : List ℕ → Type 0
ArePositive [] = Unit {0}
ArePositive (d ∷ ds) = (1 ≤ d) × ArePositive ds

-- C17 6.7.6.2p1: the sizes of a type are 1 or more
abbrev pub HasSizes : CType → Type 0
HasSizes ctype.Void = Unit {0}
HasSizes (ctype.Number kind) = Unit {0}
HasSizes (ctype.Pointer to) = Unit {0}
HasSizes (ctype.Array count of) = (1 ≤ count) × ArePositive of.dims

-- An object of a type begins with something exactly where judging finds that, without a fault.
abbrev pub InitialisersElaborate : Type 0
InitialisersElaborate =
    (names : Names) (file : Bool) (of : CType) (start : Option Init) (begin : TInit) (taken : List ℕ) → HasSizes of
    → (begun names file (Some of) start ≡ Fine (beginning (Some begin) taken) → Begins names file of start begin taken)
    × (Begins names file of start begin taken → begun names file (Some of) start ≡ Fine (beginning (Some begin) taken))

-- A declarator has a type by its sizes exactly where judging finds it.
abbrev pub TypesElaborate : Type 0
TypesElaborate =
    (file : Bool) (s : Saying) (stars : List Bool) (dims : List ℕ) (of : CType)
    → (no_pointer file (object_type s.fixed s.names_base stars dims) ≡ Some of
    → (kind : Kind) × (s.names_base ≡ Some (base.Of kind)) × HasType file kind s.fixed stars dims of)
    × ((kind : Kind) × (s.names_base ≡ Some (base.Of kind)) × HasType file kind s.fixed stars dims of
    → no_pointer file (object_type s.fixed s.names_base stars dims) ≡ Some of)

-- A declarator declares an object exactly where judging finds no fault in it, and then the one that judging makes.
abbrev pub DeclaratorsElaborate : Type 0
DeclaratorsElaborate =
    (file : Bool) (s : Saying) (n : ℕ) (names : Names) (d : Declarator) (o : Object)
    → (declarator_judged file s n names d ≡ Fine o → DeclaresObject file s n names d o)
    × (DeclaresObject file s n names d o → declarator_judged file s n names d ≡ Fine o)

-- A parameter declares a variable of a type exactly where it does by the relation that cites judging its sizes.
abbrev pub ParametersElaborate : Type 0
ParametersElaborate =
    (defines : Bool) (names : Names) (p : Param) (of : CType) (taken : List ℕ)
    → (ElabParam defines names p of × (sizes_taken (dimensions names p.dims) ≡ taken) → DeclaresParameter defines names p of taken)
    × (DeclaresParameter defines names p of taken → ElabParam defines names p of × (sizes_taken (dimensions names p.dims) ≡ taken))
