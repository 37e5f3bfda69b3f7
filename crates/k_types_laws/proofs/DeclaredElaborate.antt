-- Judging declarators and parameters and the relations of what they declare agree.
use Rattle.std.proofs.Common.{◌≡◌, refl, sym, ◌∙◌, ap, subst, ℕ, ◌≤◌, Bool, true, false, List, [], ◌∷◌, ◌++◌, map, is_some, Option, Some, None, if◌then◌else◌, inl}
use Rattle.std.proofs.lemmas.Option.{none-some, same_Some}
use Rattle.k_num.specs.declared.numbers.Kind.{Kind}
use Rattle.k_tree.specs.declared.tree.declaration.Declarator.{Declarator}
use Rattle.k_tree.specs.declared.tree.declaration.Init.{Init}
use Rattle.k_tree.specs.declared.tree.declaration.Param.{Param}
use Rattle.k_tree.specs.declared.tree.expression.Expr.{Expr}
use Rattle.k_types_meaning.specs.declared.types.Base.{Base}
use Rattle.k_types_meaning.specs.declared.types.Base.TheVariants as base
use Rattle.k_types_meaning.specs.declared.types.CType.{CType}
use Rattle.k_types_meaning.specs.declared.types.CType.TheVariants as ctype
use Rattle.k_types_meaning.specs.Declarations.{Object, Saying, has_type, declared_type, no_pointer, object_type, type_or_int, where_sized}
use Rattle.k_types_meaning.specs.Dimensions.{Size, Sizes, dimensions, object_sizes, param_sizes, sizes_or_known}
use Rattle.k_types_meaning.specs.ElaboratedDeclarators.{ElabObject, declares, names_within, object as judged_object}
use Rattle.k_types_meaning.specs.ElaboratedFunctions.{ElabParam, param}
use Rattle.k_types_meaning.specs.Functions.{array_param, has_none, local_base, param_dims, param_type, sizes_or_none, sizes_taken, type_of_param}
use Rattle.k_types_meaning.specs.Initialisers.{beginning, first_given}
use Rattle.k_types_meaning.specs.Made.{Made, Fine}
use Rattle.k_types_meaning.specs.Names.{Names}
use Rattle.k_types_meaning.specs.Specifiers.{says_const}
use Rattle.k_types_meaning.proofs.Declared.{object_complete, object_sound}
use Rattle.k_types_laws.specs.Declarators.{DeclaresObject, DeclaresParameter, HasParameterType, HasType, array, array_parameter, number, number_parameter, object, parameter, pointer, pointer_parameter}
use Rattle.k_types_laws.specs.Laws.{ArePositive, DeclaratorsElaborate, ParametersElaborate, TypesElaborate}
use Rattle.k_types_laws.specs.Sizes.{AreSizes, IsSize, ObjectSizes, ParameterSizes, first_given as first_by_initialiser, first_left_out, first_written, more_sizes, no_dimensions, no_parameter_dimensions, no_sizes, size, written}
use Rattle.k_types_laws.proofs.BeginningsElaborate.{Fits, HasRoom, begun_complete, begun_sound, given_room}
use Rattle.k_types_laws.proofs.SizesElaborate.{object_sizes_complete, object_sizes_sound, parameter_sizes_complete, parameter_sizes_sound}

-- a type that judging finds
type_sound : (file fixed : Bool) (b : Option Base) (stars : List Bool) (dims : List ℕ) (of : CType) → no_pointer file (object_type fixed b stars dims) ≡ Some of
    → (kind : Kind) × (b ≡ Some (base.Of kind)) × HasType file kind fixed stars dims of
type_sound true fixed None stars dims of is = absurd (none-some of is)
type_sound false fixed None stars dims of is = absurd (none-some of is)
type_sound true fixed (Some base.Void) stars dims of is = absurd (none-some of is)
type_sound false fixed (Some base.Void) stars dims of is = absurd (none-some of is)
type_sound true fixed (Some (base.Of kind)) [] [] of is =
    (kind, refl, subst (HasType true kind fixed [] []) (same_Some (ctype.Number kind) of is) (number true kind fixed))
type_sound false fixed (Some (base.Of kind)) [] [] of is =
    (kind, refl, subst (HasType false kind fixed [] []) (same_Some (ctype.Number kind) of is) (number false kind fixed))
type_sound true fixed (Some (base.Of kind)) [] (d ∷ ds) of is = (
  kind,
  refl,
  subst (HasType true kind fixed [] (d ∷ ds)) (same_Some (ctype.Array d (record { kind = kind; dims = ds; fixed = fixed })) of is)
      (array true kind fixed d ds),
)
type_sound false fixed (Some (base.Of kind)) [] (d ∷ ds) of is = (
  kind,
  refl,
  subst (HasType false kind fixed [] (d ∷ ds)) (same_Some (ctype.Array d (record { kind = kind; dims = ds; fixed = fixed })) of is)
      (array false kind fixed d ds),
)
type_sound true fixed (Some (base.Of kind)) (star ∷ []) [] of is = absurd (none-some of is)
type_sound false fixed (Some (base.Of kind)) (star ∷ []) [] of is = (
  kind,
  refl,
  subst (HasType false kind fixed (star ∷ []) []) (same_Some (ctype.Pointer (record { kind = kind; dims = []; fixed = fixed })) of is)
      (pointer kind fixed star),
)
type_sound true fixed (Some (base.Of kind)) (star ∷ []) (d ∷ ds) of is = absurd (none-some of is)
type_sound false fixed (Some (base.Of kind)) (star ∷ []) (d ∷ ds) of is = absurd (none-some of is)
type_sound true fixed (Some (base.Of kind)) (star ∷ other ∷ stars) dims of is = absurd (none-some of is)
type_sound false fixed (Some (base.Of kind)) (star ∷ other ∷ stars) dims of is = absurd (none-some of is)

-- an object that is no pointer is one at file scope too
number_is : (file : Bool) (kind : Kind) → no_pointer file (Some (ctype.Number kind)) ≡ Some (ctype.Number kind)
number_is true kind = refl
number_is false kind = refl

array_type : (file fixed : Bool) (kind : Kind) (d : ℕ) (ds : List ℕ)
    → no_pointer file (object_type fixed (Some (base.Of kind)) [] (d ∷ ds)) ≡ Some (ctype.Array d (record { kind = kind; dims = ds; fixed = fixed }))
array_type true fixed kind d ds = refl
array_type false fixed kind d ds = refl

-- a type is what judging finds
type_complete : (file : Bool) (kind : Kind) (fixed : Bool) (stars : List Bool) (dims : List ℕ) (of : CType) → HasType file kind fixed stars dims of
    → no_pointer file (object_type fixed (Some (base.Of kind)) stars dims) ≡ Some of
type_complete _ _ _ _ _ _ (number file kind fixed) = number_is file kind
type_complete _ _ _ _ _ _ (pointer kind fixed star) = refl
type_complete _ _ _ _ _ _ (array file kind fixed d ds) = array_type file fixed kind d ds

-- judging the type of a declarator and the relation agree
pub types_elaborate : TypesElaborate
types_elaborate file s stars dims of = (
  type_sound file s.fixed s.names_base stars dims of,
  λ x. ap (λ b. no_pointer file (object_type s.fixed b stars dims)) x.1 ∙ type_complete file x.0 s.fixed stars dims of x.2,
)

-- there are dimensions where there are sizes
abbrev SameShape : List (Option Expr) → List ℕ → Type 0
SameShape [] [] = Unit {0}
SameShape [] (d ∷ ds) = ⊥
SameShape (e ∷ es) [] = ⊥
SameShape (e ∷ es) (d ∷ ds) = Unit {0}

-- the dimensions of an object and their sizes
object_shape : (names : Names) (es : List (Option Expr)) (start : Option Init) (ds taken : List ℕ) → ObjectSizes names es start ds taken → SameShape es ds
object_shape _ _ _ _ _ (no_dimensions names start) = tt
object_shape _ _ _ _ _ (written names e es start ds taken are least) = by (Some e ∷ es) ds taken are
  where
    by : (os : List (Option Expr)) (ns ts : List ℕ) → AreSizes names os ns ts → SameShape os ns
    by _ _ _ (no_sizes _) = tt
    by _ _ _ (more_sizes _ f fs n ns ts others one more) = tt
object_shape _ _ _ _ _ (first_by_initialiser names es start d ds taken gives are least) = tt

-- an object with a type has one whatever its sizes are
typed_is : (file : Bool) (kind : Kind) (fixed : Bool) (stars : List Bool) (dims : List ℕ) (of : CType) → HasType file kind fixed stars dims of
    → (es : List (Option Expr)) → SameShape es dims
    → is_some (no_pointer file (object_type fixed (Some (base.Of kind)) stars (map (λ e. 1) es))) ≡ true
typed_is _ _ _ _ _ _ (number file kind fixed) [] same = ap is_some (number_is file kind)
typed_is _ _ _ _ _ _ (number file kind fixed) (e ∷ es) same = absurd same
typed_is _ _ _ _ _ _ (pointer kind fixed star) [] same = refl
typed_is _ _ _ _ _ _ (pointer kind fixed star) (e ∷ es) same = absurd same
typed_is _ _ _ _ _ _ (array file kind fixed d ds) [] same = absurd same
typed_is _ _ _ _ _ _ (array file kind fixed d ds) (e ∷ es) same = ap is_some (array_type file fixed kind 1 (map (λ f. 1) es))

-- a size is 1 or more
size_least : (names : Names) (e : Expr) (d : ℕ) (taken : List ℕ) → IsSize names e d taken → 1 ≤ d
size_least _ _ _ _ (size names e v d means is least) = least

are_positive : (names : Names) (es : List (Option Expr)) (ds taken : List ℕ) → AreSizes names es ds taken → ArePositive ds
are_positive _ _ _ _ (no_sizes names) = tt
are_positive _ _ _ _ (more_sizes names e es d ds taken others one more) = (size_least names e d taken one, are_positive names es ds others more)

-- sizes of an array have room for an initialiser
abbrev HaveRoom : List ℕ → Option Init → Type 0
HaveRoom [] start = Unit {0}
HaveRoom (d ∷ ds) None = Unit {0}
HaveRoom (d ∷ ds) (Some i) = HasRoom d i × ArePositive ds

positive_room : (ds : List ℕ) (start : Option Init) → ArePositive ds → HaveRoom ds start
positive_room [] start h = tt
positive_room (d ∷ ds) None h = tt
positive_room (d ∷ ds) (Some i) h = (inl h.0, h.1)

sizes_room : (names : Names) (es : List (Option Expr)) (start : Option Init) (ds taken : List ℕ) → ObjectSizes names es start ds taken → HaveRoom ds start
sizes_room _ _ _ _ _ (no_dimensions names start) = tt
sizes_room _ _ _ _ _ (written names e es start ds taken are least) = positive_room ds start (are_positive names (Some e ∷ es) ds taken are)
sizes_room _ _ _ _ _ (first_by_initialiser names es start d ds taken gives are least) = (given_room start d gives, are_positive names es ds taken are)

type_fits : (file : Bool) (kind : Kind) (fixed : Bool) (stars : List Bool) (dims : List ℕ) (of : CType) → HasType file kind fixed stars dims of
    → (start : Option Init) → HaveRoom dims start → Fits of start
type_fits _ _ _ _ _ _ (number file kind fixed) start h = tt
type_fits _ _ _ _ _ _ (pointer kind fixed star) start h = tt
type_fits _ _ _ _ _ _ (array file kind fixed d ds) None h = tt
type_fits _ _ _ _ _ _ (array file kind fixed d ds) (Some i) h = h

-- the type of a declarator with sizes
declared_fine : (file fixed : Bool) (b : Option Base) (stars : List Bool) (sizes : List Size) (o : Option (List ℕ)) (of : CType)
    → where_sized (is_some o) (no_pointer file (object_type fixed b stars (sizes_or_known sizes o))) ≡ Some of
    → (dims : List ℕ) × (o ≡ Some dims) × (no_pointer file (object_type fixed b stars dims) ≡ Some of)
declared_fine file fixed b stars sizes None of is = absurd (none-some of is)
declared_fine file fixed b stars sizes (Some dims) of is = (dims, refl, is)

-- what judging finds a declarator declares
object_means : (file : Bool) (s : Saying) (n : ℕ) (names : Names) (d : Declarator) (o : Object) → ElabObject file s n names d o
    → DeclaresObject file s n names d o
object_means _ _ _ _ _ _ (judged_object file s n names d sizes of start init free sized typed is begins some) =
    let found = declared_fine file s.fixed s.names_base d.stars sizes.sizes (object_sizes sizes.sizes (first_given d.init)) of is in
    let type_of = type_sound file s.fixed s.names_base d.stars found.0 of found.2 in
    let dims = object_sizes_sound names d.dims d.init found.0 sizes.taken (sizes, sized, found.1, refl) in
    object file s n names d type_of.0 found.0 of init sizes.taken start.taken free type_of.1 dims type_of.2
    (begun_sound (names_within file s n names d of) file of d.init start init
    (type_fits file type_of.0 s.fixed d.stars found.0 of type_of.2 d.init (sizes_room names d.dims d.init found.0 sizes.taken dims)) begins some)

-- what a declarator declares is what judging finds
object_is : (file : Bool) (s : Saying) (n : ℕ) (names : Names) (d : Declarator) (o : Object) → DeclaresObject file s n names d o
    → ElabObject file s n names d o
object_is _ _ _ _ _ _ (object file s n names d kind dims of start taken others free named sizes typed begins) =
    let judged = object_sizes_complete names d.dims d.init dims taken sizes in
    subst (λ t. ElabObject file s n names d (declares s d of start (t ++ others))) judged.3
    (judged_object file s n names d judged.0 of (beginning (Some start) others) start free judged.1
    (ap (λ b. is_some (no_pointer file (object_type s.fixed b d.stars (map (λ e. 1) d.dims)))) named
    ∙ typed_is file kind s.fixed d.stars dims of typed d.dims (object_shape names d.dims d.init dims taken sizes))
    (ap (λ z. where_sized (is_some z) (no_pointer file (object_type s.fixed s.names_base d.stars (sizes_or_known (judged.0).sizes z)))) judged.2
    ∙ (ap (λ b. no_pointer file (object_type s.fixed b d.stars dims)) named ∙ type_complete file kind s.fixed d.stars dims of typed))
    (begun_complete (names_within file s n names d of) file of d.init start others
    (type_fits file kind s.fixed d.stars dims of typed d.init (sizes_room names d.dims d.init dims taken sizes)) begins)
    refl)

-- judging a declarator and the relation agree
pub declarators_elaborate : DeclaratorsElaborate
declarators_elaborate file s n names d o =
    (λ is. object_means file s n names d o (object_sound file s n names d o is), λ x. object_complete file s n names d o (object_is file s n names d o x))

-- the type of a parameter by its dimensions and the sizes behind the first
abbrev parameter_type : Bool → Option Base → List (Option Expr) → List Bool → List ℕ → Option CType
parameter_type fixed b es stars dims = if has_none es then object_type fixed b stars [] else array_param fixed b stars dims

-- there are sizes behind the first dimension only where there is one
abbrev HasFirst : List (Option Expr) → List ℕ → Type 0
HasFirst [] [] = Unit {0}
HasFirst [] (d ∷ ds) = ⊥
HasFirst (e ∷ es) ds = Unit {0}

parameter_first : (names : Names) (es : List (Option Expr)) (ds taken : List ℕ) → ParameterSizes names es ds taken → HasFirst es ds
parameter_first _ _ _ _ (no_parameter_dimensions names) = tt
parameter_first _ _ _ _ (first_left_out names es ds taken are least) = tt
parameter_first _ _ _ _ (first_written names e es d ds taken others one are least) = tt

-- a type of a parameter that judging finds
parameter_type_sound : (fixed : Bool) (b : Option Base) (es : List (Option Expr)) (stars : List Bool) (dims : List ℕ)
    → is_some (parameter_type fixed b es stars []) ≡ true → HasFirst es dims
    → (kind : Kind) × (b ≡ Some (base.Of kind)) × HasParameterType kind fixed es stars dims (type_or_int (parameter_type fixed b es stars dims))
parameter_type_sound fixed None [] stars dims is first = absurd cc
parameter_type_sound fixed None (e ∷ es) stars dims is first = absurd cc
parameter_type_sound fixed (Some base.Void) [] stars dims is first = absurd cc
parameter_type_sound fixed (Some base.Void) (e ∷ es) stars dims is first = absurd cc
parameter_type_sound fixed (Some (base.Of kind)) [] [] [] is first = (kind, refl, number_parameter kind fixed)
parameter_type_sound fixed (Some (base.Of kind)) [] (star ∷ []) [] is first = (kind, refl, pointer_parameter kind fixed star)
parameter_type_sound fixed (Some (base.Of kind)) [] (star ∷ other ∷ stars) [] is first = absurd cc
parameter_type_sound fixed (Some (base.Of kind)) [] stars (d ∷ ds) is first = absurd first
parameter_type_sound fixed (Some (base.Of kind)) (e ∷ es) [] dims is first = (kind, refl, array_parameter kind fixed e es dims)
parameter_type_sound fixed (Some (base.Of kind)) (e ∷ es) (star ∷ stars) dims is first = absurd cc

-- a type of a parameter is what judging finds
parameter_type_complete : (kind : Kind) (fixed : Bool) (es : List (Option Expr)) (stars : List Bool) (dims : List ℕ) (of : CType)
    → HasParameterType kind fixed es stars dims of
    → (is_some (parameter_type fixed (Some (base.Of kind)) es stars []) ≡ true) × (type_or_int (parameter_type fixed (Some (base.Of kind)) es stars dims) ≡ of)
parameter_type_complete _ _ _ _ _ _ (number_parameter kind fixed) = (refl, refl)
parameter_type_complete _ _ _ _ _ _ (pointer_parameter kind fixed star) = (refl, refl)
parameter_type_complete _ _ _ _ _ _ (array_parameter kind fixed dim dims ds) = (refl, refl)

-- the type of a parameter whose sizes were judged
parameter_type_is : (names : Names) (p : Param) (sizes : Sizes) (dims : List ℕ) → dimensions names p.dims ≡ Fine sizes → param_sizes sizes.sizes ≡ Some dims
    → type_of_param names p ≡ type_or_int (param_type (says_const p.specs) (local_base p.specs) p dims)
parameter_type_is names p sizes dims sized right =
    ap (λ m. type_or_int (param_type (says_const p.specs) (local_base p.specs) p (sizes_or_none (param_dims m)))) sized
    ∙ ap (λ o. type_or_int (param_type (says_const p.specs) (local_base p.specs) p (sizes_or_none o))) right

-- what judging finds a parameter declares
parameter_means : (defines : Bool) (names : Names) (p : Param) (of : CType) → ElabParam defines names p of
    → DeclaresParameter defines names p of (sizes_taken (dimensions names p.dims))
parameter_means _ _ _ _ (param defines names p sizes dims free sized right typed named) =
    let behind = parameter_sizes_sound names p.dims dims sizes.taken (sizes, sized, right, refl) in
    let found = parameter_type_sound (says_const p.specs) (local_base p.specs) p.dims p.stars dims typed (parameter_first names p.dims dims sizes.taken behind) in
    subst (λ t. DeclaresParameter defines names p t (sizes_taken (dimensions names p.dims))) (sym (parameter_type_is names p sizes dims sized right))
    (subst (DeclaresParameter defines names p (type_or_int (param_type (says_const p.specs) (local_base p.specs) p dims))) (sym (ap sizes_taken sized))
    (parameter defines names p found.0 dims (type_or_int (param_type (says_const p.specs) (local_base p.specs) p dims)) sizes.taken free found.1 behind found.2 named))

-- what a parameter declares is what judging finds
parameter_is : (defines : Bool) (names : Names) (p : Param) (of : CType) (taken : List ℕ) → DeclaresParameter defines names p of taken
    → ElabParam defines names p of × (sizes_taken (dimensions names p.dims) ≡ taken)
parameter_is _ _ _ _ _ (parameter defines names p kind dims of taken free based sizes typed named) =
    let judged = parameter_sizes_complete names p.dims dims taken sizes in
    let found = parameter_type_complete kind (says_const p.specs) p.dims p.stars dims of typed in (
      subst (ElabParam defines names p)
          (parameter_type_is names p judged.0 dims judged.1 judged.2
          ∙ (ap (λ b. type_or_int (param_type (says_const p.specs) b p dims)) based ∙ found.1))
          (param defines names p judged.0 dims free judged.1 judged.2
          (ap (λ b. is_some (param_type (says_const p.specs) b p [])) based ∙ found.0) named),
      ap sizes_taken judged.1 ∙ judged.3,
    )

-- judging a parameter and the relation agree
pub parameters_elaborate : ParametersElaborate
parameters_elaborate defines names p of taken =
    (λ x. subst (DeclaresParameter defines names p of) x.1 (parameter_means defines names p of x.0), parameter_is defines names p of taken)
