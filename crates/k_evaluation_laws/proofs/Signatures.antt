-- Each function is declared with parameters and a result of the sorts that it is defined with.
use Rattle.std.proofs.Common.{◌≡◌, ℕ, Bool, true, false, ◌||◌, if◌then◌else◌, List, [], ◌∷◌, ◌++◌, map, append_assoc, Option, Some, None, refl, sym, ◌∙◌, ap, subst}
use Rattle.std.proofs.lemmas.Bool.{and_parts}
use Rattle.std.proofs.lemmas.List.{append-nil}
use Rattle.std.specs.Cmp.Lexicographic.{same_text}
use Rattle.std.specs.Prelude.{is_some, nat_eq}
use Rattle.std.specs.Str.{bytes_eq}
use Rattle.k_tree.specs.declared.tree.declaration.Declarator.{Declarator}
use Rattle.k_tree.specs.declared.tree.declaration.Param.{Param}
use Rattle.k_tree.specs.declared.tree.unit.Head.{Head}
use Rattle.k_tree.specs.declared.tree.unit.Item.{Item}
use Rattle.k_tree.specs.declared.tree.unit.Item.TheVariants as item
use Rattle.k_types_meaning.specs.declared.names.Meaning.{Meaning}
use Rattle.k_types_meaning.specs.declared.names.Meaning.TheVariants as meaning
use Rattle.k_types_meaning.specs.declared.names.Signature.{Signature}
use Rattle.k_types_meaning.specs.declared.types.Base.{Base}
use Rattle.k_types_meaning.specs.declared.types.Base.TheVariants as base
use Rattle.k_types_meaning.specs.declared.types.CType.{CType}
use Rattle.k_types_meaning.specs.declared.types.CType.TheVariants as ctype
use Rattle.k_types_meaning.specs.Declarations.{Object, Saying, saying, object_type, entered, is_twice, type_or_int}
use Rattle.k_types_meaning.specs.Dimensions.{dimensions}
use Rattle.k_types_meaning.specs.ElaboratedDeclarators.{ElabObject, object}
use Rattle.k_types_meaning.specs.ElaboratedFunctions.{MayDeclare, first_declared, declared_alike}
use Rattle.k_types_meaning.specs.ElaboratedUnits.{ElabObjects, ElabItem, no_objects, more_objects, function, prototype_alone, objects, with_object}
use Rattle.k_types_meaning.specs.Functions.{same_type, same_types, same_signature, has_none, array_param, param_type, local_base, param_dims, sizes_or_none, type_of_param, params_of, params_in_order, head_params, within_function, behind_param, param_judged, variable_types, signature, result_type, meaning_here, names_behind_head}
use Rattle.k_types_meaning.specs.Names.{Names, meaning_in, or_meaning, library}
use Rattle.k_types_meaning.specs.Specifiers.{says_const}
use Rattle.k_types_meaning.specs.Statements.{Known, Variable}
use Rattle.k_types_meaning.specs.Types.{equal_element, same_element, same_kind}
use Rattle.k_types_meaning.specs.Units.{FileKnown, Parts, is_name}
use Rattle.k_types_meaning.proofs.Fine.{IfThere}
use Rattle.k_lower_fits.proofs.Signatures.{entered_here, function_may, prototype_may}
use Rattle.k_evaluation_laws.specs.Kinds.{Sort, ANumber, APointer}
use Rattle.k_evaluation_laws.proofs.Fits.{Callee, is_nothing}
use Rattle.k_evaluation_laws.proofs.Judged.{sort_in, shape}
use Rattle.k_evaluation_laws.proofs.Slots.{one_kind}
use Rattle.k_evaluation_laws.proofs.Stated.{HasValues, object_has}

-- THE SORTS of variables
abbrev pub sorts_in : List Variable → List Sort
sorts_in vs = map (λ (v : Variable). sort_in v.of) vs

pub sorts_behind : (vs : List Variable) (v : Variable) → sorts_in (vs ++ v ∷ []) ≡ sorts_in vs ++ sort_in v.of ∷ []
sorts_behind [] v = refl
sorts_behind (x ∷ vs) v = ap (λ (ss : List Sort). sort_in x.of ∷ ss) (sorts_behind vs v)

-- of a parameter: no size says what it is
abbrev sort_with : Param → List ℕ → Sort
sort_with p dims = sort_in (type_or_int (param_type (says_const p.specs) (local_base p.specs) p dims))

abbrev pub sort_of_param : Param → Sort
sort_of_param p = sort_with p []

array_sort : (fixed : Bool) (b : Option Base) (stars : List Bool) (dims : List ℕ)
    → sort_in (type_or_int (array_param fixed b stars dims)) ≡ sort_in (type_or_int (array_param fixed b stars []))
array_sort fixed None stars dims = refl
array_sort fixed (Some base.Void) stars dims = refl
array_sort fixed (Some (base.Of kind)) [] dims = refl
array_sort fixed (Some (base.Of kind)) (star ∷ stars) dims = refl

pub param_sort : (names : Names) (p : Param) → sort_in (type_of_param names p) ≡ sort_of_param p
param_sort names p = by (sizes_or_none (param_dims (dimensions names p.dims))) (has_none p.dims) refl
  where
    by : (dims : List ℕ) (b : Bool) → has_none p.dims ≡ b → sort_with p dims ≡ sort_with p []
    by dims true is =
        ap (λ (none : Bool). sort_in (type_or_int (if none then object_type (says_const p.specs) (local_base p.specs) p.stars [] else array_param (says_const p.specs) (local_base p.specs) p.stars dims))) is
        ∙ sym (ap (λ (none : Bool). sort_in (type_or_int (if none then object_type (says_const p.specs) (local_base p.specs) p.stars [] else array_param (says_const p.specs) (local_base p.specs) p.stars []))) is)
    by dims false is =
        ap (λ (none : Bool). sort_in (type_or_int (if none then object_type (says_const p.specs) (local_base p.specs) p.stars [] else array_param (says_const p.specs) (local_base p.specs) p.stars dims))) is
        ∙ array_sort (says_const p.specs) (local_base p.specs) p.stars dims
        ∙ sym (ap (λ (none : Bool). sort_in (type_or_int (if none then object_type (says_const p.specs) (local_base p.specs) p.stars [] else array_param (says_const p.specs) (local_base p.specs) p.stars []))) is)

-- it has values
or_int_has : (of : Option CType) → IfThere HasValues of → HasValues (type_or_int of)
or_int_has None h = refl
or_int_has (Some of) h = h

array_has : (fixed : Bool) (b : Option Base) (stars : List Bool) → IfThere HasValues (array_param fixed b stars [])
array_has fixed None stars = tt
array_has fixed (Some base.Void) stars = tt
array_has fixed (Some (base.Of kind)) [] = refl
array_has fixed (Some (base.Of kind)) (star ∷ stars) = tt

pub param_has : (p : Param) → is_nothing (sort_of_param p) ≡ false
param_has p = or_int_has (param_type (says_const p.specs) (local_base p.specs) p []) (by (has_none p.dims))
  where
    by : (b : Bool) → IfThere HasValues (if b then object_type (says_const p.specs) (local_base p.specs) p.stars [] else array_param (says_const p.specs) (local_base p.specs) p.stars [])
    by true = object_has (says_const p.specs) (local_base p.specs) p.stars []
    by false = array_has (says_const p.specs) (local_base p.specs) p.stars

-- WHAT CALLS KNOW of a head
abbrev pub shape_of : Head → Callee
shape_of head = record { params = map sort_of_param (params_of head.params); result = sort_in (type_or_int (result_type head)) }

-- one more parameter
pub param_behind : (known : Known) (p : Param) (sorts : List Sort) → sorts_in (behind_param known p).variables ++ sorts ≡ sorts_in known.variables ++ sort_of_param p ∷ sorts
param_behind known p sorts =
    ap (λ (ss : List Sort). ss ++ sorts) (sorts_behind known.variables (record { place = p.place; of = type_of_param known.names p }))
    ∙ append_assoc (sorts_in known.variables) (sort_in (type_of_param known.names p) ∷ []) sorts
    ∙ ap (λ (s : Sort). sorts_in known.variables ++ s ∷ sorts) (param_sort known.names p)

ordered_sorts : (defines : Bool) (known : Known) (ps : List Param) → sorts_in (params_in_order defines known ps).after.variables ≡ sorts_in known.variables ++ map sort_of_param ps
unfolding param_judged
ordered_sorts defines known [] = sym (append-nil (sorts_in known.variables))
ordered_sorts defines known (p ∷ ps) = ordered_sorts defines (param_judged defines known p).after ps ∙ param_behind known p (map sort_of_param ps)

sorts_of_types : (vs : List Variable) → map sort_in (variable_types vs) ≡ sorts_in vs
sorts_of_types [] = refl
sorts_of_types (v ∷ vs) = ap (λ (ss : List Sort). sort_in v.of ∷ ss) (sorts_of_types vs)

pub signature_shape : (defined : List (List ℕ)) (names : Names) (head : Head) → shape (signature defined names head) ≡ shape_of head
signature_shape defined names head =
    let params : map sort_in (signature defined names head).params ≡ map sort_of_param (params_of head.params) =
    sorts_of_types (head_params false names head).after.variables ∙ ordered_sorts false (within_function names) (params_of head.params) in
    λ i. record { params = params i; result = sort_in (type_or_int (result_type head)) }

-- EQUAL TYPES have the same sort
pub same_sorts : (a b : CType) → same_type a b ≡ true → sort_in a ≡ sort_in b
same_sorts ctype.Void ctype.Void is = refl
same_sorts (ctype.Number j) (ctype.Number k) is = ap ANumber (one_kind j k is)
same_sorts (ctype.Pointer d) (ctype.Pointer e) is =
    ap APointer (one_kind d.kind e.kind (and_parts (same_kind d.kind e.kind) _ (and_parts (same_element d e) _ is).0).0)
same_sorts (ctype.Array m d) (ctype.Array n e) is =
    ap APointer (one_kind d.kind e.kind (and_parts (same_kind d.kind e.kind) _ (and_parts (same_element d e) _ (and_parts (nat_eq m n) (equal_element d e) is).1).0).0)
same_sorts _ _ is = absurd cc

all_same_sorts : (as_ bs : List CType) → same_types as_ bs ≡ true → map sort_in as_ ≡ map sort_in bs
all_same_sorts [] [] is = refl
all_same_sorts [] (b ∷ bs) is = absurd cc
all_same_sorts (a ∷ as_) [] is = absurd cc
all_same_sorts (a ∷ as_) (b ∷ bs) is =
    let parts = and_parts (same_type a b) (same_types as_ bs) is in
    λ i. same_sorts a b parts.0 i ∷ all_same_sorts as_ bs parts.1 i

same_shapes : (f g : Signature) → same_signature f g ≡ true → shape f ≡ shape g
same_shapes f g is =
    let parts = and_parts (same_type f.result g.result) (same_types f.params g.params) is in
    λ i. record { params = all_same_sorts f.params g.params parts.1 i; result = same_sorts f.result g.result parts.0 i }

-- A NAME, by the scopes that are known and by the items that follow: the function that it is, or that it will be declared as first
abbrev pub first_head : List Item → List ℕ → Option Callee
first_head [] x = None
first_head (item.Function p head body close ∷ items) x = if bytes_eq head.name x then Some (shape_of head) else first_head items x
first_head (item.Prototype p head ∷ items) x = if bytes_eq head.name x then Some (shape_of head) else first_head items x
first_head (item.Objects p specs list ∷ items) x = first_head items x

abbrev pub or_first : Option Meaning → Option Callee → Option Callee
or_first None rest = rest
or_first (Some (meaning.Variable n of fixed)) rest = rest
or_first (Some (meaning.Object n of fixed)) rest = rest
or_first (Some (meaning.Function s)) rest = Some (shape s)
or_first (Some (meaning.Library f)) rest = rest

abbrev pub settled : Names → List Item → List ℕ → Option Callee
settled names items x = or_first (meaning_here names x) (first_head items x)

-- a head that may be declared: its name is settled as before
head_settled : (defined : List (List ℕ)) (again : Bool) (names : Names) (head : Head) (o : Option Meaning) (rest : Option Callee) → MayDeclare (signature defined names head) again o
    → or_first o (Some (shape_of head)) ≡ Some (shape (signature defined names head))
head_settled defined again names head o rest may = by (signature defined names head) again o (signature_shape defined names head) may
  where
    by : (f : Signature) (b : Bool) (m : Option Meaning) → shape f ≡ shape_of head → MayDeclare f b m → or_first m (Some (shape_of head)) ≡ Some (shape f)
    by _ _ _ is (first_declared f c) = ap (λ (x : Callee). Some x) (sym is)
    by _ _ _ is (declared_alike f g same) = ap (λ (x : Callee). Some x) (sym (same_shapes f g same))

-- what a name is settled as stays where a head is declared
behind_head : (defined : List (List ℕ)) (again : Bool) (names : Names) (head : Head) (items : List Item) (x : List ℕ) → MayDeclare (signature defined names head) again (meaning_here names head.name)
    → settled (names_behind_head defined names head) items x ≡ or_first (meaning_here names x) (if bytes_eq head.name x then Some (shape_of head) else first_head items x)
behind_head defined again names head items x may =
    ap (λ (o : Option Meaning). or_first o (first_head items x)) (entered_here head.name (meaning.Function (signature defined names head)) names x) ∙ by (bytes_eq head.name x) refl
  where
    by : (b : Bool) → bytes_eq head.name x ≡ b
        → or_first (if b then Some (meaning.Function (signature defined names head)) else meaning_here names x) (first_head items x)
        ≡ or_first (meaning_here names x) (if b then Some (shape_of head) else first_head items x)
    by true is =
        sym (head_settled defined again names head (meaning_here names x) (first_head items x)
        (subst (λ (y : List ℕ). MayDeclare (signature defined names head) again (meaning_here names y)) (same_text head.name x (sym is)) may))
    by false is = refl

-- where a file object is declared: its name was none
no_meaning : (a b : Option Meaning) → (is_some a || is_some b) ≡ false → or_meaning a b ≡ None
no_meaning None None is = refl
no_meaning None (Some m) is = absurd cc
no_meaning (Some m) b is = absurd cc

not_twice : (names : Names) (x : List ℕ) → is_twice names x ≡ false → meaning_here names x ≡ None
not_twice [] x is = by (meaning_in library x) is
  where
    by : (o : Option Meaning) → is_some o ≡ false → o ≡ None
    by None same = refl
    by (Some m) same = absurd cc
not_twice (scope ∷ names) x is = no_meaning (meaning_in scope x) (meaning_in library x) is

behind_object : (names : Names) (y : List ℕ) (n : ℕ) (of : CType) (fixed : Bool) (items : List Item) (x : List ℕ) → is_twice names y ≡ false
    → settled (entered y (meaning.Object n of fixed) names) items x ≡ settled names items x
behind_object names y n of fixed items x twice =
    ap (λ (o : Option Meaning). or_first o (first_head items x)) (entered_here y (meaning.Object n of fixed) names x) ∙ by (bytes_eq y x) refl
  where
    by : (b : Bool) → bytes_eq y x ≡ b → or_first (if b then Some (meaning.Object n of fixed) else meaning_here names x) (first_head items x) ≡ or_first (meaning_here names x) (first_head items x)
    by true is = sym (ap (λ (o : Option Meaning). or_first o (first_head items x)) (not_twice names x (subst (λ (z : List ℕ). is_twice names z ≡ false) (same_text y x (sym is)) twice)))
    by false is = refl

object_new : (file : Bool) (s : Saying) (n : ℕ) (names : Names) (d : Declarator) (o : Object) → ElabObject file s n names d o → is_twice names o.name ≡ false
object_new _ _ _ _ _ _ (object file s n names d sizes of start init twice dims has declared gave is) = twice

objects_settled : (s : Saying) (known : FileKnown) (ds : List Declarator) (parts : Parts) (after : FileKnown) → ElabObjects s known ds parts after → (items : List Item) (x : List ℕ)
    → settled after.names items x ≡ settled known.names items x
objects_settled _ _ _ _ _ (no_objects s known) items x = refl
objects_settled _ _ _ _ _ (more_objects s known d ds o rest after a b) items x =
    objects_settled s (with_object known o) ds rest after b items x
    ∙ behind_object known.names o.name known.objects o.of o.fixed items x (object_new true s known.objects known.names d o a)

-- WHAT EACH ITEM LEAVES of what names are settled as
pub item_settled : (defined : List (List ℕ)) (known : FileKnown) (i : Item) (parts : Parts) (after : FileKnown) → ElabItem defined known i parts after → (items : List Item) (x : List ℕ)
    → settled after.names items x ≡ settled known.names (i ∷ items) x
item_settled _ _ _ _ _ (function defined known p head body close f a) items x =
    behind_head defined (is_name known.functions head.name) known.names head items x (function_may defined (is_name known.functions head.name) known.names p head body close f a)
item_settled _ _ _ _ _ (prototype_alone defined known p head a) items x = behind_head defined false known.names head items x (prototype_may defined known.names head a)
item_settled _ _ _ _ _ (objects defined known p specs list parts after a) items x = objects_settled (saying true specs) known list parts after a items x
