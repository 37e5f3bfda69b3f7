-- Types of a source are small: each array in them has few elements, and so has each of its elements.
use Rattle.std.proofs.Common.{◌≡◌, ℕ, ℤ, pos, ◌*◌, ◌<◌, ◌≤◌, Bool, true, false, if◌then◌else◌, List, [], ◌∷◌, map, length, Option, Some, None, refl, sym, ◌∙◌, ap, subst, arith}
use Rattle.std.specs.Prelude.{int_le, is_some, nat_le, unsigned_abs}
use Rattle.std.proofs.Math.Nat.{mul-le-mul_left, mul-le-mul_right, mul_assoc}
use Rattle.std.proofs.lemmas.Bool.{leb-true, false≢true}
use Rattle.std.proofs.lemmas.Option.{none-some, same_Some, cond_some}
use Rattle.k_num.specs.declared.numbers.Kind.{Kind}
use Rattle.k_num.specs.declared.numbers.Kind.TheVariants.{I8, U8, I16, U16, I32, U32, I64, U64}
use Rattle.k_num.specs.Kind.{size}
use Rattle.k_tree.specs.declared.tokens.word.Word.{Word}
use Rattle.k_tree.specs.declared.tree.declaration.Declarator.{Declarator}
use Rattle.k_tree.specs.declared.tree.declaration.Param.{Param}
use Rattle.k_tree.specs.declared.tree.expression.Expr.{Expr}
use Rattle.k_tree.specs.declared.tree.unit.Head.{Head}
use Rattle.k_types_meaning.specs.declared.names.Meaning.{Meaning}
use Rattle.k_types_meaning.specs.declared.names.Meaning.TheVariants as meaning
use Rattle.k_types_meaning.specs.declared.types.Base.{Base}
use Rattle.k_types_meaning.specs.declared.types.Base.TheVariants as base
use Rattle.k_types_meaning.specs.declared.types.CType.{CType}
use Rattle.k_types_meaning.specs.declared.types.CType.TheVariants as ctype
use Rattle.k_types_meaning.specs.declared.types.Element.{Element}
use Rattle.k_types_meaning.specs.Constants.{constant}
use Rattle.k_types_meaning.specs.Declarations.{Object, Saying, declared_type, no_pointer, object_type, type_or_int, where_sized}
use Rattle.k_types_meaning.specs.Dimensions.{Dimension, Is, LeftOut, NoSize, Size, Sizes, all_sizes, dimension, dimensions, given_before, joined, object_sizes, param_sizes, size_before, size_of_constant, sizes_or_known, within_limit}
use Rattle.k_types_meaning.specs.ElaboratedDeclarators.{ElabObject, object}
use Rattle.k_types_meaning.specs.ElaboratedFunctions.{ElabParam, param}
use Rattle.k_types_meaning.specs.Expressions.{judge}
use Rattle.k_types_meaning.specs.Functions.{array_param, local_base, param_dims, param_type, result_type, has_none, sizes_or_none, type_of_param}
use Rattle.k_types_meaning.specs.Initialisers.{first_given}
use Rattle.k_types_meaning.specs.Made.{Fine, all_made}
use Rattle.k_types_meaning.specs.Names.{Names}
use Rattle.k_types_meaning.specs.Operands.{string_type}
use Rattle.k_types_meaning.specs.Operators.{ANumber, APointer, Nothing, Operand, operand}
use Rattle.k_types_meaning.specs.Specifiers.{base_of, says_const, says_static, starred, starred_option, type_named}
use Rattle.k_types_meaning.specs.Types.{as_type, decayed, elements, pointed, size_of}
use Rattle.k_types_meaning.proofs.Fine.{AllOf, Anything, IfFine, all_have, anything, then_has}

-- each of these dimensions and those behind it make few elements
abbrev pub AreSmall : List ℕ → Type 0
AreSmall [] = Unit {0}
AreSmall (d ∷ ds) = (elements (d ∷ ds) ≤ 8388608) × AreSmall ds

-- a type is small
abbrev pub SmallType : CType → Type 0
SmallType ctype.Void = Unit {0}
SmallType (ctype.Number kind) = Unit {0}
SmallType (ctype.Pointer e) = AreSmall e.dims
SmallType (ctype.Array n e) = AreSmall (n ∷ e.dims)

-- what a name means has a small type
abbrev pub SmallMeaning : Meaning → Type 0
SmallMeaning (meaning.Variable n of fixed) = SmallType of
SmallMeaning (meaning.Object n of fixed) = SmallType of
SmallMeaning (meaning.Function s) = SmallType s.result
SmallMeaning (meaning.Library function) = Unit {0}

-- an operand points to what is small
abbrev pub SmallOperand : Operand → Type 0
SmallOperand Nothing = Unit {0}
SmallOperand (ANumber kind) = Unit {0}
SmallOperand (APointer e) = AreSmall e.dims

pub element_small : (kind : Kind) (dims : List ℕ) (fixed : Bool) → AreSmall dims → SmallType (as_type kind dims fixed)
element_small kind [] fixed h = tt
element_small kind (d ∷ ds) fixed h = h

pub decayed_small : (of : CType) → SmallType of → SmallType (decayed of)
decayed_small ctype.Void h = tt
decayed_small (ctype.Number kind) h = tt
decayed_small (ctype.Pointer e) h = h
decayed_small (ctype.Array n e) h = h.1

pub pointed_small : (of : CType) → SmallType of → (d : Element) → pointed of ≡ Some d → AreSmall d.dims
pointed_small ctype.Void h d is = absurd (none-some d is)
pointed_small (ctype.Number kind) h d is = absurd (none-some d is)
pointed_small (ctype.Pointer e) h d is = subst (λ (x : Element). AreSmall x.dims) (same_Some e d is) h
pointed_small (ctype.Array n e) h d is = subst (λ (x : Element). AreSmall x.dims) (same_Some e d is) h.1

pub operand_small : (of : CType) → SmallType of → SmallOperand (operand of)
operand_small ctype.Void h = tt
operand_small (ctype.Number kind) h = tt
operand_small (ctype.Pointer e) h = h
operand_small (ctype.Array n e) h = h.1

pub string_small : (bytes : List ℕ) → length bytes ≤ 4194304 → SmallType (string_type bytes)
string_small bytes few = (omega (arith, few), tt)

-- THE SIZE of a small type
size_most : (kind : Kind) → size kind ≤ 8
size_most I8 = omega arith
size_most U8 = omega arith
size_most I16 = omega arith
size_most U16 = omega arith
size_most I32 = omega arith
size_most U32 = omega arith
size_most I64 = omega arith
size_most U64 = omega arith

scaled : (n count s : ℕ) → n * count ≤ 8388608 → s ≤ 8 → n * (count * s) < 134217728
scaled n count s few least =
    let same : n * count * s ≡ n * (count * s) = mul_assoc n count s in
    let most : n * count * s ≤ n * count * 8 = mul-le-mul_left (n * count) least in
    omega (arith, same, most, few)

pub size_small : (of : CType) → SmallType of → size_of of < 134217728
size_small ctype.Void h = omega arith
size_small (ctype.Number kind) h = let few = size_most kind in omega (arith, few)
size_small (ctype.Pointer e) h = omega arith
size_small (ctype.Array n e) h = scaled n (elements e.dims) (size e.kind) h.0 (size_most e.kind)

-- TYPES THAT ARE NAMED
starred_small : (fixed : Bool) (b : Base) (stars : List Bool) (of : CType) → starred fixed b stars ≡ Some of → SmallType of
starred_small fixed base.Void [] of is = subst SmallType (same_Some ctype.Void of is) tt
starred_small fixed base.Void (star ∷ stars) of is = absurd (none-some of is)
starred_small fixed (base.Of kind) [] of is = subst SmallType (same_Some (ctype.Number kind) of is) tt
starred_small fixed (base.Of kind) (star ∷ []) of is = subst SmallType (same_Some (ctype.Pointer (record { kind = kind; dims = []; fixed = fixed })) of is) tt
starred_small fixed (base.Of kind) (star ∷ other ∷ stars) of is = absurd (none-some of is)

option_small : (fixed : Bool) (b : Option Base) (stars : List Bool) (of : CType) → starred_option fixed b stars ≡ Some of → SmallType of
option_small fixed None stars of is = absurd (none-some of is)
option_small fixed (Some b) stars of is = starred_small fixed b stars of is

pub named_small : (specs : List Word) (stars : List Bool) (of : CType) → type_named specs stars ≡ Some of → SmallType of
named_small specs stars of = by (says_static specs)
  where
    by : (b : Bool) → (if b then None else starred_option (says_const specs) (base_of specs) stars) ≡ Some of → SmallType of
    by true is = absurd (none-some of is)
    by false is = option_small (says_const specs) (base_of specs) stars of is

or_int_small : (o : Option CType) → ((of : CType) → o ≡ Some of → SmallType of) → SmallType (type_or_int o)
or_int_small None h = tt
or_int_small (Some of) h = h of refl

pub result_small : (head : Head) → SmallType (type_or_int (result_type head))
result_small head = or_int_small (result_type head) (λ of is. option_small (says_const head.specs) (base_of head.specs) head.stars of is)

-- DIMENSIONS THAT ARE JUDGED are at least 1
abbrev IsPositive : Size → Type 0
IsPositive LeftOut = Unit {0}
IsPositive NoSize = Unit {0}
IsPositive (Is d) = 1 ≤ d

constant_positive : (o : Option ℤ) → IsPositive (size_of_constant o)
constant_positive None = tt
constant_positive (Some z) = by (int_le (pos 1) z) refl
  where
    one_or_more : (x : ℤ) → int_le (pos 1) x ≡ true → 1 ≤ unsigned_abs x
    one_or_more (pos n) e = leb-true 1 n e
    one_or_more x e = absurd (false≢true e)

    by : (b : Bool) → int_le (pos 1) z ≡ b → IsPositive (if b then Is (unsigned_abs z) else NoSize)
    by true e = one_or_more z e
    by false e = tt

abbrev SizePositive : Dimension → Type 0
SizePositive d = IsPositive d.size

dimension_positive : (names : Names) (o : Option Expr) → IfFine SizePositive (dimension names o)
dimension_positive names None = tt
dimension_positive names (Some e) =
    then_has Anything SizePositive (judge names e) (λ v. Fine (record { size = size_of_constant (constant v.tree); taken = v.taken })) (anything (judge names e)) (λ v h. constant_positive (constant v.tree))

each_positive : (names : Names) (dims : List (Option Expr)) → AllOf (IfFine SizePositive) (map (dimension names) dims)
each_positive names [] = tt
each_positive names (d ∷ dims) = (dimension_positive names d, each_positive names dims)

sizes_positive : (list : List Dimension) → AllOf SizePositive list → AllOf IsPositive (map (λ (d : Dimension). d.size) list)
sizes_positive [] h = tt
sizes_positive (d ∷ list) h = (h.0, sizes_positive list h.1)

pub judged_positive : (names : Names) (dims : List (Option Expr)) (found : Sizes) → dimensions names dims ≡ Fine found → AllOf IsPositive found.sizes
unfolding dimensions
judged_positive names dims found is =
    subst (IfFine (λ (s : Sizes). AllOf IsPositive s.sizes)) is
    (then_has (AllOf SizePositive) (λ (s : Sizes). AllOf IsPositive s.sizes) (all_made (map (dimension names) dims)) joined (all_have SizePositive (map (dimension names) dims) (each_positive names dims))
    (λ list h. sizes_positive list h))

-- SIZES WITHIN THE LIMIT make small types
abbrev ArePositive : List ℕ → Type 0
ArePositive ds = AllOf (λ d. 1 ≤ d) ds

before_positive : (d : ℕ) (o : Option (List ℕ)) (ds : List ℕ) → 1 ≤ d → ((es : List ℕ) → o ≡ Some es → ArePositive es) → size_before d o ≡ Some ds → ArePositive ds
before_positive d None ds one h is = absurd (none-some ds is)
before_positive d (Some es) ds one h is = subst ArePositive (same_Some (d ∷ es) ds is) (one, h es refl)

all_positive : (sizes : List Size) (ds : List ℕ) → AllOf IsPositive sizes → all_sizes sizes ≡ Some ds → ArePositive ds
all_positive [] ds h is = subst ArePositive (same_Some [] ds is) tt
all_positive (LeftOut ∷ sizes) ds h is = absurd (none-some ds is)
all_positive (NoSize ∷ sizes) ds h is = absurd (none-some ds is)
all_positive (Is d ∷ sizes) ds h is = before_positive d (all_sizes sizes) ds h.0 (λ es at. all_positive sizes es h.1 at) is

fewer : (d n : ℕ) → 1 ≤ d → d * n ≤ 8388608 → n ≤ 8388608
fewer d n one few =
    let more : 1 * n ≤ d * n = mul-le-mul_right n one in
    omega (arith, more, few)

small_all : (ds : List ℕ) → ArePositive ds → elements ds ≤ 8388608 → AreSmall ds
small_all [] h few = tt
small_all (d ∷ ds) h few = (few, small_all ds h.1 (fewer d (elements ds) h.0 few))

limit_small : (o : Option (List ℕ)) (ds : List ℕ) → ((es : List ℕ) → o ≡ Some es → ArePositive es) → within_limit o ≡ Some ds → AreSmall ds
limit_small None ds h is = absurd (none-some ds is)
limit_small (Some es) ds h is =
    let found = cond_some (nat_le (elements es) 4194304) es ds is in
    let few : elements es ≤ 4194304 = leb-true (elements es) 4194304 found.0 in
    subst AreSmall found.1 (small_all es (h es refl) (omega (arith, few)))

-- what an initialiser gives to a first dimension is at least 1
abbrev pub GivesSome : Option ℕ → Type 0
GivesSome None = Unit {0}
GivesSome (Some n) = 1 ≤ n

given_positive : (given : Option ℕ) (o : Option (List ℕ)) (ds : List ℕ) → GivesSome given → ((es : List ℕ) → o ≡ Some es → ArePositive es) → given_before given o ≡ Some ds → ArePositive ds
given_positive None o ds some h is = absurd (none-some ds is)
given_positive (Some n) o ds some h is = before_positive n o ds some h is

object_small : (sizes : List Size) (given : Option ℕ) (ds : List ℕ) → AllOf IsPositive sizes → GivesSome given → object_sizes sizes given ≡ Some ds → AreSmall ds
object_small [] given ds h some is = subst AreSmall (same_Some [] ds is) tt
object_small (LeftOut ∷ sizes) given ds h some is = limit_small (given_before given (all_sizes sizes)) ds (λ es at. given_positive given (all_sizes sizes) es some (λ fs found. all_positive sizes fs h.1 found) at) is
object_small (Is d ∷ sizes) given ds h some is = limit_small (size_before d (all_sizes sizes)) ds (λ es at. before_positive d (all_sizes sizes) es h.0 (λ fs found. all_positive sizes fs h.1 found) at) is
object_small (NoSize ∷ sizes) given ds h some is = absurd (none-some ds is)

type_small : (fixed : Bool) (b : Option Base) (stars : List Bool) (ds : List ℕ) (of : CType) → AreSmall ds → object_type fixed b stars ds ≡ Some of → SmallType of
type_small fixed None stars ds of h is = absurd (none-some of is)
type_small fixed (Some base.Void) stars ds of h is = absurd (none-some of is)
type_small fixed (Some (base.Of kind)) [] [] of h is = subst SmallType (same_Some (ctype.Number kind) of is) tt
type_small fixed (Some (base.Of kind)) [] (d ∷ ds) of h is = subst SmallType (same_Some (ctype.Array d (record { kind = kind; dims = ds; fixed = fixed })) of is) h
type_small fixed (Some (base.Of kind)) (star ∷ []) [] of h is = subst SmallType (same_Some (ctype.Pointer (record { kind = kind; dims = []; fixed = fixed })) of is) tt
type_small fixed (Some (base.Of kind)) (star ∷ []) (d ∷ ds) of h is = absurd (none-some of is)
type_small fixed (Some (base.Of kind)) (star ∷ other ∷ stars) ds of h is = absurd (none-some of is)

unpointed_small : (file : Bool) (o : Option CType) (of : CType) → ((x : CType) → o ≡ Some x → SmallType x) → no_pointer file o ≡ Some of → SmallType of
unpointed_small false o of h is = h of is
unpointed_small true None of h is = absurd (none-some of is)
unpointed_small true (Some ctype.Void) of h is = absurd (none-some of is)
unpointed_small true (Some (ctype.Number kind)) of h is = subst SmallType (same_Some (ctype.Number kind) of is) tt
unpointed_small true (Some (ctype.Pointer e)) of h is = absurd (none-some of is)
unpointed_small true (Some (ctype.Array n e)) of h is = subst SmallType (same_Some (ctype.Array n e) of is) (h (ctype.Array n e) refl)

-- DECLARED OBJECTS
sized_small : (file : Bool) (s : Saying) (sizes : Sizes) (d : Declarator) (of : CType) (o : Option (List ℕ)) → object_sizes sizes.sizes (first_given d.init) ≡ o → AllOf IsPositive sizes.sizes
    → GivesSome (first_given d.init) → declared_type file s (Fine sizes) d ≡ Some of → SmallType of
sized_small file s sizes d of None found h some is = absurd (none-some of (sym (ap (λ o. where_sized (is_some o) (no_pointer file (object_type s.fixed s.names_base d.stars (sizes_or_known sizes.sizes o)))) found) ∙ is))
sized_small file s sizes d of (Some ds) found h some is =
    unpointed_small file (object_type s.fixed s.names_base d.stars ds) of
    (λ x at. type_small s.fixed s.names_base d.stars ds x (object_small sizes.sizes (first_given d.init) ds h some found) at)
    (sym (ap (λ o. where_sized (is_some o) (no_pointer file (object_type s.fixed s.names_base d.stars (sizes_or_known sizes.sizes o)))) found) ∙ is)

pub declared_small : (file : Bool) (s : Saying) (n : ℕ) (names : Names) (d : Declarator) (o : Object) → GivesSome (first_given d.init) → ElabObject file s n names d o → SmallType o.of
declared_small _ _ _ _ _ _ some (object file s n names d sizes of start init twice dims has declared gave is) =
    sized_small file s sizes d of (object_sizes sizes.sizes (first_given d.init)) refl (judged_positive names d.dims sizes dims) some declared

-- PARAMETERS
param_small : (sizes : List Size) (ds : List ℕ) → AllOf IsPositive sizes → param_sizes sizes ≡ Some ds → AreSmall ds
param_small [] ds h is = subst AreSmall (same_Some [] ds is) tt
param_small (LeftOut ∷ sizes) ds h is = limit_small (all_sizes sizes) ds (λ es at. all_positive sizes es h.1 at) is
param_small (Is d ∷ sizes) ds h is = limit_small (all_sizes sizes) ds (λ es at. all_positive sizes es h.1 at) is
param_small (NoSize ∷ sizes) ds h is = absurd (none-some ds is)

array_small : (fixed : Bool) (b : Option Base) (stars : List Bool) (ds : List ℕ) (of : CType) → AreSmall ds → array_param fixed b stars ds ≡ Some of → SmallType of
array_small fixed None stars ds of h is = absurd (none-some of is)
array_small fixed (Some base.Void) stars ds of h is = absurd (none-some of is)
array_small fixed (Some (base.Of kind)) [] ds of h is = subst SmallType (same_Some (ctype.Pointer (record { kind = kind; dims = ds; fixed = fixed })) of is) h
array_small fixed (Some (base.Of kind)) (star ∷ stars) ds of h is = absurd (none-some of is)

param_type_small : (fixed : Bool) (b : Option Base) (p : Param) (ds : List ℕ) (of : CType) → AreSmall ds → param_type fixed b p ds ≡ Some of → SmallType of
param_type_small fixed b p ds of h = by (has_none p.dims)
  where
    by : (none : Bool) → (if none then object_type fixed b p.stars [] else array_param fixed b p.stars ds) ≡ Some of → SmallType of
    by true is = type_small fixed b p.stars [] of tt is
    by false is = array_small fixed b p.stars ds of h is

pub parameter_small : (defines : Bool) (names : Names) (p : Param) (of : CType) → ElabParam defines names p of → SmallType (type_of_param names p)
parameter_small _ _ _ _ (param defines names p sizes dims twice judged right has named) =
    let same : sizes_or_none (param_dims (dimensions names p.dims)) ≡ dims = ap (λ m. sizes_or_none (param_dims m)) judged ∙ ap sizes_or_none right in
    let h : AreSmall dims = param_small sizes.sizes dims (judged_positive names p.dims sizes judged) right in
    or_int_small (param_type (says_const p.specs) (local_base p.specs) p (sizes_or_none (param_dims (dimensions names p.dims))))
    (λ of is. param_type_small (says_const p.specs) (local_base p.specs) p (sizes_or_none (param_dims (dimensions names p.dims))) of (subst AreSmall (sym same) h) is)
