-- What holds of values, variables and objects stays where more objects were made.
use Rattle.std.proofs.Common.{◌≡◌, ℕ, zero, suc, pos, true, List, [], ◌∷◌, ◌++◌, length, slice_get, slice_set, Option, Some, None, refl, ap, subst}
use Rattle.std.proofs.lemmas.Option.{none-some, same_Some}
use Rattle.k_num.specs.declared.numbers.Kind.{Kind}
use Rattle.k_num.specs.declared.numbers.Kind.TheVariants.{I8, U8, I16, U16, I32, U32, I64, U64}
use Rattle.k_num.proofs.KindLaws.{zero_held}
use Rattle.k_types_meaning.specs.declared.tree.unit.TVariable.{TVariable}
use Rattle.k_types_meaning.specs.Types.{same_kind}
use Rattle.k_mem.specs.Memory.{Object}
use Rattle.k_world.specs.declared.value.Held.{Held}
use Rattle.k_world.specs.declared.value.Value.{Value}
use Rattle.k_world.specs.declared.value.Value.TheVariants as value
use Rattle.k_world.specs.Operands.{held_by}
use Rattle.k_evaluation_laws.specs.Kinds.{Sort, NoValue, ANumber, APointer, sort_of, kind_in, IsValue, IsIn, IsSlotOf, AreSlotsOf, IsObjectOf, AreObjectsOf, Grows}
use Rattle.k_evaluation_laws.proofs.Fits.{same, points, is_number, is_pointer, found}

-- SORTS
pub one_kind : (a b : Kind) → same_kind a b ≡ true → a ≡ b
one_kind I8 I8 is = refl
one_kind U8 U8 is = refl
one_kind I16 I16 is = refl
one_kind U16 U16 is = refl
one_kind I32 I32 is = refl
one_kind U32 U32 is = refl
one_kind I64 I64 is = refl
one_kind U64 U64 is = refl
one_kind _ _ is = absurd (cc is)

pub one_sort : (s t : Sort) → same s t ≡ true → s ≡ t
one_sort NoValue t is = absurd (cc is)
one_sort (ANumber a) NoValue is = absurd (cc is)
one_sort (ANumber a) (ANumber b) is = ap ANumber (one_kind a b is)
one_sort (ANumber a) (APointer b) is = absurd (cc is)
one_sort (APointer a) NoValue is = absurd (cc is)
one_sort (APointer a) (ANumber b) is = absurd (cc is)
one_sort (APointer a) (APointer b) is = ap APointer (one_kind a b is)

-- a pointer is one to what has this sort
pub points_to : (s t : Sort) → points s t ≡ true → s ≡ APointer (kind_in t)
points_to NoValue t is = absurd (cc is)
points_to (ANumber a) t is = absurd (cc is)
points_to (APointer a) NoValue is = absurd (cc is)
points_to (APointer a) (ANumber b) is = ap APointer (one_kind a b is)
points_to (APointer a) (APointer b) is = ap APointer (one_kind a b is)

pub found_sort : (o : Option Sort) (s : Sort) → found o s ≡ true → o ≡ Some s
found_sort None s is = absurd (cc is)
found_sort (Some t) s is = ap (λ (x : Sort). Some x) (one_sort t s is)

-- WHAT GROWS
pub grows_not : (kinds : List Kind) → Grows kinds kinds
grows_not kinds n kind is = is

pub grows_then : (a b c : List Kind) → Grows a b → Grows b c → Grows a c
grows_then a b c h k n kind is = k n kind (h n kind is)

pub grows_by : (kinds more : List Kind) → Grows kinds (kinds ++ more)
grows_by [] more n kind is = absurd (none-some kind is)
grows_by (k ∷ kinds) more zero kind is = is
grows_by (k ∷ kinds) more (suc n) kind is = grows_by kinds more n kind is

pub last_there : (kinds : List Kind) (kind : Kind) → slice_get (kinds ++ kind ∷ []) (length kinds) ≡ Some kind
last_there [] kind = refl
last_there (k ∷ kinds) kind = last_there kinds kind

-- VALUES
pub value_later : (kinds more : List Kind) (s : Sort) (v : Value) → Grows kinds more → IsValue kinds s v → IsValue more s v
value_later kinds more NoValue v grows h = tt
value_later kinds more (ANumber kind) (value.Number z) grows h = h
value_later kinds more (ANumber kind) (value.Pointer p) grows h = absurd h
value_later kinds more (APointer kind) (value.Number z) grows h = h
value_later kinds more (APointer kind) (value.Pointer p) grows h = (grows p.object kind h.0, h.1)

pub in_later : (kinds more : List Kind) (n : ℕ) (s : Sort) (v : Value) → Grows kinds more → IsIn kinds n s v → IsIn more n s v
in_later kinds more n NoValue v grows h = tt
in_later kinds more zero (ANumber kind) v grows h = value_later kinds more (ANumber kind) v grows h
in_later kinds more (suc n) (ANumber kind) v grows h = value_later kinds more (APointer kind) v grows h
in_later kinds more zero (APointer kind) v grows h = value_later kinds more (APointer kind) v grows h
in_later kinds more (suc n) (APointer kind) v grows h = value_later kinds more (APointer kind) v grows h

-- each kind holds 0, which stands for no value
pub nothing_is : (kinds : List Kind) (s : Sort) → IsValue kinds s (value.Number (pos 0))
nothing_is kinds NoValue = tt
nothing_is kinds (ANumber kind) = zero_held kind
nothing_is kinds (APointer kind) = zero_held kind

-- a value of its sort may be an argument of each variable
pub value_in : (kinds : List Kind) (n : ℕ) (s : Sort) (v : Value) → IsValue kinds s v → IsIn kinds n s v
value_in kinds n NoValue v h = tt
value_in kinds zero (ANumber kind) v h = h
value_in kinds (suc n) (ANumber kind) (value.Number z) h = h
value_in kinds (suc n) (ANumber kind) (value.Pointer p) h = absurd h
value_in kinds zero (APointer kind) v h = h
value_in kinds (suc n) (APointer kind) v h = h

-- a variable that is memory holds the pointer to its object
pub home_in : (kinds : List Kind) (count : ℕ) (s : Sort) (v : Value) → IsValue kinds (APointer (kind_in s)) v → IsIn kinds (suc count) s v
home_in kinds count NoValue v h = tt
home_in kinds count (ANumber kind) v h = h
home_in kinds count (APointer kind) v h = h

-- VARIABLES
pub slots_later : (kinds more : List Kind) (vs : List TVariable) (slots : List (Option Held)) → Grows kinds more → AreSlotsOf kinds vs slots → AreSlotsOf more vs slots
slots_later kinds more [] slots grows h = tt
slots_later kinds more (v ∷ vs) [] grows h = tt
slots_later kinds more (v ∷ vs) (None ∷ slots) grows h = (tt, slots_later kinds more vs slots grows h.1)
slots_later kinds more (v ∷ vs) (Some held ∷ slots) grows h =
    (in_later kinds more v.elements (sort_of v.of) held.value grows h.0, slots_later kinds more vs slots grows h.1)

-- a variable is set
pub slots_set : (kinds : List Kind) (vs : List TVariable) (slots : List (Option Held)) (n : ℕ) (slot : Option Held) → AreSlotsOf kinds vs slots
    → ((v : TVariable) → slice_get vs n ≡ Some v → IsSlotOf kinds v slot) → AreSlotsOf kinds vs (slice_set slots n slot)
slots_set kinds [] slots n slot h one = tt
slots_set kinds (v ∷ vs) [] n slot h one = tt
slots_set kinds (v ∷ vs) (x ∷ slots) zero slot h one = (one v refl, h.1)
slots_set kinds (v ∷ vs) (x ∷ slots) (suc n) slot h one = (h.0, slots_set kinds vs slots n slot h.1 one)

-- what a variable holds
pub slots_at : (kinds : List Kind) (vs : List TVariable) (slots : List (Option Held)) (n : ℕ) (v : TVariable) → AreSlotsOf kinds vs slots → slice_get vs n ≡ Some v
    → IsSlotOf kinds v (held_by (slice_get slots n))
slots_at kinds [] slots n v h there = absurd (none-some v there)
slots_at kinds (x ∷ vs) [] zero v h there = tt
slots_at kinds (x ∷ vs) [] (suc n) v h there = tt
slots_at kinds (x ∷ vs) (slot ∷ slots) zero v h there = subst (λ (y : TVariable). IsSlotOf kinds y slot) (same_Some x v there) h.0
slots_at kinds (x ∷ vs) (slot ∷ slots) (suc n) v h there = slots_at kinds vs slots n v h.1 there

-- OBJECTS
pub object_later : (kinds more : List Kind) (o : Object) → Grows kinds more → IsObjectOf kinds o → IsObjectOf more o
object_later kinds more o grows h = record { kind = h.kind; known = grows o.number h.kind h.known; numbers = h.numbers; small = h.small }

pub objects_later : (kinds more : List Kind) (objects : List Object) → Grows kinds more → AreObjectsOf kinds objects → AreObjectsOf more objects
objects_later kinds more [] grows h = tt
objects_later kinds more (o ∷ objects) grows h = (object_later kinds more o grows h.0, objects_later kinds more objects grows h.1)

-- a sort that is one with another has values
pub some_sort : (s t : Sort) → same s t ≡ true → s ≡ NoValue → ⊥
some_sort NoValue t is none = cc is
some_sort (ANumber kind) t is none = cc none
some_sort (APointer kind) t is none = cc none

pub number_sort : (s : Sort) → is_number s ≡ true → s ≡ ANumber (kind_in s)
number_sort NoValue is = absurd (cc is)
number_sort (ANumber kind) is = refl
number_sort (APointer kind) is = absurd (cc is)

pub pointer_sort : (s : Sort) → is_pointer s ≡ true → s ≡ APointer (kind_in s)
pointer_sort NoValue is = absurd (cc is)
pointer_sort (ANumber kind) is = absurd (cc is)
pointer_sort (APointer kind) is = refl
