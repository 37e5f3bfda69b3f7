-- Believed with the theorem on the top call.
-- The types of the language, and what a run has to know of them (C17 6.2.5, 6.3).
use Rattle.std.specs.Prelude.{ℕ, ◌*◌, Bool, ◌&&◌, not, if◌then◌else◌, List, [], ◌∷◌, Option, Some, None}
use Rattle.std.specs.Str.{bytes_eq}
use Rattle.k_num.specs.declared.numbers.Kind.{Kind}
use Rattle.k_num.specs.contracts.numbers.KindPartialEq.TheImpl as kinds
use Rattle.k_num.specs.Kind.{size}
pub use Rattle.k_types_meaning.specs.Counts.{elements}
use Rattle.k_types_meaning.specs.declared.types.Element.{Element}
use Rattle.k_types_meaning.specs.declared.types.CType.{CType}
use Rattle.k_types_meaning.specs.declared.types.CType.TheVariants as ctype
use Rattle.k_types_meaning.specs.declared.types.TType.{TType}
use Rattle.k_types_meaning.specs.declared.types.TType.TheVariants as ttype

-- two kinds are one
abbrev pub same_kind : Kind → Kind → Bool
same_kind a b = kinds.ghosts.eq a b

-- C17 6.2.7: two elements are equal, whether const or not
abbrev pub same_element : Element → Element → Bool
same_element a b = same_kind a.kind b.kind && bytes_eq a.dims b.dims

-- C17 6.2.7: two elements are equal, const or not among it
abbrev pub equal_element : Element → Element → Bool
equal_element a b = same_element a b && (if a.fixed then b.fixed else not b.fixed)

-- C17 6.3.2.1p3: an array counts as the pointer to its first element
abbrev pub decayed : CType → CType
decayed ctype.Void = ctype.Void
decayed (ctype.Number kind) = ctype.Number kind
decayed (ctype.Pointer e) = ctype.Pointer e
decayed (ctype.Array count e) = ctype.Pointer e

-- the kind of a number
abbrev pub number_kind : CType → Option Kind
number_kind ctype.Void = None
number_kind (ctype.Number kind) = Some kind
number_kind (ctype.Pointer e) = None
number_kind (ctype.Array count e) = None

-- the element of a pointer, and of an array
abbrev pub pointed : CType → Option Element
pointed ctype.Void = None
pointed (ctype.Number kind) = None
pointed (ctype.Pointer e) = Some e
pointed (ctype.Array count e) = Some e

-- what an element is as an expression: a number, or an array of what its first dimension leaves
abbrev pub as_type : Kind → List ℕ → Bool → CType
as_type kind [] fixed = ctype.Number kind
as_type kind (d ∷ ds) fixed = ctype.Array d (record { kind = kind; dims = ds; fixed = fixed })

-- C17 6.5.3.4: the size of a type in bytes; a pointer has 8
abbrev pub size_of : CType → ℕ
size_of ctype.Void = 0
size_of (ctype.Number kind) = size kind
size_of (ctype.Pointer e) = 8
size_of (ctype.Array count e) = count * (elements e.dims * size e.kind)

-- how many elements an object of a type has
abbrev pub count_of : CType → ℕ
count_of ctype.Void = 1
count_of (ctype.Number kind) = 1
count_of (ctype.Pointer e) = 1
count_of (ctype.Array count e) = count * elements e.dims

-- what a run knows of a pointer to an element
abbrev pub pointer_to : Element → TType
pointer_to e = ttype.Pointer (record { kind = e.kind; elements = elements e.dims })

-- what a run knows of a type
abbrev pub told : CType → TType
told ctype.Void = ttype.Void
told (ctype.Number kind) = ttype.Number kind
told (ctype.Pointer e) = pointer_to e
told (ctype.Array count e) = pointer_to e
