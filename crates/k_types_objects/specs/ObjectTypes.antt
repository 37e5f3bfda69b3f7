-- For contracts between crates: nobody has to believe it.
-- The types of objects by their parts.
use Rattle.std.specs.Prelude.{ℕ, Bool, true, false, ◌&&◌, not, List, [], ◌∷◌, Option, Some, None}
use Rattle.k_num.specs.declared.numbers.Kind.{Kind}
use Rattle.k_types_meaning.specs.declared.types.CType.{CType}
use Rattle.k_types_meaning.specs.declared.types.CType.TheVariants as ctype

-- numbers of a kind in these dimensions
abbrev pub array_of : Bool → Kind → List ℕ → Option CType
array_of fixed kind [] = Some (ctype.Number kind)
array_of fixed kind (d ∷ ds) = Some (ctype.Array d (record { kind = kind; dims = ds; fixed = fixed }))

-- a pointer to a number of a kind, which has no dimensions
abbrev pub pointer_of : Bool → Kind → List ℕ → Option CType
pointer_of fixed kind [] = Some (ctype.Pointer (record { kind = kind; dims = []; fixed = fixed }))
pointer_of fixed kind (d ∷ ds) = None

-- no object at file scope has this type
abbrev pub is_no_file_type : CType → Bool
is_no_file_type ctype.Void = true
is_no_file_type (ctype.Number kind) = false
is_no_file_type (ctype.Pointer e) = true
is_no_file_type (ctype.Array count e) = false

-- an object may have these stars, and dimensions or none
abbrev pub may_have : Bool → List Bool → Bool → Bool
may_have file [] plain = true
may_have file (star ∷ []) plain = not file && plain
may_have file (star ∷ other ∷ stars) plain = false
