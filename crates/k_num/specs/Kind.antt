-- Believed with the theorem on the top call.
-- The kinds of whole numbers (C17 6.2.5, 6.3.1). A kind is told by its width n and by whether it is signed.
use Rattle.std.specs.Prelude.{ℕ, ◌-◌, ◌/◌, ◌^◌, Bool, true, false, ◌&&◌, nat_lt, if◌then◌else◌, ℤ, pos, neg_ℤ, ◌-ℤ◌, int_le, unsigned_abs}
use Rattle.std.specs.Int.{int_rem_euclid}
use Rattle.k_num.specs.declared.numbers.Kind.{Kind}
use Rattle.k_num.specs.declared.numbers.Kind.TheVariants.{I8, U8, I16, U16, I32, U32, I64, U64}

-- n, the number of bits (6.2.6.2, with two's complement and no padding)
abbrev pub width : Kind → ℕ
width I8 = 8
width U8 = 8
width I16 = 16
width U16 = 16
width I32 = 32
width U32 = 32
width I64 = 64
width U64 = 64

-- its size: how many bytes, of 8 bits each (6.5.3.4p2)
abbrev pub size : Kind → ℕ
size kind = width kind / 8

-- whether negative numbers are among its values (6.2.5p4, p6)
abbrev pub is_signed : Kind → Bool
is_signed I8 = true
is_signed U8 = false
is_signed I16 = true
is_signed U16 = false
is_signed I32 = true
is_signed U32 = false
is_signed I64 = true
is_signed U64 = false

-- its least value
abbrev pub least : Kind → ℤ
least kind = if is_signed kind then neg_ℤ (pos (2 ^ (width kind - 1))) else pos 0

-- its greatest value
abbrev pub greatest : Kind → ℤ
greatest kind = if is_signed kind then pos (2 ^ (width kind - 1) - 1) else pos (2 ^ width kind - 1)

-- the number is a value of the kind
abbrev pub is_held : Kind → ℤ → Bool
is_held kind v = int_le (least kind) v && int_le v (greatest kind)

-- the remainder of a number modulo 2^n: the n bits of a value in two's complement, read as a number (6.2.6.2p2)
abbrev pub remainder : Kind → ℤ → ℕ
remainder kind v = unsigned_abs (int_rem_euclid v (pos (2 ^ width kind)))

-- the value of the kind whose n bits are those of this number
abbrev pub value_of_bits : Kind → ℕ → ℤ
value_of_bits kind bits = if is_held kind (pos bits) then pos bits else pos bits -ℤ pos (2 ^ width kind)

-- conversion: the value of the kind that equals v modulo 2^n (6.3.1.3)
abbrev pub converted : Kind → ℤ → ℤ
converted kind v = value_of_bits kind (remainder kind v)

-- the integer promotions: a kind narrower than `int` becomes `int` (6.3.1.1p2)
abbrev pub promoted : Kind → Kind
promoted kind = if nat_lt (width kind) (width I32) then I32 else kind

-- the kind of the greater rank, and of two of one rank the unsigned one
abbrev pub higher : Kind → Kind → Kind
higher a b = if nat_lt (width a) (width b) then b else if nat_lt (width b) (width a) then a else if is_signed a then b else a

-- the usual arithmetic conversions: the kind that both operands are converted to (6.3.1.8)
abbrev pub common_kind : Kind → Kind → Kind
common_kind a b = higher (promoted a) (promoted b)
