-- What is printed for the least and the greatest numbers.
use Rattle.std.proofs.Common.{◌≡◌, ◌^◌, ◌-◌, [], ◌∷◌, ◌++◌, ℤ, pos, neg_ℤ, Ok, Err, true, false, refl}
use Rattle.std.specs.Prelude.{codes}
use Rattle.std.specs.Fmt.{digits, signed_decimal}
use Rattle.k_num.specs.declared.numbers.Kind.TheVariants.{U8, U64}
use Rattle.k_num.specs.Kind.{remainder}
use Rattle.k_ending.specs.declared.ending.Trap.TheVariants.{Uninit}
use Rattle.k_mem.specs.declared.pointer.Pointer.{Pointer}
use Rattle.k_world.specs.declared.act.Chunk.TheVariants.{Bytes, Byte, Decimal, Hex}
use Rattle.k_world.specs.declared.act.Out.TheVariants as out
use Rattle.k_world.specs.declared.value.Value.TheVariants as value
use Rattle.k_world.specs.Acts.{formatted, written, output_value}

-- `%d` of the least int
pub least_int : formatted (Decimal ∷ []) (value.Number (neg_ℤ (pos (2 ^ 31))) ∷ []) ≡ Ok (codes "-2147483648")
unfolding digits
least_int = refl

-- `%d` of the greatest int
pub greatest_int : formatted (Decimal ∷ []) (value.Number (pos (2 ^ 31 - 1)) ∷ []) ≡ Ok (codes "2147483647")
unfolding digits
greatest_int = refl

-- `%ld` of the least long
pub least_long : formatted (Decimal ∷ []) (value.Number (neg_ℤ (pos (2 ^ 63))) ∷ []) ≡ Ok (codes "-9223372036854775808")
unfolding digits
least_long = refl

-- `%lu` of the greatest unsigned long
pub greatest_unsigned : formatted (Decimal ∷ []) (value.Number (pos (2 ^ 64 - 1)) ∷ []) ≡ Ok (codes "18446744073709551615")
unfolding digits
greatest_unsigned = refl

-- `%x` of 0, of 255 and of the greatest unsigned long
pub zero_hex : formatted (Hex ∷ []) (value.Number (pos 0) ∷ []) ≡ Ok (codes "0")
unfolding digits
zero_hex = refl

pub byte_hex : formatted (Hex ∷ []) (value.Number (pos 255) ∷ []) ≡ Ok (codes "ff")
unfolding digits
byte_hex = refl

pub greatest_hex : formatted (Hex ∷ []) (value.Number (pos (2 ^ 64 - 1)) ∷ []) ≡ Ok (codes "ffffffffffffffff")
unfolding digits
greatest_hex = refl

-- a number that is negative or beyond 64 bits is taken modulo 2^64
pub negative_hex : formatted (Hex ∷ []) (value.Number (neg_ℤ (pos 2)) ∷ []) ≡ Ok (codes "fffffffffffffffe")
unfolding digits
negative_hex = refl

-- `%c` of -1, and of 321
pub negative_byte : formatted (Byte ∷ []) (value.Number (neg_ℤ (pos 1)) ∷ []) ≡ Ok (255 ∷ [])
negative_byte = refl

pub wide_byte : formatted (Byte ∷ []) (value.Number (pos 321) ∷ []) ≡ Ok (codes "A")
wide_byte = refl

-- each conversion takes the next argument, and one too many is left out
pub in_order : formatted (Decimal ∷ Bytes (codes " = ") ∷ Hex ∷ Bytes (codes "%") ∷ []) (value.Number (pos 10) ∷ value.Number (pos 10) ∷ value.Number (pos 1) ∷ [])
    ≡ Ok (codes "10 = a%")
unfolding digits
in_order = refl

-- a missing argument, and a pointer, are not set
pub missing : formatted (Decimal ∷ Decimal ∷ []) (value.Number (pos 10) ∷ []) ≡ Err Uninit
missing = refl

pub no_number : formatted (Decimal ∷ []) (value.Pointer (record { object = 0; offset = 0 }) ∷ []) ≡ Err Uninit
no_number = refl

-- the value of `putchar(-1)` is the byte that is written, and that of `printf` the count of bytes
pub put_value : output_value out.Byte (255 ∷ []) ≡ value.Number (pos 255)
put_value = refl

pub print_value : output_value (out.Format (Bytes (codes "ab") ∷ [])) (codes "ab") ≡ value.Number (pos 2)
print_value = refl

-- a line ends in a newline
pub line : written (out.Line (codes "ab")) [] ≡ Ok (codes "ab\n")
line = refl
