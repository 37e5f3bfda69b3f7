-- Believed with a public law.
-- *Shaped texts* (C17 7.21.6.1p4 to p8): what a conversion writes for its argument.
use Rattle.std.specs.Prelude.{ℕ, suc, ◌-◌, max, Bool, false, not, ◌&&◌, ◌==◌, if◌then◌else◌, List, [], ◌∷◌, ◌++◌, length, replicate, take, map, codes, Option, Some, None, ℤ, pos, int_lt, unsigned_abs}
use Rattle.std.specs.Option.{is_none}
use Rattle.std.specs.Char.{to_ascii_uppercase}
use Rattle.std.specs.Fmt.{digits}
use Rattle.std.specs.Float.{float_is_finite, is_sign_negative}
use Rattle.k_num.specs.Kind.{remainder}
use Rattle.k_num.specs.declared.numbers.Kind.TheVariants.{U8, U64}
use Rattle.k_real.specs.Codes.{real_of}
use Rattle.k_real.specs.Texts.{unsigned_text}
use Rattle.k_real.specs.Scientific.{unsigned_scientific}
use Rattle.k_real.specs.General.{unsigned_general}
use Rattle.k_shaped.specs.declared.shape.Shape.{Shape}
use Rattle.k_shaped.specs.Letters.{is_based, is_fixed, is_scientific, is_real, is_capital}
use Rattle.k_shaped.specs.Padding.{padded}

-- the precision, or what stands for it where none is given
abbrev pub precision_or : ℕ → Option ℕ → ℕ
precision_or p None = p
precision_or p (Some given) = given

-- `-` of a negative number, else a `+` or a blank where the flags ask for it, `+` before the blank
unfoldable pub sign : Shape → Bool → List ℕ
sign s negative = if negative then 45 ∷ [] else if s.plus then 43 ∷ [] else if s.space then 32 ∷ [] else []

-- `0x` or `0X` with `#`, but not of 0
unfoldable pub prefix : Shape → ℕ → List ℕ
prefix s v =
    if s.hash && not (v == 0) then (if s.conversion == 120 then codes "0x" else if s.conversion == 88 then codes "0X" else [])
    else []

-- the digits of a number, none of 0
unfoldable pub some_digits : ℕ → Bool → ℕ → List ℕ
some_digits base capital v = if v == 0 then [] else digits base capital v

-- `o` is base 8, `x` and `X` are base 16
unfoldable pub based_digits : ℕ → ℕ → List ℕ
based_digits c v = some_digits (if c == 111 then 8 else 16) (c == 88) v

-- how many digits there are at least: the precision, and 1 without one
abbrev pub least : Shape → ℕ
least s = precision_or 1 s.precision

-- `#o` raises that to one more than there are, so that the first is a 0
unfoldable pub raised : Shape → List ℕ → ℕ
raised s ds = if s.hash && s.conversion == 111 then max (least s) (suc (length ds)) else least s

-- digits behind so many zeros that there are at least so many
unfoldable pub at_least : ℕ → List ℕ → List ℕ
at_least many ds = replicate (many - length ds) 48 ++ ds

-- a sign or prefix and digits, padded: a precision turns the flag `0` off
unfoldable pub number_text : Shape → List ℕ → ℕ → List ℕ → List ℕ
number_text s head many ds = padded s.minus (s.zero && is_none s.precision) s.width head (at_least many ds)

-- `d i u`
unfoldable pub decimal_text : Shape → ℤ → List ℕ
decimal_text s a = number_text s (sign s (int_lt a (pos 0))) (least s) (some_digits 10 false (unsigned_abs a))

-- `o x X` of a number of 64 bits
unfoldable pub based_text : Shape → ℕ → List ℕ
based_text s v = number_text s (prefix s v) (raised s (based_digits s.conversion v)) (based_digits s.conversion v)

-- `c`: one byte
unfoldable pub byte_text : Shape → ℕ → List ℕ
byte_text s b = padded s.minus false s.width [] (b ∷ [])

-- a real without its sign, with a precision, in small letters
unfoldable pub real_digits : ℕ → ℕ → ℕ → List ℕ
real_digits c p a =
    if is_fixed c then unsigned_text p (real_of a)
    else if is_scientific c then unsigned_scientific p a (real_of a)
    else unsigned_general (max 1 p) a (real_of a)

-- `F E G` write capital letters
unfoldable pub in_case : ℕ → List ℕ → List ℕ
in_case c text = if is_capital c then map to_ascii_uppercase text else text

-- `f F e E g G` of the real that a code stands for, padded: zeros never stand before an infinity or a NaN
unfoldable pub real_text : Shape → ℕ → List ℕ
real_text s a =
    padded s.minus (s.zero && float_is_finite (real_of a)) s.width (sign s (is_sign_negative (real_of a)))
    (in_case s.conversion (real_digits s.conversion (precision_or 6 s.precision) a))

-- what a conversion writes for a number: `f F e E g G` for the real that it is the code of, `c` for it modulo 256, `o x X` for it modulo 2^64;
-- of a letter that takes no number, what `d` writes
unfoldable pub text : Shape → ℤ → List ℕ
text s a =
    if is_real s.conversion then real_text s (remainder U64 a)
    else if s.conversion == 99 then byte_text s (remainder U8 a)
    else if is_based s.conversion then based_text s (remainder U64 a)
    else decimal_text s a

-- the bytes of a string, which end before the first 0
abbrev pub before_zero : List ℕ → List ℕ
before_zero [] = []
before_zero (b ∷ bytes) = if b == 0 then [] else b ∷ before_zero bytes

-- at most as many bytes as the precision says
unfoldable pub cut : Option ℕ → List ℕ → List ℕ
cut None bytes = bytes
cut (Some p) bytes = take p bytes

-- `s`
unfoldable pub string_text : Shape → List ℕ → List ℕ
string_text s bytes = padded s.minus false s.width [] (cut s.precision (before_zero bytes))
