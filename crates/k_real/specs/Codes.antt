-- Believed with a public law.
-- *Real*: the reals of a precision are the values of an IEEE 754 format (C17 F.2): the finite numbers, with a sign also at zero, two infinities, and
-- one NaN without sign or payload. Values of both formats are data of one type, so a `float` is the equal `double`.
use Rattle.std.specs.Prelude.{ℕ, to_bits, from_bits}
use Rattle.std.specs.Float.{Float, Format, binary32, binary64, round_to_format}
use Rattle.k_real.specs.declared.precision.Precision.{Precision}
use Rattle.k_real.specs.declared.precision.Precision.TheVariants.{Single, Double}

-- the format of a precision
abbrev pub format : Precision → Format
format Single = binary32
format Double = binary64

-- the real of a code: a code is its bits as a double, where those of the NaN are 0x7ff8000000000000
abbrev pub real_of : ℕ → Float
real_of code = from_bits binary64 code

-- the code of a real
abbrev pub code_of : Float → ℕ
code_of x = to_bits binary64 x

-- the nearest real of a precision, ties to even (6.3.1.5): a `double` is one already
abbrev pub rounded : Precision → Float → Float
rounded Single x = round_to_format binary32 x
rounded Double x = x
