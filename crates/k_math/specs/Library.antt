-- For contracts between crates: nobody has to believe it.
-- The functions of `math.h` on codes (C17 7.12): arguments are rounded to the precision, and so is the value.
use Rattle.std.specs.Prelude.{ℕ, Bool, false, ◌&&◌, ◌||◌, ℤ, Option, if◌then◌else◌}
use Rattle.std.specs.Float.{Float, binary64, nan, float_zero, float_with_sign, is_sign_negative, float_is_infinite, float_is_finite, floor, ceil, trunc, float_round, round_ties_even}
use Rattle.std.specs.Float.Ieee.{sub, rem, sqrt, lt, eq, is_nan}
use Rattle.k_num.specs.declared.numbers.Kind.TheVariants.{I64}
use Rattle.k_real.specs.declared.precision.Precision.{Precision}
use Rattle.k_real.specs.Codes.{format, real_of, code_of, rounded}
use Rattle.k_real.specs.Arithmetic.{number}
use Rattle.k_real.specs.Conversions.{whole_of}
use Rattle.k_math.specs.declared.library.ElementaryOne.{ElementaryOne}
use Rattle.k_math.specs.declared.library.ElementaryOne.TheVariants.{Exp, Exp2, Log, Log2, Log10, Cbrt, Sin, Cos, Tan, Asin, Acos, Atan, Sinh, Cosh, Tanh}
use Rattle.k_math.specs.declared.library.ElementaryPair.{ElementaryPair}
use Rattle.k_math.specs.declared.library.ElementaryPair.TheVariants.{Pow, Atan2, Hypot}
use Rattle.k_math.specs.declared.library.WholeBy.{WholeBy}
use Rattle.k_math.specs.declared.library.WholeBy.TheVariants.{Floor, Ceil, Trunc, Round, Rint}
use Rattle.k_math.specs.declared.library.ExactPair.{ExactPair}
use Rattle.k_math.specs.declared.library.ExactPair.TheVariants.{Least, Greatest, WithSign, Remainder}
use Rattle.k_math.specs.declared.library.RealTest.{RealTest}
use Rattle.k_math.specs.declared.library.RealTest.TheVariants.{IsNan, IsInf, IsFinite, SignBit}
use Rattle.k_math.specs.Exponential.{exp_of, exp2_of}
use Rattle.k_math.specs.Logarithm.{log_of, log2_of, log10_of}
use Rattle.k_math.specs.Powers.{pow_of}
use Rattle.k_math.specs.Arcs.{asin_of, acos_of, atan_of, atan2_of}
use Rattle.k_math.specs.Trigonometric.{sin_of, cos_of, tan_of}
use Rattle.k_math.specs.Hyperbolic.{sinh_of, cosh_of, tanh_of}
use Rattle.k_math.specs.Roots.{cbrt_of, hypot_of}

-- the real that an argument stands for in a precision
abbrev pub argument : Precision → ℕ → Float
argument p a = rounded p (real_of a)

-- the elementary functions of one double (C17 7.12.4 to 7.12.8); in Single they are rounded once more
unfoldable pub of_double : ElementaryOne → Float → Float
of_double Exp x = exp_of x
of_double Exp2 x = exp2_of x
of_double Log x = log_of x
of_double Log2 x = log2_of x
of_double Log10 x = log10_of x
of_double Cbrt x = cbrt_of x
of_double Sin x = sin_of x
of_double Cos x = cos_of x
of_double Tan x = tan_of x
of_double Asin x = asin_of x
of_double Acos x = acos_of x
of_double Atan x = atan_of x
of_double Sinh x = sinh_of x
of_double Cosh x = cosh_of x
of_double Tanh x = tanh_of x

-- an elementary function of one code in a precision, as a code
abbrev pub elementary_of : ElementaryOne → Precision → ℕ → ℕ
elementary_of f p a = code_of (rounded p (of_double f (argument p a)))

-- the elementary functions of two doubles (C17 7.12.7.4, 7.12.4.4, 7.12.7.3)
unfoldable pub of_doubles : ElementaryPair → Float → Float → Float
of_doubles Pow x y = pow_of x y
of_doubles Atan2 y x = atan2_of y x
of_doubles Hypot x y = hypot_of x y

-- one of these of two codes in a precision, as a code
abbrev pub elementary_pair_of : ElementaryPair → Precision → ℕ → ℕ → ℕ
elementary_pair_of f p a b = code_of (rounded p (of_doubles f (argument p a) (argument p b)))

-- the root, rounded once in the precision
abbrev pub root_value : Precision → ℕ → ℕ
root_value p a = code_of (sqrt (format p) (argument p a))

-- the size
abbrev pub size_value : Precision → ℕ → ℕ
size_value p a = code_of (float_with_sign false (argument p a))

-- x - y where x is above y, and else 0; the NaN where one is
abbrev pub excess : Precision → Float → Float → Float
excess p x y = if is_nan x || is_nan y then nan else (if lt y x then sub (format p) x y else float_zero)

-- `fdim` of two codes in a precision, as a code (C17 7.12.12.1)
abbrev pub excess_value : Precision → ℕ → ℕ → ℕ
excess_value p a b = code_of (excess p (argument p a) (argument p b))

-- a whole number of a precision is one of every other: below, above, toward zero, the nearest with ties away from zero, and with ties to even
unfoldable pub whole_near : WholeBy → Float → Float
whole_near Floor x = floor binary64 x
whole_near Ceil x = ceil binary64 x
whole_near Trunc x = trunc binary64 x
whole_near Round x = float_round binary64 x
whole_near Rint x = round_ties_even binary64 x

-- one of `floor ceil trunc round rint` of a code, as a code (C17 7.12.9)
abbrev pub whole_value : WholeBy → Precision → ℕ → ℕ
whole_value w p a = code_of (whole_near w (argument p a))

-- the same converted to `long`, where it is one
abbrev pub long_value : WholeBy → Precision → ℕ → Option ℤ
long_value w p a = whole_of I64 (whole_value w p a)

-- `fmin` of two reals: the other one beside the NaN, and -0.0 below 0.0 (C17 7.12.12.3)
unfoldable pub lesser : Float → Float → Float
lesser x y = if is_nan x then y else (if is_nan y then x else (if lt x y || (eq x y && is_sign_negative x) then x else y))

-- `fmax` of two reals (C17 7.12.12.2)
unfoldable pub greater : Float → Float → Float
greater x y = if is_nan x then y else (if is_nan y then x else (if lt y x || (eq x y && is_sign_negative y) then x else y))

-- these are exact, so they are the same in every precision
unfoldable pub chosen : ExactPair → Float → Float → Float
chosen Least x y = lesser x y
chosen Greatest x y = greater x y
chosen WithSign x y = float_with_sign (is_sign_negative y) x
chosen Remainder x y = rem binary64 x y

-- one of `fmin fmax copysign fmod` of two codes, as a code
abbrev pub exact_pair_value : ExactPair → Precision → ℕ → ℕ → ℕ
exact_pair_value f p a b = code_of (chosen f (argument p a) (argument p b))

-- 1 or 0 by what kind of real it is
unfoldable pub is_of : RealTest → Float → Bool
is_of IsNan x = is_nan x
is_of IsInf x = float_is_infinite x
is_of IsFinite x = float_is_finite x
is_of SignBit x = is_sign_negative x

-- one of `isnan isinf isfinite signbit` of a code, as the int 1 or 0 (C17 7.12.3)
abbrev pub test_value : RealTest → ℕ → ℕ
test_value s a = number (is_of s (real_of a))
