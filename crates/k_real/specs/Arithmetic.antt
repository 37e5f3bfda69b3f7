-- For contracts between crates: nobody has to believe it.
-- *Real arithmetic* (C17 6.5.3.3, 6.5.5 to 6.5.9, F.3): each operation is the exact result, rounded once in its precision. None traps: what is divided by a zero
-- or too great is an infinity or the NaN.
use Rattle.std.specs.Prelude.{ℕ, Bool, not, if◌then◌else◌}
use Rattle.std.specs.Float.{Float, Format, float_zero}
use Rattle.std.specs.Float.Ieee.{add, sub, mul, div, neg, lt, le, eq, ne}
use Rattle.k_num.specs.declared.numbers.Bin.{Bin}
use Rattle.k_num.specs.declared.numbers.Bin.TheVariants.{Add, Sub, Mul, Div, Lt, Le, Gt, Ge, Eq}
use Rattle.k_num.specs.declared.numbers.Un.{Un}
use Rattle.k_num.specs.declared.numbers.Un.TheVariants.{Neg}
use Rattle.k_real.specs.declared.precision.Precision.{Precision}
use Rattle.k_real.specs.Codes.{format, real_of, code_of, rounded}

-- 1 where a test holds, and 0 where not (6.5.8p6, 6.5.9p3)
abbrev pub number : Bool → ℕ
number holds = if holds then 1 else 0

-- the code of what an operation makes of two reals in its precision; an operand of that precision is not changed by being rounded to it
abbrev pub made : (Format → Float → Float → Float) → Precision → ℕ → ℕ → ℕ
made op p a b = code_of (op (format p) (rounded p (real_of a)) (rounded p (real_of b)))

-- `+ - * /` give a code, and comparisons a number; beside the NaN all are 0 but `!=`, and the two zeros are equal. Whatever is no operator of reals counts as `!=`.
abbrev pub binary : Bin → Precision → ℕ → ℕ → ℕ
binary Add p a b = made add p a b
binary Sub p a b = made sub p a b
binary Mul p a b = made mul p a b
binary Div p a b = made div p a b
binary Lt p a b = number (lt (real_of a) (real_of b))
binary Le p a b = number (le (real_of a) (real_of b))
binary Gt p a b = number (lt (real_of b) (real_of a))
binary Ge p a b = number (le (real_of b) (real_of a))
binary Eq p a b = number (eq (real_of a) (real_of b))
binary op p a b = number (ne (real_of a) (real_of b))

-- whether a real is not a zero (6.3.1.2, 6.8.4.1p2): the NaN is none
abbrev pub truth : ℕ → Bool
truth a = ne (real_of a) float_zero

-- `-` turns the sign, of the NaN nothing; `!` is 1 for a zero and 0 otherwise; `~` is no operator of reals and counts as `!`
abbrev pub unary : Un → ℕ → ℕ
unary Neg a = code_of (neg (real_of a))
unary op a = number (not (truth a))
