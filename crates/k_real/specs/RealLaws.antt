-- Believed with a public law.
-- What holds of codes and of exact decimal texts.
use Rattle.std.specs.Prelude.{◌≡◌, ℕ, ◌*◌, ◌^◌, ◌<◌, ℤ}
use Rattle.std.specs.Float.{Float}
use Rattle.std.specs.Float.Ieee.{add, sub, mul, div, sqrt, neg, of_int}
use Rattle.std.specs.Float.Ieee.Positive.{num, den}
use Rattle.k_real.specs.declared.precision.Precision.{Precision}
use Rattle.k_real.specs.Codes.{format, real_of, code_of, rounded}
use Rattle.k_real.specs.Sizes.{field, exact, places}

-- the code of a real stands for it
abbrev pub IsHeld : Float → Type 0
IsHeld x = real_of (code_of x) ≡ x

-- so it is with whatever a code stands for, with what an operation makes in a precision, and with what a conversion makes
abbrev pub CodesAreHeld : Type 0
CodesAreHeld = (a : ℕ) → IsHeld (real_of a)

-- a sum, a difference, a product or a quotient loses nothing by its code
abbrev pub ResultsAreHeld : Type 0
ResultsAreHeld = (p : Precision) (x y : Float) → IsHeld (add (format p) x y) × IsHeld (sub (format p) x y) × IsHeld (mul (format p) x y) × IsHeld (div (format p) x y)

-- nor does what an integer or a real is converted to
abbrev pub ConvertedAreHeld : Type 0
ConvertedAreHeld = (p : Precision) (v : ℤ) (a : ℕ) → IsHeld (of_int (format p) v) × IsHeld (rounded p (real_of a))

-- nor does a negated real
abbrev pub NegatedAreHeld : Type 0
NegatedAreHeld = (a : ℕ) → IsHeld (neg (real_of a))

-- the size of a finite double is the number exact / 10 ^ places
abbrev pub ExpansionIsExact : Type 0
ExpansionIsExact = (a : ℕ) → field a < 2047 → num (real_of a) * 10 ^ places a ≡ exact a * den (real_of a)

-- what an operation makes in a precision is a real of it, so that to round it there once more changes nothing: a `float` stays one
abbrev pub IsOfPrecision : Precision → Float → Type 0
IsOfPrecision p x = rounded p x ≡ x

-- so it is with operators, and with what an integer or a real is converted to
abbrev pub ResultsAreOfPrecision : Type 0
ResultsAreOfPrecision =
    (p : Precision) (x y : Float)
    → IsOfPrecision p (add (format p) x y) × IsOfPrecision p (sub (format p) x y) × IsOfPrecision p (mul (format p) x y) × IsOfPrecision p (div (format p) x y) × IsOfPrecision p (sqrt (format p) x)

-- a conversion too is rounded once: what it gives is of the precision already
abbrev pub ConvertedAreOfPrecision : Type 0
ConvertedAreOfPrecision = (p : Precision) (v : ℤ) (a : ℕ) → IsOfPrecision p (of_int (format p) v) × IsOfPrecision p (rounded p (real_of a))
