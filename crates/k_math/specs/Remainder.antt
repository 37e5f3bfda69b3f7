-- Believed with a public law.
-- `fmod` (C17 7.12.10.1): sizes of finite doubles as whole numbers of the least positive one, 2^-1074.
use Rattle.std.specs.Prelude.{◌≡◌, ◌<◌, ℕ, ◌+◌, ◌*◌, ◌^◌, true, false}
use Rattle.std.specs.Float.{Float, binary64, float_zero, float_is_finite, is_sign_negative}
use Rattle.std.specs.Float.Ieee.{round, rem, eq}
use Rattle.k_real.specs.Codes.{real_of, code_of}
use Rattle.k_real.specs.Sizes.{unit_places, significand, exponent}

-- the size of the finite double of a code, in these units
abbrev pub units : ℕ → ℕ
units a = significand a * 2 ^ exponent a

-- so many units as a double, rounded once
abbrev pub of_units : ℕ → Float
of_units n = round binary64 false n (2 ^ unit_places)

-- x - n y exactly, where n is the quotient x / y without its fraction, with the sign of x (7.12.10.1); all by codes
pub record IsRemainder (a b c : ℕ) : Type 0 where
  pub exact : (n : ℕ) × (units a ≡ n * units b + units c)
  pub below : units c < units b
  pub sign : is_sign_negative (real_of c) ≡ is_sign_negative (real_of a)

-- so it is with every two finite doubles of which the second is no zero, and the remainder is finite too
abbrev pub RemainderIsExact : Type 0
RemainderIsExact =
    (a b : ℕ) → float_is_finite (real_of a) ≡ true → float_is_finite (real_of b) ≡ true → eq (real_of b) float_zero ≡ false
    → IsRemainder a b (code_of (rem binary64 (real_of a) (real_of b))) × (float_is_finite (rem binary64 (real_of a) (real_of b)) ≡ true)
