-- For contracts between crates: nobody has to believe it.
-- Powers of two by the exponent's field of a code (IEC 60559 3.4), and numbers times them.
use Rattle.std.specs.Prelude.{ℕ, zero, suc, ◌+◌, ◌-◌, ◌*◌, ◌/◌, ◌%◌, ◌^◌, ◌==◌, ℤ, pos, negsuc, ◌+ℤ◌, ◌-ℤ◌, int_lt, if◌then◌else◌}
use Rattle.std.specs.Float.{Float, float_zero}
use Rattle.std.specs.Float.Ieee.{eq}
use Rattle.k_real.specs.Codes.{real_of, code_of}
use Rattle.k_real.specs.Sizes.{field}
use Rattle.k_math.specs.declared.pair.Pair.{Pair}
use Rattle.k_math.specs.declared.pair.TheConstants.{ONE}
use Rattle.k_math.specs.declared.scaling.Parts.{Parts}
use Rattle.k_math.specs.Doubles.{◌+ᶠ◌, ◌-ᶠ◌, ◌*ᶠ◌}
use Rattle.k_math.specs.Pairs.{pair, exact_sum_of}

-- 2^k: the field is k above 1023
unfoldable pub power_up : ℕ → Float
power_up k = real_of ((1023 + k) * 2 ^ 52)

-- 2^-k
unfoldable pub power_down : ℕ → Float
power_down k = real_of ((1023 - k) * 2 ^ 52)

-- x times a number, n times
unfoldable pub repeated : ℕ → Float → Float → Float
repeated zero by x = x
repeated (suc n) by x = repeated n by x *ᶠ by

-- how often 1000 is taken off until an exponent is at most 1000
abbrev pub thousands : ℕ → ℕ
thousands k = (k - 1) / 1000

-- x * 2^k, by steps of 2^1000
unfoldable pub raised_of : Float → ℕ → Float
raised_of x k = repeated (thousands k) (power_up 1000) x *ᶠ power_up (k - 1000 * thousands k)

-- x * 2^-k
unfoldable pub lowered_of : Float → ℕ → Float
lowered_of x k = repeated (thousands k) (power_down 1000) x *ᶠ power_down (k - 1000 * thousands k)

-- x * 2^k
unfoldable pub scaled_of : Float → ℤ → Float
scaled_of x (pos k) = raised_of x k
scaled_of x (negsuc k) = lowered_of x (suc k)

-- both numbers of a pair times 2^k
unfoldable pub pair_scaled_of : Pair → ℤ → Pair
pair_scaled_of x k = pair (scaled_of x.high k) (scaled_of x.low k)

-- x = m 2^e with m from 1/2 to below 1, for a positive x: m has the field 1022 and x's other bits, and e is what x's field is above a bias
unfoldable pub parts_by : ℤ → ℕ → Parts
parts_by bias a = record { fraction = real_of (1022 * 2 ^ 52 + a % 2 ^ 52); exponent = pos (field a) -ℤ bias }

-- a subnormal number has no field of its own: it is taken 2^54 times
unfoldable pub parts_of : Float → Parts
parts_of x = if field (code_of x) == 0 then parts_by (pos 1076) (code_of (x *ᶠ power_up 54)) else parts_by (pos 1022) (code_of x)

-- x rounded to the grid of c, which is far above it
unfoldable pub rounded_on : Float → Pair → Float
rounded_on c x = let t = exact_sum_of c x.high in (t.high +ᶠ (t.low +ᶠ x.low)) -ᶠ c

-- x * 2^k rounded once where it is subnormal: 2^(-1022 - k) has the grid of the subnormal numbers over 2^k
unfoldable pub rounded_low : Pair → ℤ → Float
rounded_low x k = scaled_of (rounded_on (scaled_of ONE (negsuc 1021 -ℤ k)) x) k

-- where the exponent of x * 2^k is n
unfoldable pub rounded_at : ℤ → Pair → ℤ → Float
rounded_at n x k =
    if int_lt (negsuc 1021) n then scaled_of x.high k else
    (if int_lt n (negsuc 1099) then float_zero else rounded_low x k)

-- x * 2^k rounded to a double, for an x that is not negative
unfoldable pub rounded_of : Pair → ℤ → Float
rounded_of x k = if eq x.high float_zero then float_zero else rounded_at ((parts_of x.high).exponent +ℤ k) x k
