-- For contracts between crates: nobody has to believe it.
-- The quarter turns in an angle of any size, and the rest: its significand times 1,280 bits of 2/pi, in limbs of 64 bits, the lowest first.
use Rattle.std.specs.Prelude.{ℕ, Bool, zero, suc, ◌+◌, ◌-◌, ◌*◌, ◌/◌, ◌%◌, ◌^◌, ◌==◌, nat_le, get_or, pos, neg_ℤ, if◌then◌else◌}
use Rattle.std.specs.Int.{w64, leading_zeros}
use Rattle.std.specs.Float.{Float, binary64, float_zero}
use Rattle.std.specs.Float.Ieee.{lt, le, of_int}
use Rattle.k_real.specs.Codes.{code_of}
use Rattle.k_real.specs.Sizes.{field}
use Rattle.k_math.specs.declared.pair.Pair.{Pair}
use Rattle.k_math.specs.declared.tables.TheConstants.{HALF_PI, TWO_OVER_PI}
use Rattle.k_math.specs.declared.arcs.TheConstants.{QUARTER_PI}
use Rattle.k_math.specs.declared.reduction.Bits.{Bits}
use Rattle.k_math.specs.declared.reduction.Leading.{Leading}
use Rattle.k_math.specs.declared.reduction.Turn.{Turn}
use Rattle.k_math.specs.Tests.{size}
use Rattle.k_math.specs.Pairs.{single, ordered_sum_of, negated_of, product_of}
use Rattle.k_math.specs.Scaling.{scaled_of}

-- 64 bits of two limbs, from place s of the lower one on
unfoldable pub window : ℕ → ℕ → ℕ → ℕ
window low high s = (high * 2 ^ 64 + low) / 2 ^ s % 2 ^ 64

-- 64 bits of 2/pi from a place on; behind its last limb there are none
unfoldable pub ratio_at : ℕ → ℕ
ratio_at at = window (get_or TWO_OVER_PI (at / 64) 0) (get_or TWO_OVER_PI (at / 64 + 1) 0) (at % 64)

-- what goes over to limb i of m times these bits from place c on
unfoldable pub carried : ℕ → ℕ → ℕ → ℕ
carried m c zero = 0
carried m c (suc i) = (ratio_at (c + 64 * i) * m + carried m c i) / 2 ^ 64

-- limb i of that product
unfoldable pub limb : ℕ → ℕ → ℕ → ℕ
limb m c i = (ratio_at (c + 64 * i) * m + carried m c i) % 2 ^ 64

-- 64 bits of that product from a place on
unfoldable pub product_at : ℕ → ℕ → ℕ → ℕ
product_at m c at = window (limb m c (at / 64)) (limb m c (at / 64 + 1)) (at % 64)

-- of an angle m 2^(n - 53): the bits of 2/pi below this place are not needed
abbrev pub needed_from : ℕ → ℕ
needed_from n = 1011 - n

-- the lowest bit of the product that is taken
abbrev pub taken_from : ℕ → ℕ
taken_from n = 1077 - needed_from n - n

-- the quarter turns modulo 4, and 256 bits of the fraction behind them
unfoldable pub bits_by : ℕ → ℕ → ℕ → Bits
bits_by m c b = record {
  quarter = product_at m c (b + 256) % 4;
  first = product_at m c (b + 192);
  second = product_at m c (b + 128);
  third = product_at m c (b + 64);
  fourth = product_at m c b;
}

-- a fraction of at least one half counts down from the next quarter turn
unfoldable pub is_half : Bits → Bool
is_half z = nat_le (2 ^ 63) z.first

-- the next quarter turn, and what is missing up to it
unfoldable pub from_above : Bits → Bits
from_above z = record {
  quarter = (z.quarter % 4 + 1) % 4;
  first = 2 ^ 64 - 1 - z.first;
  second = 2 ^ 64 - 1 - z.second;
  third = 2 ^ 64 - 1 - z.third;
  fourth = 2 ^ 64 - 1 - z.fourth;
}

-- the fraction from its first limb that is not 0, and how many bits stand before that
unfoldable pub leading_of : Bits → Leading
leading_of z =
    if z.first == 0 then
    (if z.second == 0 then
    (if z.third == 0 then record { first = z.fourth; second = 0; third = 0; skipped = 192 }
    else record { first = z.third; second = z.fourth; third = 0; skipped = 128 })
    else record { first = z.second; second = z.third; third = z.fourth; skipped = 64 })
    else record { first = z.first; second = z.second; third = z.third; skipped = 0 }

-- two pieces of 53 bits from the first bit that is set, a and b the first 128 bits from there, each scaled to its place
unfoldable pub pieces_of : ℕ → ℕ → ℕ → Pair
pieces_of a b skipped =
    ordered_sum_of (scaled_of (of_int binary64 (pos (a / 2 ^ 11))) (neg_ℤ (pos (53 + skipped))))
    (scaled_of (of_int binary64 (pos (a % 2 ^ 11 * 2 ^ 42 + b / 2 ^ 22))) (neg_ℤ (pos (106 + skipped))))

-- the fraction from its first bit that is set, before which i zeros stand in the first limb, as a pair of doubles
unfoldable pub fraction_by : ℕ → Leading → Pair
fraction_by i l = pieces_of (window l.second l.first (64 - i)) (window l.third l.second (64 - i)) (l.skipped + i)

-- a fraction of a quarter turn as an angle
unfoldable pub angle_of : Leading → Pair
angle_of l = product_of (fraction_by (leading_zeros w64 l.first) l) HALF_PI

-- the nearest quarter turn, and the angle from it, which is negative where it was counted down
unfoldable pub turn_by : Bits → Turn
turn_by z =
    if is_half z then (let t = from_above z in record { quarter = t.quarter; rest = negated_of (angle_of (leading_of t)) })
    else record { quarter = z.quarter; rest = angle_of (leading_of z) }

-- of a size above pi/4, by its code
unfoldable pub turn_of_code : ℕ → Turn
turn_of_code a = let n = field a - 1022 in turn_by (bits_by (2 ^ 52 + a % 2 ^ 52) (needed_from n) (taken_from n))

-- x with the other sign
unfoldable pub turned_back : Turn → Turn
turned_back t = record { quarter = (4 - t.quarter) % 4; rest = negated_of t.rest }

-- x = quarter * pi/2 + rest, the quarter modulo 4
unfoldable pub turn_of : Float → Turn
turn_of x =
    if le (size x) QUARTER_PI then record { quarter = 0; rest = single x } else
    (if lt x float_zero then turned_back (turn_of_code (code_of (size x))) else turn_of_code (code_of (size x)))
