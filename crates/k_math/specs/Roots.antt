-- For contracts between crates: nobody has to believe it.
-- cbrt as e^(ln x / 3), and hypot as the root of a sum of squares of numbers that are scaled.
use Rattle.std.specs.Prelude.{◌||◌, ℤ, neg_ℤ, false, if◌then◌else◌}
use Rattle.std.specs.Float.{Float, nan, inf, float_zero, float_is_infinite}
use Rattle.std.specs.Float.Ieee.{lt, eq, is_nan}
use Rattle.k_math.specs.declared.pair.Pair.{Pair}
use Rattle.k_math.specs.declared.roots.TheConstants.{THREE}
use Rattle.k_math.specs.Tests.{size}
use Rattle.k_math.specs.Pairs.{single, exact_product_of, sum_of, quotient_of, root_of}
use Rattle.k_math.specs.Scaling.{parts_of, scaled_of, rounded_of}
use Rattle.k_math.specs.Exponential.{exp_rounded}
use Rattle.k_math.specs.Logarithm.{log_of_positive}
use Rattle.k_math.specs.Powers.{signed_of}

-- of a positive finite number
unfoldable pub cbrt_of_size : Float → Float
cbrt_of_size a = exp_rounded (quotient_of (log_of_positive a) (single THREE))

-- `cbrt` of a double
unfoldable pub cbrt_of : Float → Float
cbrt_of x =
    if (is_nan x || eq x float_zero) || float_is_infinite x then x else signed_of (lt x float_zero) (cbrt_of_size (size x))

-- sqrt (a a + b b)
unfoldable pub hypotenuse : Float → Float → Pair
hypotenuse a b = root_of (sum_of (exact_product_of a a) (exact_product_of b b))

-- the same times 2^e, of sizes that are taken 2^-e times before
unfoldable pub hypot_by : ℤ → Float → Float → Float
hypot_by e a b = rounded_of (hypotenuse (scaled_of a (neg_ℤ e)) (scaled_of b (neg_ℤ e))) e

-- of two finite sizes, the first the greater, by its exponent
unfoldable pub hypot_ordered : Float → Float → Float
hypot_ordered a b = if eq b float_zero then a else hypot_by (parts_of a).exponent a b

-- the root of the sum of the squares of two finite sizes, in any order
unfoldable pub hypot_of_sizes : Float → Float → Float
hypot_of_sizes a b = if lt a b then hypot_ordered b a else hypot_ordered a b

-- `hypot` of two doubles: an infinity counts before the NaN
unfoldable pub hypot_of : Float → Float → Float
hypot_of x y =
    if float_is_infinite x || float_is_infinite y then inf false else
    (if is_nan x || is_nan y then nan else hypot_of_sizes (size x) (size y))
