-- For contracts between crates: nobody has to believe it.
-- The inverse functions of the circle: atan by two halvings of the angle and 26 terms, above 1 as pi/2 - atan (1/x); the others from it.
use Rattle.std.specs.Prelude.{Bool, ◌||◌, pos, negsuc, ◌-ℤ◌, int_lt, if◌then◌else◌}
use Rattle.std.specs.Float.{Float, nan, float_zero, float_is_infinite, is_sign_negative}
use Rattle.std.specs.Float.Ieee.{neg, lt, eq, is_nan}
use Rattle.k_math.specs.declared.pair.Pair.{Pair}
use Rattle.k_math.specs.declared.pair.TheConstants.{ONE}
use Rattle.k_math.specs.declared.scaling.Parts.{Parts}
use Rattle.k_math.specs.declared.tables.TheConstants.{HALF_PI, PI, ODD_NUMBERS}
use Rattle.k_math.specs.declared.arcs.TheConstants.{ATAN_UP_TO, QUARTER_PI, THREE_QUARTERS_PI, MINUS_ONE}
use Rattle.k_math.specs.Doubles.{◌/ᶠ◌}
use Rattle.k_math.specs.Tests.{size, is_tame_number}
use Rattle.k_math.specs.Pairs.{single, exact_sum_of, sum_of, negated_of, product_of, quotient_of, root_of}
use Rattle.k_math.specs.Scaling.{parts_of, pair_scaled_of}
use Rattle.k_math.specs.Series.{series_of}
use Rattle.k_math.specs.Powers.{signed_of}

-- the tangent of half the angle: t / (1 + sqrt (1 + t t))
unfoldable pub half_angle : Pair → Pair
half_angle t = quotient_of t (sum_of (single ONE) (root_of (sum_of (single ONE) (product_of t t))))

-- atan t for a small t, by 26 terms
unfoldable pub atan_series : Pair → Pair
atan_series t = product_of (series_of (negated_of (product_of t t)) ODD_NUMBERS) t

-- four times that of a quarter of the angle, for a t of at most 1
unfoldable pub atan_of_small : Pair → Pair
atan_of_small t = pair_scaled_of (atan_series (half_angle (half_angle t))) (pos 2)

-- atan t, of a t that is not negative
unfoldable pub atan_pair_of : Pair → Pair
atan_pair_of t =
    if lt ONE t.high then sum_of HALF_PI (negated_of (atan_of_small (quotient_of (single ONE) t))) else atan_of_small t

-- of a size; what is above 10^30 has pi/2
unfoldable pub atan_of_size : Float → Float
atan_of_size a = if lt ATAN_UP_TO a then HALF_PI.high else (atan_pair_of (single a)).high

-- `atan` of a double
unfoldable pub atan_of : Float → Float
atan_of x = if is_nan x || is_tame_number x then x else signed_of (lt x float_zero) (atan_of_size (size x))

-- the angle whose sine is a, which is below 1: atan (a / sqrt ((1 - a) (1 + a)))
unfoldable pub asin_pair : Float → Pair
asin_pair a = atan_pair_of (quotient_of (single a) (root_of (product_of (exact_sum_of ONE (neg a)) (exact_sum_of ONE a))))

-- asin a of a size a of at most 1
unfoldable pub asin_of_size : Float → Float
asin_of_size a = if eq a ONE then HALF_PI.high else (asin_pair a).high

-- `asin` of a double: none above 1
unfoldable pub asin_of : Float → Float
asin_of x =
    if is_nan x || lt ONE (size x) then nan else
    (if is_tame_number x then x else signed_of (lt x float_zero) (asin_of_size (size x)))

-- the angle whose cosine is x: 2 atan (sqrt ((1 - x) / (1 + x)))
unfoldable pub acos_pair : Float → Pair
acos_pair x = pair_scaled_of (atan_pair_of (root_of (quotient_of (exact_sum_of ONE (neg x)) (exact_sum_of ONE x)))) (pos 1)

-- `acos` of a double
unfoldable pub acos_of : Float → Float
acos_of x =
    if is_nan x || lt ONE (size x) then nan else
    (if eq x ONE then float_zero else (if eq x MINUS_ONE then PI.high else (acos_pair x).high))

-- an angle from the positive side of x, or, where left says that x is negative, that angle taken from pi
unfoldable pub turned : Bool → Pair → Pair
turned left t = if left then sum_of PI (negated_of t) else t

-- the angle of a point with y above 0 whose sizes have these parts, by the quotient of their fractions, scaled by the difference of their exponents
unfoldable pub atan2_near : Bool → Parts → Parts → Float
atan2_near left y x =
    (turned left (atan_pair_of (pair_scaled_of (quotient_of (single y.fraction) (single x.fraction)) (y.exponent -ℤ x.exponent)))).high

-- a quotient of sizes beyond 2^100 is as good as infinite, one below 2^-100 as good as none
unfoldable pub atan2_by : Bool → Parts → Parts → Float → Float
atan2_by left y x q =
    if int_lt (pos 100) (y.exponent -ℤ x.exponent) then HALF_PI.high else
    (if int_lt (y.exponent -ℤ x.exponent) (negsuc 99) then (if left then PI.high else q) else atan2_near left y x)

-- both are infinite, or one of them, or none
abbrev pub atan2_far : Bool → Float → Float
atan2_far left a = if float_is_infinite a then (if left then THREE_QUARTERS_PI else QUARTER_PI) else (if left then PI.high else float_zero)

-- the angle of a point by the sizes of y and x, where neither is 0 or the NaN
unfoldable pub atan2_of_sizes : Bool → Float → Float → Float
atan2_of_sizes left a b =
    if float_is_infinite b then atan2_far left a else
    (if float_is_infinite a then HALF_PI.high else atan2_by left (parts_of a) (parts_of b) (a /ᶠ b))

-- of a point with y not below 0
unfoldable pub atan2_upper : Bool → Float → Float → Float
atan2_upper left a b =
    if eq a float_zero then (if left then PI.high else float_zero) else
    (if eq b float_zero then HALF_PI.high else atan2_of_sizes left a b)

-- `atan2` of two doubles
unfoldable pub atan2_of : Float → Float → Float
atan2_of y x = if is_nan x || is_nan y then nan else signed_of (is_sign_negative y) (atan2_upper (is_sign_negative x) (size y) (size x))
