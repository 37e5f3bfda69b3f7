-- For contracts between crates: nobody has to believe it.
-- `pow`: by squaring for a whole exponent of at most 64, and else e^(y ln x); the edges are those of C17 F.10.4.4.
use Rattle.std.specs.Prelude.{ℕ, zero, suc, ◌/◌, ◌%◌, ◌==◌, nat_lt, Bool, not, ◌&&◌, ◌||◌, false, if◌then◌else◌}
use Rattle.std.specs.Int.{w32}
use Rattle.std.specs.Float.{Float, nan, inf, float_zero, float_is_infinite, is_sign_negative, float_to_unsigned}
use Rattle.std.specs.Float.Ieee.{neg, lt, le, eq, is_nan}
use Rattle.k_math.specs.declared.pair.Pair.{Pair}
use Rattle.k_math.specs.declared.pair.TheConstants.{ONE}
use Rattle.k_math.specs.declared.powers.Squaring.{Squaring}
use Rattle.k_math.specs.declared.powers.TheConstants.{WHOLE_UP_TO, SQUARED_BELOW, POW_UP_TO, POW_FROM, NEAR_ONE}
use Rattle.k_math.specs.Doubles.{◌+ᶠ◌, ◌*ᶠ◌}
use Rattle.k_math.specs.Tests.{size, is_whole_number, is_odd_number}
use Rattle.k_math.specs.Pairs.{single, product_of, quotient_of}
use Rattle.k_math.specs.Exponential.{exp_rounded}
use Rattle.k_math.specs.Logarithm.{log_of_positive}

-- one step: the product takes in the base where the lowest bit of what is left is 1, and the base is squared
unfoldable pub squared_once : Squaring → Squaring
squared_once s =
    if s.left == 0 then s else record {
      product = if s.left % 2 == 1 then product_of s.product s.base else s.product;
      base = if nat_lt 1 s.left then product_of s.base s.base else s.base;
      left = s.left / 2;
    }

-- so many of these steps
unfoldable pub squared : ℕ → Squaring → Squaring
squared zero s = s
squared (suc k) s = squared_once (squared k s)

-- a^n, for an n below 2^7
unfoldable pub whole_power_of : Float → ℕ → Pair
whole_power_of a n = (squared 7 (record { product = single ONE; base = single a; left = n })).product

-- a^y for a whole y
unfoldable pub by_squaring : Float → Float → Float
by_squaring a y =
    let p = whole_power_of a (float_to_unsigned w32 (size y)) in
    if lt y float_zero then (quotient_of (single ONE) p).high else p.high

-- whether y is whole, and a^y and all powers on the way to it are far from both ends of the doubles
unfoldable pub goes_by_squaring : Float → Float → Pair → Bool
goes_by_squaring y t l = ((is_whole_number y && le (size y) WHOLE_UP_TO) && lt (size t) SQUARED_BELOW) && lt (size l.high) SQUARED_BELOW

-- e^(y l), where y l is about t
unfoldable pub by_exponential : Float → Float → Pair → Float
by_exponential y t l = if lt (size t) NEAR_ONE then ONE +ᶠ t else exp_rounded (product_of l (single y))

-- a^y of a power that a double can have, by squaring where y is a small whole number, else by the exponential
unfoldable pub pow_within : Float → Float → Float → Pair → Float
pow_within a y t l = if goes_by_squaring y t l then by_squaring a y else by_exponential y t l

-- a^y of a positive finite a, with l its logarithm and t about y l
unfoldable pub pow_by : Float → Float → Float → Pair → Float
pow_by a y t l = if lt POW_UP_TO t then inf false else (if lt t POW_FROM then float_zero else pow_within a y t l)

-- a^y of a positive finite a
unfoldable pub pow_of_positive : Float → Float → Float
pow_of_positive a y = let l = log_of_positive a in pow_by a y (y *ᶠ l.high) l

-- an infinity where it grows, and else 0
abbrev pub end_of : Bool → Float
end_of grows = if grows then inf false else float_zero

-- y is an infinity
unfoldable pub pow_to_infinity : Float → Float → Float
pow_to_infinity a y = if eq a ONE then ONE else (if lt float_zero y then end_of (lt ONE a) else end_of (not (lt ONE a)))

-- a is 0 or an infinity, or between
unfoldable pub pow_of_size : Float → Float → Float
pow_of_size a y =
    if eq a float_zero then end_of (lt y float_zero) else
    (if float_is_infinite a then end_of (not (lt y float_zero)) else pow_of_positive a y)

-- a negative number, which is no zero and no infinity, has powers to whole numbers alone
abbrev pub has_no_power : Float → Float → Bool
has_no_power x y = ((lt x float_zero && not (is_whole_number y)) && not (float_is_infinite x))

-- r, or -r
abbrev pub signed_of : Bool → Float → Float
signed_of negative r = if negative then neg r else r

-- x^y of a finite y, neither being the NaN: negative where x is and y is odd; a negative number has powers to whole numbers alone
unfoldable pub pow_of_number : Float → Float → Float
pow_of_number x y =
    if has_no_power x y then nan else signed_of (is_sign_negative x && is_odd_number y) (pow_of_size (size x) y)

-- `pow` of two doubles
unfoldable pub pow_of : Float → Float → Float
pow_of x y =
    if eq y float_zero || eq x ONE then ONE else
    (if is_nan x || is_nan y then nan else (if float_is_infinite y then pow_to_infinity (size x) y else pow_of_number x y))
