-- For contracts between crates: nobody has to believe it.
-- The exponential functions: e^x is a sum of 27 terms at what is left of x beside the nearest multiple of ln 2, times a power of two.
use Rattle.std.specs.Prelude.{false, if◌then◌else◌, drop}
use Rattle.std.specs.Int.{w32}
use Rattle.std.specs.Float.{Float, inf, float_zero, float_to_signed}
use Rattle.std.specs.Float.Ieee.{neg, lt, is_nan}
use Rattle.k_math.specs.declared.pair.Pair.{Pair}
use Rattle.k_math.specs.declared.tables.TheConstants.{LN_2, LOG2_E, LN_2_FIRST, LN_2_SECOND, LN_2_THIRD, FACTORIALS}
use Rattle.k_math.specs.declared.exponential.Scaled.{Scaled}
use Rattle.k_math.specs.declared.exponential.TheConstants.{EXP_UP_TO, EXP_FROM, EXP2_UP_TO, EXP2_FROM}
use Rattle.k_math.specs.Doubles.{◌*ᶠ◌}
use Rattle.k_math.specs.Tests.{near}
use Rattle.k_math.specs.Pairs.{single, sum_of, product_of}
use Rattle.k_math.specs.Scaling.{rounded_of}
use Rattle.k_math.specs.Series.{series_of}

-- a less k times a double
unfoldable pub less_multiple : Pair → Float → Float → Pair
less_multiple a k l = sum_of a (single (neg (k *ᶠ l)))

-- a less k ln 2, in the three parts of ln 2
unfoldable pub reduced_by : Float → Pair → Pair
reduced_by k a = less_multiple (less_multiple (less_multiple a k LN_2_FIRST) k LN_2_SECOND) k LN_2_THIRD

-- e^a = value * 2^power, for an a below 800 in size, with the whole number k nearest to a / ln 2
unfoldable pub exponential_by : Float → Pair → Scaled
exponential_by k a = record { value = series_of (reduced_by k a) (drop 2 FACTORIALS); power = float_to_signed w32 k }

-- e^a = value * 2^power, where k is found from a
unfoldable pub exponential_of : Pair → Scaled
exponential_of a = exponential_by (near (a.high *ᶠ LOG2_E.high)) a

-- e^a rounded to a double
unfoldable pub exp_rounded : Pair → Float
exp_rounded a =
    if lt EXP_UP_TO a.high then inf false else
    (if lt a.high EXP_FROM then float_zero else (let e = exponential_of a in rounded_of e.value e.power))

-- `exp` of a double: beyond these limits infinite, or 0
unfoldable pub exp_of : Float → Float
exp_of x =
    if is_nan x then x else
    (if lt EXP_UP_TO x then inf false else (if lt x EXP_FROM then float_zero else exp_rounded (single x)))

-- `exp2` of a double: beyond these limits infinite, or 0
unfoldable pub exp2_of : Float → Float
exp2_of x =
    if is_nan x then x else
    (if lt EXP2_UP_TO x then inf false else (if lt x EXP2_FROM then float_zero else exp_rounded (product_of LN_2 (single x))))
