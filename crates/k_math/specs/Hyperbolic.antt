-- For contracts between crates: nobody has to believe it.
-- sinh, cosh and tanh from e^a and e^-a. The size of x counts, and is cut at 1000.
use Rattle.std.specs.Prelude.{◌||◌, pos, negsuc, ◌-ℤ◌, false, if◌then◌else◌}
use Rattle.std.specs.Float.{Float, inf, float_zero}
use Rattle.std.specs.Float.Ieee.{lt, is_nan}
use Rattle.k_math.specs.declared.pair.Pair.{Pair}
use Rattle.k_math.specs.declared.pair.TheConstants.{ONE}
use Rattle.k_math.specs.declared.hyperbolic.TheConstants.{SIZE_UP_TO, SMALL_UP_TO, LARGE_UP_TO}
use Rattle.k_math.specs.Tests.{size, is_tame_number}
use Rattle.k_math.specs.Pairs.{single, sum_of, negated_of, quotient_of}
use Rattle.k_math.specs.Scaling.{pair_scaled_of, rounded_of}
use Rattle.k_math.specs.Exponential.{exponential_of}
use Rattle.k_math.specs.Powers.{signed_of}

-- the size of x, at most 1000
abbrev pub cut_size : Float → Float
cut_size x = if lt SIZE_UP_TO (size x) then SIZE_UP_TO else size x

-- e^a
unfoldable pub growing : Float → Pair
growing a = let e = exponential_of (single a) in pair_scaled_of e.value e.power

-- 1 / p
unfoldable pub inverse_of : Pair → Pair
inverse_of p = quotient_of (single ONE) p

-- e^a / 2 for a large a, where e^-a is nothing beside it
unfoldable pub half_exponential : Float → Float
half_exponential a = let e = exponential_of (single a) in rounded_of e.value (e.power -ℤ pos 1)

-- e^a / 2, and the infinity where that is above every double
unfoldable pub large_of : Float → Float
large_of a = if lt LARGE_UP_TO a then inf false else half_exponential a

-- (p - 1/p) / 2, which is sinh a for p = e^a
unfoldable pub half_difference : Pair → Pair
half_difference p = pair_scaled_of (sum_of p (negated_of (inverse_of p))) (negsuc 0)

-- (p + 1/p) / 2, which is cosh a for p = e^a
unfoldable pub half_sum : Pair → Pair
half_sum p = pair_scaled_of (sum_of p (inverse_of p)) (negsuc 0)

-- (p - 1/p) / (p + 1/p), which is tanh a for p = e^a
unfoldable pub ratio : Pair → Pair
ratio p = quotient_of (sum_of p (negated_of (inverse_of p))) (sum_of p (inverse_of p))

-- sinh a of a size a
unfoldable pub sinh_of_size : Float → Float
sinh_of_size a = if lt SMALL_UP_TO a then large_of a else (half_difference (growing a)).high

-- cosh a of a size a
unfoldable pub cosh_of_size : Float → Float
cosh_of_size a = if lt SMALL_UP_TO a then large_of a else (half_sum (growing a)).high

-- tanh a of a size a: 1 where a is large
unfoldable pub tanh_of_size : Float → Float
tanh_of_size a = if lt SMALL_UP_TO a then ONE else (ratio (growing a)).high

-- `sinh` of a double
unfoldable pub sinh_of : Float → Float
sinh_of x = if is_nan x || is_tame_number x then x else signed_of (lt x float_zero) (sinh_of_size (cut_size x))

-- `cosh` of a double, which is the same for x and -x
unfoldable pub cosh_of : Float → Float
cosh_of x = if is_nan x then x else cosh_of_size (cut_size x)

-- `tanh` of a double
unfoldable pub tanh_of : Float → Float
tanh_of x = if is_nan x || is_tame_number x then x else signed_of (lt x float_zero) (tanh_of_size (cut_size x))
