-- For contracts between crates: nobody has to believe it.
-- sin, cos and tan by the quarter turns in the angle and the rest.
use Rattle.std.specs.Prelude.{◌||◌, ◌%◌, ◌/◌, ◌==◌, if◌then◌else◌}
use Rattle.std.specs.Float.{Float, nan, float_is_finite}
use Rattle.std.specs.Float.Ieee.{neg}
use Rattle.k_math.specs.declared.pair.Pair.{Pair}
use Rattle.k_math.specs.declared.pair.TheConstants.{ONE}
use Rattle.k_math.specs.declared.reduction.Turn.{Turn}
use Rattle.k_math.specs.Tests.{is_tame_number}
use Rattle.k_math.specs.Pairs.{quotient_of}
use Rattle.k_math.specs.Powers.{signed_of}
use Rattle.k_math.specs.Circle.{sine_of, cosine_of}
use Rattle.k_math.specs.Reduction.{turn_of}

-- the sine of the rest, or behind an odd number of quarter turns its cosine
unfoldable pub along : Turn → Pair
along t = if t.quarter % 2 == 1 then cosine_of t.rest else sine_of t.rest

-- the cosine of the rest, or behind an odd number of quarter turns its sine
unfoldable pub across : Turn → Pair
across t = if t.quarter % 2 == 1 then sine_of t.rest else cosine_of t.rest

-- the sine of the angle: negative behind two quarter turns
unfoldable pub sin_by : Turn → Float
sin_by t = signed_of (t.quarter / 2 % 2 == 1) (along t).high

-- the cosine of the angle: negative in the second and third quarter
unfoldable pub cos_by : Turn → Float
cos_by t = signed_of (t.quarter == 1 || t.quarter == 2) (across t).high

-- the tangent of the angle: sine by cosine of the rest, or behind an odd number of quarter turns the other way round, with the other sign
unfoldable pub tan_by : Turn → Float
tan_by t =
    if t.quarter % 2 == 1 then neg (quotient_of (cosine_of t.rest) (sine_of t.rest)).high
    else (quotient_of (sine_of t.rest) (cosine_of t.rest)).high

-- `sin` of a double: the NaN for an infinity
unfoldable pub sin_of : Float → Float
sin_of x = if float_is_finite x then (if is_tame_number x then x else sin_by (turn_of x)) else nan

-- `cos` of a double: the NaN for an infinity
unfoldable pub cos_of : Float → Float
cos_of x = if float_is_finite x then (if is_tame_number x then ONE else cos_by (turn_of x)) else nan

-- `tan` of a double: the NaN for an infinity
unfoldable pub tan_of : Float → Float
tan_of x = if float_is_finite x then (if is_tame_number x then x else tan_by (turn_of x)) else nan
