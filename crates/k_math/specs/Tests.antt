-- For contracts between crates: nobody has to believe it.
-- Sizes and signs of doubles, and which are whole numbers.
use Rattle.std.specs.Prelude.{Bool, false, ◌&&◌, ◌||◌, not}
use Rattle.std.specs.Float.{Float, float_with_sign}
use Rattle.std.specs.Float.Ieee.{eq, le, lt}
use Rattle.k_math.specs.declared.doubles.TheConstants.{HALF, NEAREST, UNITS_FROM, TWOS_FROM, TAME}
use Rattle.k_math.specs.Doubles.{◌+ᶠ◌, ◌-ᶠ◌, ◌*ᶠ◌}

-- x without its sign
abbrev pub size : Float → Float
size x = float_with_sign false x

-- the nearest whole number, of an x below 2^51: 1.5 * 2^52 more, there are no fractions
abbrev pub near : Float → Float
near x = (x +ᶠ NEAREST) -ᶠ NEAREST

-- whether x is a whole number: from 2^52 on all are
unfoldable pub is_whole_number : Float → Bool
is_whole_number x = le UNITS_FROM (size x) || eq (near x) x

-- whether it is odd: from 2^53 on none is
unfoldable pub is_odd_number : Float → Bool
is_odd_number x = is_whole_number x && lt (size x) TWOS_FROM && not (is_whole_number (x *ᶠ HALF))

-- whether it is so small, below 2^-27, that sin x, tan x and others round to x
abbrev pub is_tame_number : Float → Bool
is_tame_number x = lt (size x) TAME
