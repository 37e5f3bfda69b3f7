-- Believed with a public law.
-- The size of a finite double by its code: a number below 2 ^ 53 times a power of 2, in units of 2 ^ -1074.
use Rattle.std.specs.Prelude.{ℕ, ◌+◌, ◌*◌, ◌-◌, ◌/◌, ◌%◌, ◌^◌, ◌==◌, if◌then◌else◌}

-- the unit is 2 ^ -1074, the least positive double: so many halvings of 1
unfoldable pub unit_places : ℕ
unit_places = 1074

-- the 11 bits of the exponent (IEC 60559 3.4): 0 of a zero or a subnormal, 2047 of an infinity or a NaN
abbrev pub field : ℕ → ℕ
field a = a % 2 ^ 63 / 2 ^ 52

-- the digits of base 2: 52 bits, and a leading 1 before them where the double is normal
abbrev pub significand : ℕ → ℕ
significand a = if field a == 0 then a % 2 ^ 52 else 2 ^ 52 + a % 2 ^ 52

-- by how many powers of 2 its unit is above the least one: subnormals have that of the least normals
abbrev pub exponent : ℕ → ℕ
exponent a = field a - 1

-- how many digits its exact decimal text may have behind the point, and the text without the point
abbrev pub places : ℕ → ℕ
places a = unit_places - exponent a

-- the exact decimal text without its point: significand * 2 ^ (exponent - 1074) * 10 ^ places, a whole number
abbrev pub exact : ℕ → ℕ
exact a = significand a * 2 ^ (exponent a - unit_places) * 5 ^ places a
