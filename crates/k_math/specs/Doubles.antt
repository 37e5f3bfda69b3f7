-- For contracts between crates: nobody has to believe it.
-- The operators of Double (C17 F.3): each is the exact result, rounded once.
use Rattle.std.specs.Float.{Float, binary64}
use Rattle.std.specs.Float.Ieee.{add, sub, mul, div}

infixl 60 ◌+ᶠ◌ ◌-ᶠ◌
infixl 70 ◌*ᶠ◌ ◌/ᶠ◌
-- the sum of two doubles
abbrev pub ◌+ᶠ◌ : Float → Float → Float
x +ᶠ y = add binary64 x y

-- their difference
abbrev pub ◌-ᶠ◌ : Float → Float → Float
x -ᶠ y = sub binary64 x y

-- their product
abbrev pub ◌*ᶠ◌ : Float → Float → Float
x *ᶠ y = mul binary64 x y

-- their quotient
abbrev pub ◌/ᶠ◌ : Float → Float → Float
x /ᶠ y = div binary64 x y
