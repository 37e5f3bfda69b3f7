-- For contracts between crates: nobody has to believe it.
-- Numbers of 106 bits as pairs of doubles, high + low, and their arithmetic by operations of Double (Dekker).
use Rattle.std.specs.Prelude.{if◌then◌else◌}
use Rattle.std.specs.Float.{Float, binary64, float_zero}
use Rattle.std.specs.Float.Ieee.{neg, eq, sqrt}
use Rattle.k_math.specs.declared.pair.Pair.{Pair}
use Rattle.k_math.specs.declared.pair.TheConstants.{SPLITTER, TWO}
use Rattle.k_math.specs.Doubles.{◌+ᶠ◌, ◌-ᶠ◌, ◌*ᶠ◌, ◌/ᶠ◌}

-- high + low
abbrev pub pair : Float → Float → Pair
pair h l = record { high = h; low = l }

-- a double
abbrev pub single : Float → Pair
single x = pair x float_zero

-- a sum s and what its rounding left out, where the first is not the lesser in size
unfoldable pub ordered_sum_of : Float → Float → Pair
ordered_sum_of a b = let s = a +ᶠ b in pair s (b -ᶠ (s -ᶠ a))

-- the same for any two, where t is what b gave to the sum
unfoldable pub exact_sum_of : Float → Float → Pair
exact_sum_of a b = let s = a +ᶠ b in let t = s -ᶠ a in pair s ((a -ᶠ (s -ᶠ t)) +ᶠ (b -ᶠ t))

-- a number as two of 26 bits each
unfoldable pub halves_of : Float → Pair
halves_of a = let t = SPLITTER *ᶠ a in let h = t -ᶠ (t -ᶠ a) in pair h (a -ᶠ h)

-- a product p, and what its rounding left out by the products of the halves
unfoldable pub lost_by : Float → Pair → Pair → Float
lost_by p a b = ((a.high *ᶠ b.high -ᶠ p) +ᶠ a.high *ᶠ b.low +ᶠ a.low *ᶠ b.high) +ᶠ a.low *ᶠ b.low

-- a product, and what its rounding left out
unfoldable pub exact_product_of : Float → Float → Pair
exact_product_of a b = let p = a *ᶠ b in pair p (lost_by p (halves_of a) (halves_of b))

-- the sums of the highs and of the lows, put together
unfoldable pub joined_sums : Pair → Pair → Pair
joined_sums s t = let v = ordered_sum_of s.high (s.low +ᶠ t.high) in ordered_sum_of v.high (t.low +ᶠ v.low)

-- x + y
unfoldable pub sum_of : Pair → Pair → Pair
sum_of x y = joined_sums (exact_sum_of x.high y.high) (exact_sum_of x.low y.low)

-- -x
unfoldable pub negated_of : Pair → Pair
negated_of x = pair (neg x.high) (neg x.low)

-- x * y, but for the product of the lows
unfoldable pub product_of : Pair → Pair → Pair
product_of x y = let p = exact_product_of x.high y.high in ordered_sum_of p.high (p.low +ᶠ (x.high *ᶠ y.low +ᶠ x.low *ᶠ y.high))

-- x less y times a double
unfoldable pub less_times : Pair → Pair → Float → Pair
less_times x y a = sum_of x (negated_of (product_of y (single a)))

-- x / y: three quotients of the highs, each of what the ones before it left
unfoldable pub quotient_of : Pair → Pair → Pair
quotient_of x y =
    let a = x.high /ᶠ y.high in
    let r = less_times x y a in
    let b = r.high /ᶠ y.high in
    let c = (less_times r y b).high /ᶠ y.high in
    sum_of (ordered_sum_of a b) (single c)

-- the root: that of the high, and one step of Newton's
unfoldable pub root_from : Pair → Float → Pair
root_from x s = ordered_sum_of s ((sum_of x (negated_of (exact_product_of s s))).high /ᶠ (TWO *ᶠ s))

-- the root of a pair, 0 of 0
unfoldable pub root_of : Pair → Pair
root_of x = if eq x.high float_zero then single float_zero else root_from x (sqrt binary64 x.high)
