-- A number of which the first digits are known, rounded to a format: H and L / c, times 2 ^ a / 2 ^ b, in units of the format's least value.
use Rattle.std.specs.Prelude.{◌≡◌, ◌+◌, ◌*◌, ◌-◌, ◌/◌, ◌%◌, ◌^◌, ◌<◌, ◌≤◌, ℕ, suc, Bool, true, false, pos}
use native.Mathlib.Nat.{mod-lt, div-add-mod', div-div-eq-div-mul, mul-div_cancel, mul-mod_left, mul-add-mod_self_left, mod-eq_of_lt, div-eq_of_lt, le-div_iff_mul-le, div-lt_iff_lt-mul, mul_right_comm, mul-pos, mul-le-mul_right, mul-lt-mul_of_pos_right, lt_of_lt_of_le, le_trans, not-le_of_lt, suc-mul, mul_left_comm, mul-mul-mul_comm}
use Rattle.std.proofs.Common.{refl, ap, sym, subst, ◌∙◌, arith, add-mul, mul_assoc, mul_comm, mul-one, ltb-true, ltb-false}
use lib.Pow.{pow-add, pow_pos, pow_mono}
use lib.Dec.{ltb}
use Prim.Native.Nat.{compare}
use Rattle.std.specs.Float.{Format, binary32, binary64, fin, inf}
use mathlib.Core.Bool.{cond}
use Rattle.std.specs.Float.Ieee.{size, prec, low, emax, nearest, round, units, odd}
use Rattle.std.specs.Float.Ieee.Digits.{size-lt, size_reaches, size-le}
use Rattle.std.specs.Float.Ieee.Fits.{round_is, nearest-le, kept-lt, two}
use Rattle.std.specs.Float.Ieee.Nearest.{closest, closest_same, div_same, nearest-ge}
use Rattle.k_real.proofs.RoundingLaws.{compare_less, compare_more, compare_same}

-- ---- how many digits of base 2

pub size_above : (n j : ℕ) → 2 ^ j ≤ n → j < size n
size_above n j h = go (ltb j (size n)) refl
  where
    go : (b : Bool) → ltb j (size n) ≡ b → j < size n
    go true e = ltb-true j (size n) e
    go false e = absurd (not-le_of_lt (lt_of_lt_of_le (size-lt n) (pow_mono (omega (arith, ltb-false j (size n) e)))) h)

pub between : (n z : ℕ) → 0 < z → 2 ^ (z - 1) ≤ n → n < 2 ^ z → size n ≡ z
between n z p l h = let a = size-le n z h in let b = size_above n (z - 1) l in omega (arith, a, b)

none : size 0 ≡ 0
none = let a = size-le 0 0 (pow_pos 0) in omega (arith, a)

size_shifted : (n z b : ℕ) → 0 < z → 2 ^ (z - 1) ≤ n → n < 2 ^ z → size (n / 2 ^ b) ≡ z - b
size_shifted n z b p l h = go (ltb b z) refl
  where
    go : (t : Bool) → ltb b z ≡ t → size (n / 2 ^ b) ≡ z - b
    go true e =
        let less = ltb-true b z e in
        let low_sum : (z - b - 1) + b ≡ z - 1 = omega (arith, less) in
        let high_sum : (z - b) + b ≡ z = omega (arith, less) in
        between (n / 2 ^ b) (z - b) (omega (arith, less)) ((le-div_iff_mul-le (pow_pos b)).1 (subst (λ w. w ≤ n) (sym (sym (pow-add 2 (z - b - 1) b) ∙ ap (λ w. 2 ^ w) low_sum)) l))
        ((div-lt_iff_lt-mul (pow_pos b)).1 (subst (λ w. n < w) (sym (sym (pow-add 2 (z - b) b) ∙ ap (λ w. 2 ^ w) high_sum)) h))
    go false e =
        let more = ltb-false b z e in
        let nothing : n / 2 ^ b ≡ 0 = div-eq_of_lt (lt_of_lt_of_le h (pow_mono (omega (arith, more)))) in
        let zero_left : z - b ≡ 0 = omega (arith, more) in
        ap size nothing ∙ none ∙ sym zero_left

-- (H and L / c) * 2 ^ a without its fraction
head_from : (H L c a : ℕ) → 0 < c → 0 < size H → 2 ^ (size H + a - 1) ≤ (H * c + L) * 2 ^ a / c
head_from H L c a C p =
    let z = size H in
    let low : 2 ^ (z - 1) ≤ H = size_reaches H (z - 1) (omega (arith, p)) in
    let scaled : 2 ^ (z - 1) * c ≤ H * c = mul-le-mul_right c low in
    let wide : 2 ^ (z - 1) * c * 2 ^ a ≤ (H * c + L) * 2 ^ a = mul-le-mul_right (2 ^ a) (omega (arith, scaled)) in
    let sum : (z - 1) + a ≡ z + a - 1 = omega (arith, p) in
    (le-div_iff_mul-le C).1 (subst (λ w. w ≤ (H * c + L) * 2 ^ a) (mul_right_comm (2 ^ (z - 1)) c (2 ^ a) ∙ ap (λ w. w * c) (sym (pow-add 2 (z - 1) a) ∙ ap (λ w. 2 ^ w) sum)) wide)

head_below : (H L c a : ℕ) → 0 < c → L < c → (H * c + L) * 2 ^ a / c < 2 ^ (size H + a)
head_below H L c a C h =
    let z = size H in
    let next : suc H * c ≤ 2 ^ z * c = mul-le-mul_right c (size-lt H) in
    let sum : suc H * c ≡ H * c + c = suc-mul H c in
    let under : H * c + L < 2 ^ z * c = omega (arith, next, sum, h) in
    let wide : (H * c + L) * 2 ^ a < 2 ^ z * c * 2 ^ a = mul-lt-mul_of_pos_right under (pow_pos a) in
    (div-lt_iff_lt-mul C).1 (subst (λ w. (H * c + L) * 2 ^ a < w) (mul_right_comm (2 ^ z) c (2 ^ a) ∙ ap (λ w. w * c) (sym (pow-add 2 z a))) wide)

whole_size : (H L c a b : ℕ) → 0 < c → L < c → 0 < size H → size ((H * c + L) * 2 ^ a / (c * 2 ^ b)) ≡ size H + a - b
whole_size H L c a b C h p =
    ap size (sym (div-div-eq-div-mul ((H * c + L) * 2 ^ a) c (2 ^ b))) ∙ size_shifted ((H * c + L) * 2 ^ a / c) (size H + a) b (omega (arith, p)) (head_from H L c a C p) (head_below H L c a C h)

-- ---- the nearest number of units

exact_closest : (a u : ℕ) → 0 < u → closest (a * u) u ≡ a
exact_closest a u h =
    let small : (0 * 2) < u = omega (arith, h) in
    ap (λ w. nearest w (compare (a * u % u * 2) u)) (mul-div_cancel a h) ∙ ap (λ w. nearest a (compare (w * 2) u)) (mul-mod_left a u) ∙ ap (nearest a) (compare_less (0 * 2) u small)

-- by the rest of H and the others
cut_closest : (H L c d : ℕ) → 0 < c → L < c → closest (H * c + L) (c * 2 ^ d) ≡ nearest (H / 2 ^ d) (compare ((H % 2 ^ d * c + L) * 2) (c * 2 ^ d))
cut_closest H L c d C h =
    let p = 2 ^ d in
    let q = H / p in
    let r = H % p in
    let r_below : r < p = mod-lt H (pow_pos d) in
    let next : suc r * c ≤ p * c = mul-le-mul_right c r_below in
    let sum : suc r * c ≡ r * c + c = suc-mul r c in
    let product : p * c ≡ c * p = mul_comm p c in
    let below : r * c + L < c * p = omega (arith, next, sum, product, h) in
    let parts : H * c ≡ c * p * q + r * c = ap (λ w. w * c) (sym (div-add-mod' H p)) ∙ add-mul (q * p) r c ∙ ap (λ w. w + r * c) (mul_assoc q p c ∙ mul_comm q (p * c) ∙ ap (λ w. w * q) product) in
    let whole : H * c + L ≡ c * p * q + (r * c + L) = omega (arith, parts) in
    let rest : (H * c + L) % (c * p) ≡ r * c + L = ap (λ w. w % (c * p)) whole ∙ mul-add-mod_self_left (c * p) q (r * c + L) ∙ mod-eq_of_lt below in
    let head : (H * c + L) / c ≡ H = only_head in
    let quotient : (H * c + L) / (c * p) ≡ q = sym (div-div-eq-div-mul (H * c + L) c p) ∙ ap (λ w. w / p) head in
    ap (λ w. nearest w (compare ((H * c + L) % (c * p) * 2) (c * p))) quotient ∙ ap (λ w. nearest q (compare (w * 2) (c * p))) rest
  where
    only_head : (H * c + L) / c ≡ H
    only_head =
        let under : H * c + L < suc H * c = omega (arith, suc-mul H c, h) in
        let most = (div-lt_iff_lt-mul C).1 under in
        let least = (le-div_iff_mul-le C).1 (own (H * c) L) in
        omega (arith, most, least)
      where
        own : (x y : ℕ) → x ≤ x + y
        own x y = omega arith

-- ---- rounded

pub rounded_by : (f : Format) (num den H L c a b k : ℕ) → 0 < den → 0 < c → L < c → 0 < size H → num * 2 ^ low f * (c * 2 ^ b) ≡ (H * c + L) * 2 ^ a * den → k ≡ size H + a - b - prec f
    → round f false num den ≡ units f false (closest ((H * c + L) * 2 ^ a) (c * 2 ^ b * 2 ^ k)) k
rounded_by f num den H L c a b k D C h p is at =
    let n = num * 2 ^ low f in
    let x = (H * c + L) * 2 ^ a in
    let same : n / den ≡ x / (c * 2 ^ b) = div_same n den x (c * 2 ^ b) D (mul-pos C (pow_pos b)) is in
    let count : size (n / den) - prec f ≡ k = ap (λ w. size w - prec f) same ∙ ap (λ w. w - prec f) (whole_size H L c a b C h p) ∙ sym at in
    let both : n * (c * 2 ^ b * 2 ^ k) ≡ x * (den * 2 ^ k) = sym (mul_assoc n (c * 2 ^ b) (2 ^ k)) ∙ ap (λ w. w * 2 ^ k) is ∙ mul_assoc x den (2 ^ k) in
    round_is f false num den ∙ ap (λ w. units f false (closest n (den * 2 ^ w)) w) count
    ∙ ap (λ w. units f false w k) (closest_same n (den * 2 ^ k) x (c * 2 ^ b * 2 ^ k) (mul-pos D (pow_pos k)) (mul-pos (mul-pos C (pow_pos b)) (pow_pos k)) both)

-- the digits that are kept have their place
pub kept_of : (f : Format) (H L c a b k : ℕ) → 0 < c → L < c → 0 < size H → k ≡ size H + a - b - prec f
    → (closest ((H * c + L) * 2 ^ a) (c * 2 ^ b * 2 ^ k) ≤ 2 ^ prec f) × (0 < k → 2 ^ (prec f - 1) ≤ closest ((H * c + L) * 2 ^ a) (c * 2 ^ b * 2 ^ k))
kept_of f H L c a b k C h p at =
    let x = (H * c + L) * 2 ^ a in
    let u = c * 2 ^ b in
    let w = x / u in
    let q = x / (u * 2 ^ k) in
    let o = compare (x % (u * 2 ^ k) * 2) (u * 2 ^ k) in
    let count : size w ≡ size H + a - b = whole_size H L c a b C h p in
    let shifted : w / 2 ^ k ≡ q = div-div-eq-div-mul x u (2 ^ k) in
    let drop : size w - prec f ≡ k = ap (λ z. z - prec f) count ∙ sym at in
    let small : q < 2 ^ prec f = subst (λ z. z < 2 ^ prec f) (ap (λ d. w / 2 ^ d) drop ∙ shifted) (kept-lt (prec f) w) in
    let most = nearest-le q o in
    let least = nearest-ge q o in (
      omega (arith, small, most),
      λ some. le_trans (subst (λ z. 2 ^ (prec f - 1) ≤ z) shifted
          ((le-div_iff_mul-le (pow_pos k)).1
          (subst (λ z. z ≤ w) (ap (λ d. 2 ^ d) (place (size w) (prec f) k (sym drop) some (some_digits f)) ∙ pow-add 2 (prec f - 1) k) (size_reaches w (size w - 1) (omega (arith, drop, some)))))) least,
    )
  where
    some_digits : (f : Format) → 0 < prec f
    some_digits f = omega (arith, two f)

    place : (z p k : ℕ) → k ≡ z - p → 0 < k → 0 < p → z - 1 ≡ p - 1 + k
    place z p k e some h = omega (arith, e, some, h)

-- ---- by how many digits of H are dropped

pub nothing_dropped : (H c a b k : ℕ) → 0 < c → b + k ≤ a → closest ((H * c + 0) * 2 ^ a) (c * 2 ^ b * 2 ^ k) ≡ H * 2 ^ (a - b - k)
nothing_dropped H c a b k C h =
    let sum : (a - b - k) + (b + k) ≡ a = omega (arith, h) in
    let parts : (H * c + 0) * 2 ^ a ≡ H * 2 ^ (a - b - k) * (c * 2 ^ b * 2 ^ k) = whole (2 ^ (a - b - k)) (2 ^ b) (2 ^ k) (2 ^ a) (sym (ap (λ w. 2 ^ w) sum) ∙ pow-add 2 (a - b - k) (b + k) ∙ ap (λ w. 2 ^ (a - b - k) * w) (pow-add 2 b k)) in
    ap (λ w. closest w (c * 2 ^ b * 2 ^ k)) parts ∙ exact_closest (H * 2 ^ (a - b - k)) (c * 2 ^ b * 2 ^ k) (mul-pos (mul-pos C (pow_pos b)) (pow_pos k))
  where
    whole : (s t u v : ℕ) → v ≡ s * (t * u) → (H * c + 0) * v ≡ H * s * (c * t * u)
    whole s t u v e =
        let clear : H * c + 0 ≡ H * c = omega arith in
        ap (λ w. w * v) clear ∙ ap (λ w. H * c * w) e ∙ mul-mul-mul_comm H c s (t * u) ∙ ap (λ w. H * s * w) (sym (mul_assoc c t u))

pub some_dropped : (x c a b k d : ℕ) → 0 < c → b + k ≡ a + d → closest (x * 2 ^ a) (c * 2 ^ b * 2 ^ k) ≡ closest x (c * 2 ^ d)
some_dropped x c a b k d C e =
    closest_same (x * 2 ^ a) (c * 2 ^ b * 2 ^ k) x (c * 2 ^ d) (mul-pos (mul-pos C (pow_pos b)) (pow_pos k)) (mul-pos C (pow_pos d))
    (mul_assoc x (2 ^ a) (c * 2 ^ d) ∙ ap (λ w. x * w) (moved (2 ^ a) (2 ^ d) (2 ^ b) (2 ^ k) (sym (pow-add 2 a d) ∙ sym (ap (λ w. 2 ^ w) e) ∙ pow-add 2 b k)))
  where
    moved : (s t u v : ℕ) → s * t ≡ u * v → s * (c * t) ≡ c * u * v
    moved s t u v h = mul_left_comm s c t ∙ ap (λ w. c * w) h ∙ sym (mul_assoc c u v)

pub all_dropped : (H L c d : ℕ) → 0 < c → L < c → H < 2 ^ 60 → 64 ≤ d → closest (H * c + L) (c * 2 ^ d) ≡ 0
all_dropped H L c d C h small far =
    let wide : 2 ^ 64 ≤ 2 ^ d = pow_mono far in
    let whole : H < 2 ^ d = omega (arith, small, wide) in
    let next : suc H * c ≤ 2 ^ 60 * c = mul-le-mul_right c small in
    let sum : suc H * c ≡ H * c + c = suc-mul H c in
    let room : 2 ^ 64 * c ≤ 2 ^ d * c = mul-le-mul_right c wide in
    let product : 2 ^ d * c ≡ c * 2 ^ d = mul_comm (2 ^ d) c in
    let less : ((H * c + L) * 2) < c * 2 ^ d = omega (arith, next, sum, room, product, h) in
    cut_closest H L c d C h ∙ ap (λ w. nearest (H / 2 ^ d) (compare ((w * c + L) * 2) (c * 2 ^ d))) (mod-eq_of_lt whole) ∙ ap (nearest (H / 2 ^ d)) (compare_less ((H * c + L) * 2) (c * 2 ^ d) less) ∙ div-eq_of_lt whole

twice_power : (d c : ℕ) → 0 < d → c * 2 ^ d ≡ 2 * (2 ^ (d - 1) * c)
twice_power d c p =
    let sum : 1 + (d - 1) ≡ d = omega (arith, p) in
    ap (λ w. c * w) (sym (ap (λ w. 2 ^ w) sum) ∙ pow-add 2 1 (d - 1)) ∙ mul_left_comm c 2 (2 ^ (d - 1)) ∙ ap (λ w. 2 * w) (mul_comm c (2 ^ (d - 1)))

-- what is cut off of H, and whether there is more
pub below_half : (H L c d : ℕ) → 0 < c → L < c → 0 < d → H % 2 ^ d < 2 ^ (d - 1) → closest (H * c + L) (c * 2 ^ d) ≡ H / 2 ^ d
below_half H L c d C h p less =
    let r = H % 2 ^ d in
    let half = 2 ^ (d - 1) in
    let next : suc r * c ≤ half * c = mul-le-mul_right c less in
    let sum : suc r * c ≡ r * c + c = suc-mul r c in
    let small : ((r * c + L) * 2) < c * 2 ^ d = omega (arith, next, sum, h, twice_power d c p) in
    cut_closest H L c d C h ∙ ap (nearest (H / 2 ^ d)) (compare_less ((r * c + L) * 2) (c * 2 ^ d) small)

pub above_half : (H L c d : ℕ) → 0 < c → L < c → 0 < d → 2 ^ (d - 1) < H % 2 ^ d → closest (H * c + L) (c * 2 ^ d) ≡ H / 2 ^ d + 1
above_half H L c d C h p more =
    let r = H % 2 ^ d in
    let half = 2 ^ (d - 1) in
    let next : suc half * c ≤ r * c = mul-le-mul_right c more in
    let sum : suc half * c ≡ half * c + c = suc-mul half c in
    let great : c * 2 ^ d < (r * c + L) * 2 = omega (arith, next, sum, C, twice_power d c p) in
    cut_closest H L c d C h ∙ ap (nearest (H / 2 ^ d)) (compare_more ((r * c + L) * 2) (c * 2 ^ d) great) ∙ one (H / 2 ^ d)
  where
    one : (q : ℕ) → suc q ≡ q + 1
    one q = omega arith

pub half_and_more : (H L c d : ℕ) → 0 < c → L < c → 0 < d → H % 2 ^ d ≡ 2 ^ (d - 1) → 0 < L → closest (H * c + L) (c * 2 ^ d) ≡ H / 2 ^ d + 1
half_and_more H L c d C h p is some =
    let great : c * 2 ^ d < (H % 2 ^ d * c + L) * 2 = omega (arith, ap (λ w. w * c) is, some, twice_power d c p) in
    cut_closest H L c d C h ∙ ap (nearest (H / 2 ^ d)) (compare_more ((H % 2 ^ d * c + L) * 2) (c * 2 ^ d) great) ∙ one (H / 2 ^ d)
  where
    one : (q : ℕ) → suc q ≡ q + 1
    one q = omega arith

pub at_half : (H c d : ℕ) → 0 < c → 0 < d → H % 2 ^ d ≡ 2 ^ (d - 1) → closest (H * c + 0) (c * 2 ^ d) ≡ H / 2 ^ d + H / 2 ^ d % 2
at_half H c d C p is =
    let even : (H % 2 ^ d * c + 0) * 2 ≡ c * 2 ^ d = omega (arith, ap (λ w. w * c) is, twice_power d c p) in
    cut_closest H 0 c d C C ∙ ap (nearest (H / 2 ^ d)) (compare_same ((H % 2 ^ d * c + 0) * 2) (c * 2 ^ d) even)

-- ---- too small and too great

pub far_down : (f : Format) (num den : ℕ) → (num * 2 ^ low f * 2) < den → round f false num den ≡ fin false 0 (pos 0)
unfolding units odd
far_down f num den h =
    let n = num * 2 ^ low f in
    let small : n < den = omega (arith, h) in
    let nothing : n / den ≡ 0 = div-eq_of_lt small in
    let k : size (n / den) - prec f ≡ 0 = ap (λ w. size w - prec f) nothing ∙ ap (λ w. w - prec f) none ∙ no_more (prec f) in
    let one : den * 2 ^ 0 ≡ den = mul-one den in
    let zero_units : closest n den ≡ 0 = ap (λ w. nearest (n / den) (compare (w * 2) den)) (mod-eq_of_lt small) ∙ ap (nearest (n / den)) (compare_less (n * 2) den h) ∙ nothing in
    round_is f false num den ∙ ap (λ w. units f false (closest n (den * 2 ^ w)) w) k ∙ ap (λ w. units f false (closest n w) 0) one ∙ ap (λ w. units f false w 0) zero_units
    ∙ ap (λ t. cond t (odd (suc (prec f)) false 0 0 (low f)) (inf false)) (fits_in (ltb (0 * 2 ^ 0) (2 ^ (low f + suc (emax f)))) refl)
  where
    no_more : (p : ℕ) → 0 - p ≡ 0
    no_more p = omega arith

    fits_in : (t : Bool) → ltb (0 * 2 ^ 0) (2 ^ (low f + suc (emax f))) ≡ t → t ≡ true
    fits_in true e = refl
    fits_in false e = let p = pow_pos (low f + suc (emax f)) in absurd (omega (arith, ltb-false (0 * 2 ^ 0) (2 ^ (low f + suc (emax f))) e, p))

pub far_up : (f : Format) (num den : ℕ) → 0 < den → 2 ^ suc (emax f) * den ≤ num → round f false num den ≡ inf false
unfolding units
far_up f num den D h =
    let n = num * 2 ^ low f in
    let w = n / den in
    let z = size w in
    let k = z - prec f in
    let scaled : 2 ^ suc (emax f) * den * 2 ^ low f ≤ n = mul-le-mul_right (2 ^ low f) h in
    let moved : 2 ^ suc (emax f) * den * 2 ^ low f ≡ 2 ^ (low f + suc (emax f)) * den = mul_right_comm (2 ^ suc (emax f)) den (2 ^ low f) ∙ ap (λ v. v * den) (mul_comm (2 ^ suc (emax f)) (2 ^ low f) ∙ sym (pow-add 2 (low f) (suc (emax f)))) in
    let great : 2 ^ (low f + suc (emax f)) ≤ w = (le-div_iff_mul-le D).1 (subst (λ v. v ≤ n) moved scaled) in
    let long : low f + suc (emax f) < z = size_above w (low f + suc (emax f)) great in
    let digits : prec f ≤ low f = many f in
    let place : (z - 1) ≡ (prec f - 1) + k = omega (arith, long, digits, two f) in
    let q = closest n (den * 2 ^ k) in
    let least : 2 ^ (prec f - 1) ≤ q =
    le_trans (subst (λ v. 2 ^ (prec f - 1) ≤ v) (div-div-eq-div-mul n den (2 ^ k))
    ((le-div_iff_mul-le (pow_pos k)).1 (subst (λ v. v ≤ w) (ap (λ d. 2 ^ d) place ∙ pow-add 2 (prec f - 1) k) (size_reaches w (z - 1) (omega (arith, long))))))
    (nearest-ge (n / (den * 2 ^ k)) (compare (n % (den * 2 ^ k) * 2) (den * 2 ^ k))) in
    let product : 2 ^ (prec f - 1) * 2 ^ k ≤ q * 2 ^ k = mul-le-mul_right (2 ^ k) least in
    let whole : 2 ^ (z - 1) ≤ q * 2 ^ k = subst (λ v. v ≤ q * 2 ^ k) (sym (ap (λ d. 2 ^ d) place ∙ pow-add 2 (prec f - 1) k)) product in
    let over : 2 ^ (low f + suc (emax f)) ≤ q * 2 ^ k = le_trans (pow_mono (omega (arith, long))) whole in
    round_is f false num den ∙ ap (λ t. cond t (odd (suc (prec f)) false q k (low f)) (inf false)) (not_in (q * 2 ^ k) (2 ^ (low f + suc (emax f))) (ltb (q * 2 ^ k) (2 ^ (low f + suc (emax f)))) refl over)
  where
    many : (f : Format) → prec f ≤ low f
    many binary32 = omega arith
    many binary64 = omega arith

    not_in : (a b : ℕ) (t : Bool) → ltb a b ≡ t → b ≤ a → t ≡ false
    not_in a b true e p = absurd (omega (arith, ltb-true a b e, p))
    not_in a b false e p = refl
