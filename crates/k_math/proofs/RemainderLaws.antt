-- What is left of a number of units, and of a finite double.
use Rattle.std.specs.Prelude.{◌≡◌, ◌+◌, ◌*◌, ◌-◌, ◌/◌, ◌%◌, ◌^◌, ◌<◌, ◌≤◌, ℕ, zero, suc, Bool, true, false, ◌==◌, ◌&&◌, ◌||◌, if◌then◌else◌, T, ℤ, pos}
use native.Mathlib.Nat.{mul-add-mod_self_left, mod-eq_of_lt, mul-lt-mul_of_pos_right, mod-lt, mul-pos, div-add-mod', zero-mul, one-mul, mul_right_comm, mul-mul-mul_comm, le_of_lt, mul-le-mul_right, zero-lt-suc}
use Rattle.std.proofs.Common.{refl, ap, sym, subst, ◌∙◌, arith, add-mul, mul_assoc, mul_comm, true≢false}
use Rattle.std.proofs.lemmas.Bool.{eqb-true, eqb-false}
use Rattle.std.proofs.lemmas.Nat.{mul-mod_first}
use lib.Pow.{pow-add, pow_pos}
use lib.Dec.{ltb, eqb}
use mathlib.Core.Bool.{cond, beq}
use Rattle.std.specs.Float.{Float, Format, binary64, nan, inf, fin, float_zero, float_is_finite, float_is_infinite, is_sign_negative}
use Rattle.std.specs.Float.Ieee.{up, down, low, emax, size as digits_of, prec, nearest, units as in_format, odd, round, neg, rem, mul, eq, level, of_int, fits, of_bits, to_bits}
use Rattle.std.specs.Float.Ieee.Back.{round_whole}
use Rattle.std.specs.Float.Ieee.Bits.{of_bits-to_bits}
use Rattle.std.specs.Float.Ieee.Exact.{HasValue}
use Rattle.std.specs.Float.Ieee.Fits.{up_pos, down_pos, round_is}
use Rattle.std.specs.Float.Ieee.Positive.{num, den, first_pos}
use Rattle.std.specs.Float.Ieee.Scale.{round_same}
use Prim.Native.Nat.{compare}
use Rattle.k_real.specs.Sizes.{unit_places, field, significand, exponent}
use Rattle.k_real.proofs.SizeLaws.{size_is, finite_field}
use Rattle.k_math.specs.Remainder.{units, of_units}

-- ---- numbers of units

pub below_divisor : (m n r : ℕ) → 0 < n → r ≡ m % n → r < n
below_divisor m n r h is = subst (λ w. w < n) (sym is) (mod-lt m h)

pub once_more : (m k n r next : ℕ) → r ≡ m * 2 ^ k % n → next ≡ r * 2 % n → next ≡ m * 2 ^ (k + 1) % n
once_more m k n r next is step =
    step ∙ ap (λ w. w * 2 % n) is ∙ mul-mod_first (m * 2 ^ k) 2 n ∙ ap (λ w. w % n) (mul_assoc m (2 ^ k) 2 ∙ ap (λ w. m * w) (sym (pow-add 2 k 1)))

times_mod : (a b c : ℕ) → 0 < b → 0 < c → (a * c) % (b * c) ≡ a % b * c
times_mod a b c B C =
    let q = a / b in
    let r = a % b in
    let parts : a * c ≡ b * c * q + r * c = ap (λ w. w * c) (sym (div-add-mod' a b)) ∙ add-mul (q * b) r c ∙ ap (λ w. w + r * c) (mul_assoc q b c ∙ mul_comm q (b * c)) in
    ap (λ w. w % (b * c)) parts ∙ mul-add-mod_self_left (b * c) q (r * c) ∙ mod-eq_of_lt (mul-lt-mul_of_pos_right (mod-lt a B) C)

pub small_significand : (a : ℕ) → significand a < 2 ^ 53
small_significand a = go (field a == 0)
  where
    go : (b : Bool) → (if b then a % 2 ^ 52 else 2 ^ 52 + a % 2 ^ 52) < 2 ^ 53
    go true = omega arith
    go false = omega arith

normal_significand : (b : ℕ) → 0 < exponent b → 2 ^ 52 ≤ significand b
normal_significand b h = go (field b == 0) refl
  where
    go : (c : Bool) → (field b == 0) ≡ c → 2 ^ 52 ≤ (if c then b % 2 ^ 52 else 2 ^ 52 + b % 2 ^ 52)
    go true e = absurd (omega (arith, h, eqb-true (field b) 0 e))
    go false e = omega arith

-- (p is 2 ^ e, and r is 2 ^ (d - e - 1))
less : (m n p r : ℕ) → m < 2 ^ 53 → 2 ^ 52 ≤ n → 0 < p → 0 < r → m * p < n * (p * 2 * r)
less m n p r h k P R =
    let a : m * p < 2 ^ 53 * p = mul-lt-mul_of_pos_right h P in
    let b : 2 ^ 52 * (p * 2) ≤ n * (p * 2) = mul-le-mul_right (p * 2) k in
    let c : 1 * (n * (p * 2)) ≤ r * (n * (p * 2)) = mul-le-mul_right (n * (p * 2)) R in
    let d : r * (n * (p * 2)) ≡ n * (p * 2 * r) = mul_comm r (n * (p * 2)) ∙ mul_assoc n (p * 2) r in
    omega (arith, a, b, c, d)

power_parts : (e d : ℕ) → e < d → 2 ^ d ≡ 2 ^ e * 2 * 2 ^ (d - e - 1)
power_parts e d h =
    let is : d ≡ (e + 1) + (d - e - 1) = omega arith in
    ap (λ w. 2 ^ w) is ∙ pow-add 2 (e + 1) (d - e - 1) ∙ ap (λ w. w * 2 ^ (d - e - 1)) (pow-add 2 e 1)

pub of_smaller : (a b : ℕ) → exponent a < exponent b → significand a * 2 ^ exponent a ≡ units a % units b
of_smaller a b h =
    let e = exponent a in
    let d = exponent b in
    let below : significand a * 2 ^ e < significand b * (2 ^ e * 2 * 2 ^ (d - e - 1)) =
    less (significand a) (significand b) (2 ^ e) (2 ^ (d - e - 1)) (small_significand a) (normal_significand b (omega (arith, h))) (pow_pos e) (pow_pos (d - e - 1)) in
    sym (mod-eq_of_lt (subst (λ w. significand a * 2 ^ e < significand b * w) (sym (power_parts e d h)) below))

pub of_greater : (a b : ℕ) → exponent b ≤ exponent a → 0 < significand b → significand a * 2 ^ (exponent a - exponent b) % significand b * 2 ^ exponent b ≡ units a % units b
of_greater a b h some =
    let e = exponent a in
    let d = exponent b in
    let sum : (e - d) + d ≡ e = omega arith in
    sym (times_mod (significand a * 2 ^ (e - d)) (significand b) (2 ^ d) some (pow_pos d))
    ∙ ap (λ w. w % units b) (mul_assoc (significand a) (2 ^ (e - d)) (2 ^ d) ∙ ap (λ w. significand a * w) (sym (pow-add 2 (e - d) d) ∙ ap (λ w. 2 ^ w) sum))

-- by what functions gave
pub smaller_left : (a b m e d : ℕ) → m ≡ significand a → e ≡ exponent a → d ≡ exponent b → e < d → m * 2 ^ e ≡ units a % units b
smaller_left a b m e d p q r h =
    ap (λ w. w * 2 ^ e) p ∙ ap (λ w. significand a * 2 ^ w) q ∙ of_smaller a b (subst (λ w. w < exponent b) q (subst (λ w. e < w) r h))

pub greater_left : (a b m e n d l : ℕ) → m ≡ significand a → e ≡ exponent a → n ≡ significand b → d ≡ exponent b → d ≤ e → 0 < significand b → l ≡ m * 2 ^ (e - d) % n → l * 2 ^ d ≡ units a % units b
greater_left a b m e n d l p q s r h some is =
    ap (λ w. w * 2 ^ d)
    (is ∙ ap (λ w. w * 2 ^ (e - d) % n) p ∙ ap (λ w. significand a * 2 ^ (w - d) % n) q ∙ ap (λ w. significand a * 2 ^ (exponent a - d) % w) s
    ∙ ap (λ w. significand a * 2 ^ (exponent a - w) % significand b) r)
    ∙ ap (λ w. significand a * 2 ^ (exponent a - exponent b) % significand b * 2 ^ w) r
    ∙ of_greater a b (subst (λ w. exponent b ≤ w) q (subst (λ w. w ≤ e) r h)) some

-- ---- a number of units as a double

of_number : (n : ℕ) → n < 2 ^ 53 → HasValue (of_int binary64 (pos n)) false n 1
unfolding of_int
of_number n h = round_whole binary64 false n (le_of_lt h)

product_at : (f : Format) (x y : Float) (a c b d : ℕ) → 0 < c → 0 < d → HasValue x false a c → HasValue y false b d → mul f x y ≡ round f false (a * b) (c * d)
unfolding mul
product_at f nan y a c b d C D h k = absurd h
product_at f (inf s) y a c b d C D h k = absurd h
product_at f (fin true m e) y a c b d C D h k = absurd (true≢false h.0)
product_at f (fin false m e) nan a c b d C D h k = absurd k
product_at f (fin false m e) (inf t) a c b d C D h k = absurd k
product_at f (fin false m e) (fin true n g) a c b d C D h k = absurd (true≢false k.0)
product_at f (fin false m e) (fin false n g) a c b d C D h k =
    round_same f false (m * up e * (n * up g)) (down e * down g) (a * b) (c * d) (mul-pos (down_pos e) (down_pos g)) (mul-pos C D)
    (mul-mul-mul_comm (m * up e) (n * up g) c d ∙ ap (λ z. z * (n * up g * d)) h.1 ∙ ap (λ z. a * down e * z) k.1 ∙ mul-mul-mul_comm a (down e) b (down g))

pub in_units_is : (x y : Float) (n k : ℕ) → x ≡ of_int binary64 (pos n) → n < 2 ^ 53 → HasValue y false (2 ^ k) (2 ^ unit_places) → mul binary64 x y ≡ of_units (n * 2 ^ k)
in_units_is x y n k is h v =
    product_at binary64 x y n 1 (2 ^ k) (2 ^ unit_places) (zero-lt-suc 0) (pow_pos unit_places) (subst (λ z. HasValue z false n 1) (sym is) (of_number n h)) v
    ∙ ap (λ w. round binary64 false (n * 2 ^ k) w) (one-mul (2 ^ unit_places))

-- ---- what is left of a double

negated_odd : (d q k l : ℕ) → neg (odd d false q k l) ≡ odd d true q k l
unfolding neg odd
negated_odd d zero k l = refl
negated_odd d (suc q) k l = refl

negated_in_format : (f : Format) (q k : ℕ) → neg (in_format f false q k) ≡ in_format f true q k
unfolding in_format neg
negated_in_format f q k = go (ltb (q * 2 ^ k) (2 ^ (low f + suc (emax f))))
  where
    go : (b : Bool) → neg (cond b (odd (suc (prec f)) false q k (low f)) (inf false)) ≡ cond b (odd (suc (prec f)) true q k (low f)) (inf true)
    go true = negated_odd (suc (prec f)) q k (low f)
    go false = refl

signed_round : (f : Format) (s : Bool) (a b : ℕ) → round f s a b ≡ (if s then neg (round f false a b) else round f false a b)
signed_round f false a b = refl
signed_round f true a b =
    let n = a * 2 ^ low f in
    let k = digits_of (n / b) - prec f in
    round_is f true a b ∙ sym (ap neg (round_is f false a b) ∙ negated_in_format f (nearest (n / (b * 2 ^ k)) (compare (n % (b * 2 ^ k) * 2) (b * 2 ^ k))) k)

level_zero : (t : Bool) (a b : ℕ) → a ≡ 0 → b ≡ 0 → level t a false b ≡ true
level_zero true a b h k = ap (λ w. level true w false b) h ∙ ap (λ w. level true 0 false w) k
level_zero false a b h k = ap (λ w. level false w false b) h ∙ ap (λ w. level false 0 false w) k

zero_is : (t : Bool) (n : ℕ) (g : ℤ) → n ≡ 0 → eq (fin t n g) float_zero ≡ true
unfolding eq
zero_is t n g h = level_zero t (n * up g * 1) (0 * 1 * down g) (ap (λ w. w * up g * 1) h ∙ ap (λ w. w * 1) (zero-mul (up g))) (zero-mul (down g))

not_zero : (t : Bool) (n : ℕ) (g : ℤ) → eq (fin t n g) float_zero ≡ false → eqb n 0 ≡ false
not_zero t n g h = go (eqb n 0) refl
  where
    go : (b : Bool) → eqb n 0 ≡ b → b ≡ false
    go true e = absurd (true≢false (sym (zero_is t n g (eqb-true n 0 e)) ∙ h))
    go false e = refl

-- (x is X / p and y is Y / q; in units of 1 / u they are a and b)
left_by : (X p Y q a b u : ℕ) → 0 < p → 0 < Y → 0 < q → 0 < u → X * u ≡ a * p → Y * u ≡ b * q → X * q % (Y * p) * u ≡ a % b * (p * q)
left_by X p Y q a b u P YP Q U is js =
    let B : 0 < b = first_pos b q (subst (λ w. 0 < w) js (mul-pos YP U)) in
    let first : X * q * u ≡ a * (p * q) = mul_right_comm X q u ∙ ap (λ w. w * q) is ∙ mul_assoc a p q in
    let second : Y * p * u ≡ b * (p * q) = mul_right_comm Y p u ∙ ap (λ w. w * p) js ∙ mul_assoc b q p ∙ ap (λ w. b * w) (mul_comm q p) in
    sym (times_mod (X * q) (Y * p) u (mul-pos YP P) U) ∙ ap (λ w. w % (Y * p * u)) first ∙ ap (λ w. (a * (p * q)) % w) second ∙ times_mod a b (p * q) B (mul-pos P Q)

some_of : (n : ℕ) → eqb n 0 ≡ false → 0 < n
some_of n h = omega (arith, eqb-false n 0 h)

pub by_units : (f : Format) (x y : Float) (a b u : ℕ) → 0 < u → num x * u ≡ a * den x → num y * u ≡ b * den y → float_is_finite x ≡ true → float_is_finite y ≡ true → eq y float_zero ≡ false
    → rem f x y ≡ (if is_sign_negative x then neg (round f false (a % b) u) else round f false (a % b) u)
unfolding rem float_is_finite is_sign_negative
by_units f nan y a b u U is js h k z = absurd (true≢false (sym h))
by_units f (inf s) y a b u U is js h k z = absurd (true≢false (sym h))
by_units f (fin s m e) nan a b u U is js h k z = absurd (true≢false (sym k))
by_units f (fin s m e) (inf t) a b u U is js h k z = absurd (true≢false (sym k))
by_units f (fin s m e) (fin t n g) a b u U is js h k z =
    let no = not_zero t n g z in
    let whole = m * up e * down g % (n * up g * down e) in
    ap (λ c. cond c nan (round f s whole (down e * down g))) no
    ∙ round_same f s whole (down e * down g) (a % b) u (mul-pos (down_pos e) (down_pos g)) U
    (left_by (m * up e) (down e) (n * up g) (down g) a b u (down_pos e) (mul-pos (some_of n no) (up_pos g)) (down_pos g) U is js)
    ∙ signed_round f s (a % b) u

-- by codes
pub size_of : (x : Float) (a : ℕ) → T (fits binary64 x) → a ≡ to_bits binary64 x → float_is_finite x ≡ true → num x * 2 ^ unit_places ≡ units a * den x
size_of x a f is h =
    let back : of_bits binary64 a ≡ x = ap (of_bits binary64) is ∙ of_bits-to_bits binary64 x f in
    subst (λ z. num z * 2 ^ unit_places ≡ units a * den z) back (size_is a (finite_field a (ap float_is_finite back ∙ h)))

pub some_units : (x : Float) (a u : ℕ) → 0 < u → num x * u ≡ a * den x → float_is_finite x ≡ true → eq x float_zero ≡ false → 0 < a
unfolding float_is_finite
some_units nan a u U is h z = absurd (true≢false (sym h))
some_units (inf s) a u U is h z = absurd (true≢false (sym h))
some_units (fin t n g) a u U is h z = first_pos a (down g) (subst (λ w. 0 < w) is (mul-pos (mul-pos (some_of n (not_zero t n g z)) (up_pos g)) U))

pub some_significand : (x : Float) (a : ℕ) → T (fits binary64 x) → a ≡ to_bits binary64 x → float_is_finite x ≡ true → eq x float_zero ≡ false → 0 < significand a
some_significand x a f is h z = first_pos (significand a) (2 ^ exponent a) (some_units x (units a) (2 ^ unit_places) (pow_pos unit_places) (size_of x a f is h) h z)

pub remainder_is : (x y : Float) (a b : ℕ) → T (fits binary64 x) → T (fits binary64 y) → a ≡ to_bits binary64 x → b ≡ to_bits binary64 y → float_is_finite x ≡ true → float_is_finite y ≡ true → eq y float_zero ≡ false
    → (if is_sign_negative x then neg (of_units (units a % units b)) else of_units (units a % units b)) ≡ rem binary64 x y
remainder_is x y a b f g is js h k z =
    sym (by_units binary64 x y (units a) (units b) (2 ^ unit_places) (pow_pos unit_places) (size_of x a f is h) (size_of y b g js k) h k z)

-- ---- special values

and_left : (p q : Bool) → (p && q) ≡ true → p ≡ true
and_left true q h = refl
and_left false q h = absurd (true≢false (sym h))

is_zero : (t : Bool) (n : ℕ) (g : ℤ) → eq (fin t n g) float_zero ≡ true → eqb n 0 ≡ true
unfolding eq
is_zero t n g h = go (eqb n 0) refl
  where
    nothing : n * up g * 1 ≡ 0
    nothing = eqb-true (n * up g * 1) (0 * 1 * down g) (and_left (eqb (n * up g * 1) (0 * 1 * down g)) (beq t false || eqb (n * up g * 1) 0) h) ∙ zero-mul (down g)

    go : (b : Bool) → eqb n 0 ≡ b → b ≡ true
    go true e = refl
    go false e = absurd (some (n * up g * 1) (mul-pos (mul-pos (some_of n e) (up_pos g)) (zero-lt-suc 0)) nothing)
      where
        some : (v : ℕ) → 0 < v → v ≡ 0 → ⊥
        some v p i = omega (arith, p, i)

pub by_zero : (x y : Float) → float_is_finite x ≡ true → float_is_finite y ≡ true → eq y float_zero ≡ true → nan ≡ rem binary64 x y
unfolding rem float_is_finite
by_zero nan y h k z = absurd (true≢false (sym h))
by_zero (inf s) y h k z = absurd (true≢false (sym h))
by_zero (fin s m e) nan h k z = absurd (true≢false (sym k))
by_zero (fin s m e) (inf t) h k z = absurd (true≢false (sym k))
by_zero (fin s m e) (fin t n g) h k z = sym (ap (λ c. cond c nan (round binary64 s (m * up e * down g % (n * up g * down e)) (down e * down g))) (is_zero t n g z))

pub of_infinite : (x y : Float) → float_is_finite x ≡ false → nan ≡ rem binary64 x y
unfolding rem float_is_finite
of_infinite nan y h = refl
of_infinite (inf s) y h = refl
of_infinite (fin s m e) y h = absurd (true≢false h)

pub by_infinity : (x y : Float) → float_is_finite x ≡ true → float_is_infinite y ≡ true → x ≡ rem binary64 x y
unfolding rem float_is_finite float_is_infinite
by_infinity nan y h k = absurd (true≢false (sym h))
by_infinity (inf s) y h k = absurd (true≢false (sym h))
by_infinity (fin s m e) nan h k = absurd (true≢false (sym k))
by_infinity (fin s m e) (inf t) h k = refl
by_infinity (fin s m e) (fin t n g) h k = absurd (true≢false (sym k))

pub by_nan : (x y : Float) → float_is_finite x ≡ true → float_is_finite y ≡ false → float_is_infinite y ≡ false → nan ≡ rem binary64 x y
unfolding rem float_is_finite float_is_infinite
by_nan nan y h k i = refl
by_nan (inf s) y h k i = refl
by_nan (fin s m e) nan h k i = refl
by_nan (fin s m e) (inf t) h k i = absurd (true≢false i)
by_nan (fin s m e) (fin t n g) h k i = absurd (true≢false k)
