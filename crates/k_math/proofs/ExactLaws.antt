-- A remainder is a double, so that it is not rounded.
use Rattle.std.specs.Prelude.{◌≡◌, ◌+◌, ◌*◌, ◌-◌, ◌/◌, ◌%◌, ◌^◌, ◌<◌, ◌≤◌, ℕ, Bool, true, false, not, if◌then◌else◌, T}
use native.Mathlib.Nat.{mod-lt, div-add-mod', eq_of_mul-eq-mul_right, lt_of_lt_of_le}
use Rattle.std.proofs.Common.{refl, ap, sym, subst, ◌∙◌, arith, ltb-true, ltb-false}
use lib.Pow.{pow_pos, pow_mono, shl_lt}
use lib.Dec.{ltb}
use Rattle.std.specs.Float.{Float, binary64, nan, inf, fin, float_is_finite, is_sign_negative}
use Rattle.std.specs.Float.Ieee.{neg, rem, fits, to_bits}
use Rattle.std.specs.Float.Ieee.Bits.{of_bits-to_bits, of_bits-fits}
use Rattle.std.specs.Float.Ieee.Exact.{HasValue, round_exact}
use Rattle.std.specs.Float.Ieee.Fits.{rem-fits}
use Rattle.std.specs.Float.Ieee.Positive.{num, den, den_pos, first_pos}
use Rattle.k_real.specs.Codes.{real_of, code_of}
use Rattle.k_real.specs.Sizes.{unit_places, field, significand, exponent}
use Rattle.k_real.proofs.SizeLaws.{size_is, finite_field}
use Rattle.k_math.specs.Remainder.{units, of_units, RemainderIsExact}
use Rattle.k_math.proofs.RemainderLaws.{by_units, size_of, some_units, small_significand, of_smaller, of_greater}

-- what is left as a number below 2 ^ 53 and a power of two
record IsHeldBy (n : ℕ) : Type 0 where
  pub digits : ℕ
  pub power : ℕ
  pub below : digits < 2 ^ 53
  pub within : power ≤ 2045
  pub is : n ≡ digits * 2 ^ power

-- (e is an exponent of a finite double)
small_exponent : (a : ℕ) → field a < 2047 → exponent a ≤ 2045
small_exponent a h = omega (arith, h)

left : (a b : ℕ) → field a < 2047 → field b < 2047 → 0 < significand b → IsHeldBy (units a % units b)
left a b h k some = go (ltb (exponent a) (exponent b)) refl
  where
    go : (c : Bool) → ltb (exponent a) (exponent b) ≡ c → IsHeldBy (units a % units b)
    go true e = record {
      digits = significand a;
      power = exponent a;
      below = small_significand a;
      within = small_exponent a h;
      is = sym (of_smaller a b (ltb-true (exponent a) (exponent b) e));
    }
    go false e = record {
      digits = significand a * 2 ^ (exponent a - exponent b) % significand b;
      power = exponent b;
      below = let lower = mod-lt (significand a * 2 ^ (exponent a - exponent b)) some in let upper = small_significand b in omega (arith, lower, upper);
      within = small_exponent b k;
      is = sym (of_greater a b (omega (arith, ltb-false (exponent a) (exponent b) e)) some);
    }

exact_units : (n : ℕ) → IsHeldBy n → HasValue (of_units n) false n (2 ^ unit_places)
unfolding unit_places
exact_units n h =
    let small : h.digits * 2 ^ h.power < 2 ^ 2098 = lt_of_lt_of_le (shl_lt {a = h.digits} 53 h.power h.below) (pow_mono {i = 53 + h.power} {j = 2098} (omega (arith, h.within))) in
    round_exact binary64 false n (2 ^ 1074) h.digits h.power (pow_pos 1074) h.below small (ap (λ w. w * 2 ^ 1074) h.is)

-- with a sign or without
signed_value : (s : Bool) (x : Float) (n u : ℕ) → HasValue x false n u → HasValue (if s then neg x else x) s n u
unfolding neg
signed_value true nan n u h = absurd h
signed_value true (inf t) n u h = absurd h
signed_value true (fin t m e) n u h = (ap not h.0, h.1)
signed_value false x n u h = h

finite_value : (x : Float) (s : Bool) (n u : ℕ) → HasValue x s n u → float_is_finite x ≡ true
unfolding float_is_finite
finite_value nan s n u h = absurd h
finite_value (inf t) s n u h = absurd h
finite_value (fin t m e) s n u h = refl

sign_of_value : (x : Float) (s : Bool) (n u : ℕ) → HasValue x s n u → is_sign_negative x ≡ s
unfolding is_sign_negative
sign_of_value nan s n u h = absurd h
sign_of_value (inf t) s n u h = absurd h
sign_of_value (fin t m e) s n u h = h.0

size_of_value : (x : Float) (s : Bool) (n u : ℕ) → HasValue x s n u → num x * u ≡ n * den x
size_of_value nan s n u h = absurd h
size_of_value (inf t) s n u h = absurd h
size_of_value (fin t m e) s n u h = h.1

-- a double's code has so many units
units_of_code : (x : Float) (s : Bool) (n : ℕ) → T (fits binary64 x) → HasValue x s n (2 ^ unit_places) → units (to_bits binary64 x) ≡ n
units_of_code x s n f h =
    eq_of_mul-eq-mul_right (den x) (den_pos x) (units (to_bits binary64 x)) n
    (sym (size_of x (to_bits binary64 x) f refl (finite_value x s n (2 ^ unit_places) h)) ∙ size_of_value x s n (2 ^ unit_places) h)

pub remainder_is_exact : RemainderIsExact
remainder_is_exact a b h k z =
    let x = real_of a in
    let y = real_of b in
    let f = finite_field a h in
    let g = finite_field b k in
    let u = 2 ^ unit_places in
    let r = rem binary64 x y in
    let some_b : 0 < units b = some_units y (units b) u (pow_pos unit_places) (size_is b g) k z in
    let some : 0 < significand b = first_pos (significand b) (2 ^ exponent b) some_b in
    let n = units a % units b in
    let is : r ≡ (if is_sign_negative x then neg (of_units n) else of_units n) = by_units binary64 x y (units a) (units b) u (pow_pos unit_places) (size_is a f) (size_is b g) h k z in
    let value : HasValue r (is_sign_negative x) n u =
    subst (λ v. HasValue v (is_sign_negative x) n u) (sym is) (signed_value (is_sign_negative x) (of_units n) n u (exact_units n (left a b f g some))) in
    let fine : T (fits binary64 r) = rem-fits binary64 x y (of_bits-fits binary64 a) in
    let held : units (code_of r) ≡ n = units_of_code r (is_sign_negative x) n fine value in (
      record {
        exact = (units a / units b, sym (div-add-mod' (units a) (units b)) ∙ ap (λ w. units a / units b * units b + w) (sym held));
        below = subst (λ w. w < units b) (sym held) (mod-lt (units a) some_b);
        sign = ap is_sign_negative (of_bits-to_bits binary64 r fine) ∙ sign_of_value r (is_sign_negative x) n u value;
      },
      finite_value r (is_sign_negative x) n u value,
    )
