-- What a format holds is not changed by being rounded to it.
use Rattle.std.specs.Prelude.{◌≡◌, ◌+◌, ◌*◌, ◌-◌, ◌^◌, ◌<◌, ◌≤◌, ℕ, zero, suc, Bool, true, false, ◌&&◌, ◌%◌, ◌/◌, T, ℤ, pos, negsuc}
use native.Mathlib.Nat.{mul_right_comm, mul-lt-mul_of_pos_right, lt_of_mul-lt-mul_right, eq_of_mul-eq-mul_right, mul-div_cancel, zero-mul, one-mul, not-le_of_lt}
use Rattle.std.proofs.Common.{refl, ap, sym, subst, ◌∙◌, arith, mul_assoc, mul_comm, mul-one, ltb-true, ltb-false}
use lib.Pow.{pow-add, pow_pos, pow-lt}
use lib.Dec.{leb, ltb, eqb, ltb→lt, leb→le}
use mathlib.Core.Bool.{cond}
use Rattle.std.specs.Float.{Float, Format, binary32, nan, inf, fin, round_to_format}
use Rattle.std.specs.Float.Ieee.{up, down, low, emax, prec, hid, top, size, round, fits, to_bits, of_bits, add, sub, mul, div, sqrt, of_int}
use Rattle.std.specs.Float.Ieee.Bits.{of_bits-to_bits}
use Rattle.std.specs.Float.Ieee.Exact.{HasValue, round_exact}
use Rattle.std.specs.Float.Ieee.Fits.{and_l, and_r, down_pos, round-fits, add-fits, sub-fits, mul-fits, div-fits, sqrt-fits, of_int-fits}
use Rattle.k_real.specs.declared.precision.Precision.{Precision}
use Rattle.k_real.specs.declared.precision.Precision.TheVariants.{Single, Double}
use Rattle.k_real.specs.Codes.{format, real_of, rounded}
use Rattle.k_real.specs.RealLaws.{IsOfPrecision, ResultsAreOfPrecision, ConvertedAreOfPrecision}
use Rattle.k_real.proofs.CodeLaws.{rounded_fits}

-- ---- a value of a format is written in one way

bits_of_value : (f : Format) (x : Float) (s : Bool) (a : ℕ) → HasValue x s a (2 ^ low f) → to_bits f x ≡ cond s (top f) 0 + (size a - prec f) * hid f + a / 2 ^ (size a - prec f)
unfolding to_bits
bits_of_value f nan s a v = absurd v
bits_of_value f (inf t) s a v = absurd v
bits_of_value f (fin t m e) s a v =
    let n : m * up e * 2 ^ low f / down e ≡ a = ap (λ k. k / down e) v.1 ∙ mul-div_cancel a (down_pos e) in
    λ i. cond (v.0 i) (top f) 0 + (size (n i) - prec f) * hid f + n i / 2 ^ (size (n i) - prec f)

same_value : (f : Format) (x y : Float) (s : Bool) (a : ℕ) → T (fits f x) → T (fits f y) → HasValue x s a (2 ^ low f) → HasValue y s a (2 ^ low f) → x ≡ y
same_value f x y s a p q v w = sym (of_bits-to_bits f x p) ∙ ap (of_bits f) (bits_of_value f x s a v ∙ sym (bits_of_value f y s a w)) ∙ of_bits-to_bits f y q

-- from one fraction to another of the same size
other_fraction : (x : Float) (s : Bool) (n d w l : ℕ) → 0 < d → n * l ≡ w * d → HasValue x s n d → HasValue x s w l
other_fraction nan s n d w l p h v = v
other_fraction (inf t) s n d w l p h v = v
other_fraction (fin t m e) s n d w l p h v = (
  v.0,
  eq_of_mul-eq-mul_right d p (m * up e * l) (w * down e)
      (mul_right_comm (m * up e) l d ∙ ap (λ z. z * l) v.1 ∙ mul_right_comm n (down e) l ∙ ap (λ z. z * down e) h ∙ mul_right_comm w d (down e)),
)

-- ---- q * 2 ^ j of a format's least values

same_rounded : (f : Format) (s : Bool) (m : ℕ) (e : ℤ) (q j : ℕ) → T (fits f (fin s m e)) → q < 2 ^ prec f → q * 2 ^ j < 2 ^ (low f + suc (emax f)) → m * up e * 2 ^ low f ≡ q * 2 ^ j * down e
    → round f s (m * up e) (down e) ≡ fin s m e
same_rounded f s m e q j h small fine is =
    same_value f (round f s (m * up e) (down e)) (fin s m e) s (q * 2 ^ j) (round-fits f s (m * up e) (down e)) h
    (other_fraction (round f s (m * up e) (down e)) s (m * up e) (down e) (q * 2 ^ j) (2 ^ low f) (down_pos e) is (round_exact f s (m * up e) (down e) q j (down_pos e) small fine is)) (refl, is)

within : (a b : ℕ) → 2 ^ a ≤ 2 ^ b → a ≤ b
within a b h = go (ltb b a) refl
  where
    go : (c : Bool) → ltb b a ≡ c → a ≤ b
    go true e = absurd (not-le_of_lt (pow-lt (ltb-true b a e)) h)
    go false e = omega (arith, ltb-false b a e)

steps : (f : Format) (e : ℤ) → down e ≤ 2 ^ low f → (j : ℕ) × (up e * 2 ^ low f ≡ 2 ^ j * down e)
steps f (pos a) h = (a + low f, sym (pow-add 2 a (low f)) ∙ sym (mul-one (2 ^ (a + low f))))
steps f (negsuc k) h =
    let sum : (low f - suc k) + suc k ≡ low f = omega (arith, within (suc k) (low f) h) in
    (low f - suc k, one-mul (2 ^ low f) ∙ sym (ap (λ w. 2 ^ w) sum) ∙ pow-add 2 (low f - suc k) (suc k))

number_stays : (f : Format) (s : Bool) (m : ℕ) (e : ℤ) → T (fits f (fin s (suc m) e)) → round f s (suc m * up e) (down e) ≡ fin s (suc m) e
unfolding fits
number_stays f s m e h =
    let first = and_l (eqb (suc m % 2) 1 && ltb (suc m) (2 ^ prec f) && leb (down e) (2 ^ low f)) (ltb (suc m * up e) (2 ^ suc (emax f) * down e)) h in
    let second = and_l (eqb (suc m % 2) 1 && ltb (suc m) (2 ^ prec f)) (leb (down e) (2 ^ low f)) first in
    let small : suc m < 2 ^ prec f = ltb→lt (suc m) (2 ^ prec f) (and_r (eqb (suc m % 2) 1) (ltb (suc m) (2 ^ prec f)) second) in
    let least : down e ≤ 2 ^ low f = leb→le (down e) (2 ^ low f) (and_r (eqb (suc m % 2) 1 && ltb (suc m) (2 ^ prec f)) (leb (down e) (2 ^ low f)) first) in
    let under : suc m * up e < 2 ^ suc (emax f) * down e =
    ltb→lt (suc m * up e) (2 ^ suc (emax f) * down e) (and_r (eqb (suc m % 2) 1 && ltb (suc m) (2 ^ prec f) && leb (down e) (2 ^ low f)) (ltb (suc m * up e) (2 ^ suc (emax f) * down e)) h) in
    let j = (steps f e least).0 in
    let is : suc m * up e * 2 ^ low f ≡ suc m * 2 ^ j * down e = mul_assoc (suc m) (up e) (2 ^ low f) ∙ ap (λ w. suc m * w) (steps f e least).1 ∙ sym (mul_assoc (suc m) (2 ^ j) (down e)) in
    let bound : 2 ^ suc (emax f) * down e * 2 ^ low f ≡ 2 ^ (low f + suc (emax f)) * down e =
    mul_right_comm (2 ^ suc (emax f)) (down e) (2 ^ low f) ∙ ap (λ w. w * down e) (mul_comm (2 ^ suc (emax f)) (2 ^ low f) ∙ sym (pow-add 2 (low f) (suc (emax f)))) in
    let scaled : suc m * up e * 2 ^ low f < 2 ^ suc (emax f) * down e * 2 ^ low f = mul-lt-mul_of_pos_right under (pow_pos (low f)) in
    let fine : suc m * 2 ^ j < 2 ^ (low f + suc (emax f)) =
    lt_of_mul-lt-mul_right (down e) (subst (λ w. w < 2 ^ (low f + suc (emax f)) * down e) is (subst (λ w. suc m * up e * 2 ^ low f < w) bound scaled)) in
    same_rounded f s (suc m) e (suc m) j h small fine is

zero_stays : (f : Format) (s : Bool) (e : ℤ) → T (fits f (fin s 0 e)) → round f s (0 * up e) (down e) ≡ fin s 0 e
zero_stays f s e h =
    same_rounded f s 0 e 0 0 h (pow_pos (prec f)) (pow_pos (low f + suc (emax f))) (ap (λ w. w * 2 ^ low f) (zero-mul (up e)) ∙ zero-mul (2 ^ low f) ∙ sym (zero-mul (down e)))

stays : (f : Format) (x : Float) → T (fits f x) → round_to_format f x ≡ x
unfolding round_to_format
stays f nan h = refl
stays f (inf s) h = refl
stays f (fin s zero e) h = zero_stays f s e h
stays f (fin s (suc m) e) h = number_stays f s m e h

-- ---- in a precision

of_precision : (p : Precision) (x : Float) → T (fits (format p) x) → IsOfPrecision p x
of_precision Single x h = stays binary32 x h
of_precision Double x h = refl

pub results_are_of_precision : ResultsAreOfPrecision
results_are_of_precision p x y =
    let f = format p in (
      of_precision p (add f x y) (add-fits f x y),
      of_precision p (sub f x y) (sub-fits f x y),
      of_precision p (mul f x y) (mul-fits f x y),
      of_precision p (div f x y) (div-fits f x y),
      of_precision p (sqrt f x) (sqrt-fits f x),
    )

pub converted_are_of_precision : ConvertedAreOfPrecision
converted_are_of_precision p v a = (of_precision p (of_int (format p) v) (of_int-fits (format p) v), of_precision p (rounded p (real_of a)) (rounded_fits p a))
