-- The bits of q * 2 ^ k of a format's least values, or of infinity where that is too great.
use Rattle.std.specs.Prelude.{◌≡◌, ℕ, zero, suc, ◌+◌, ◌-◌, ◌*◌, ◌/◌, ◌%◌, ◌^◌, ◌<◌, ◌≤◌, Bool, true, false, T}
use mathlib.Core.Path.{refl, sym, ap, ◌∙◌, subst}
use mathlib.Core.Logic.{inl, inr}
use mathlib.Core.Bool.{cond}
use native.Mathlib.Omega.{arith}
use native.Mathlib.Nat.{eq-zero-or-pos, mul-div_cancel, mul-le-mul_right, mod-eq_of_lt, lt_of_lt_of_le, le_trans, le_of_eq, pow-suc}
use lib.Pow.{pow_mono, pow_pos, pow-add, shl_lt}
use lib.Dec.{ltb, leb, eqb}
use lib.Arith.{digits_div, digits_mod}
use Rattle.std.specs.Float.{Float, Format, binary32, binary64, nan, inf, fin}
use Rattle.std.specs.Float.Ieee.{prec, low, emax, hid, ones, top, up, down, size, odd, units, fits, of_bits, of_fields, to_bits}
use Rattle.std.specs.Float.Ieee.Bits.{of_bits-fits, of_bits-to_bits}
use Rattle.std.specs.Float.Ieee.Exact.{HasValue, odd_sign, units_val}
use Rattle.std.specs.Float.Ieee.Fits.{odd-fits, down_pos}
use Rattle.std.proofs.Common.{ltb-true, ltb-false}
use Rattle.std.proofs.lemmas.Bool.{eqb-true}
use lib.Dec.{leb→le}
use Rattle.k_hexadecimal.specs.Hexadecimal.{scaled_bits}

lt-ltb : (a b : ℕ) → a < b → ltb a b ≡ true
lt-ltb a b h = go (ltb a b) refl
  where
    go : (c : Bool) → ltb a b ≡ c → c ≡ true
    go true e = refl
    go false e = absurd (omega (arith, h, ltb-false a b e))

le-ltb : (a b : ℕ) → b ≤ a → ltb a b ≡ false
le-ltb a b h = go (ltb a b) refl
  where
    go : (c : Bool) → ltb a b ≡ c → c ≡ false
    go true e = absurd (omega (arith, h, ltb-true a b e))
    go false e = refl

ne_eqb : (a b : ℕ) → a < b → eqb a b ≡ false
ne_eqb a b h = go (eqb a b) refl
  where
    go : (c : Bool) → eqb a b ≡ c → c ≡ false
    go true e = absurd (omega (arith, h, eqb-true a b e))
    go false e = refl

lt-leb : (a b : ℕ) → b < a → leb a b ≡ false
lt-leb a b h = go (leb a b) refl
  where
    go : (c : Bool) → leb a b ≡ c → c ≡ false
    go true e = absurd (omega (arith, h, leb→le a b (subst T (sym e) tt)))
    go false e = refl

pub record Shape (f : Format) : Type 0 where
  pub twice : 2 ^ prec f ≡ 2 * hid f
  pub some : 2 ^ 23 ≤ hid f
  pub digits : (24 ≤ prec f) × (prec f ≤ 53)
  pub field : (255 ≤ ones f) × (ones f ≤ 2047)
  pub least : (149 ≤ low f) × (low f ≤ 1074)
  pub range : low f + suc (emax f) ≡ prec f + (ones f - 2)

pub shape : (f : Format) → Shape f
shape binary32 = record { twice = refl; some = omega arith; digits = omega arith; field = omega arith; least = omega arith; range = refl }
shape binary64 = record { twice = refl; some = omega arith; digits = omega arith; field = omega arith; least = omega arith; range = refl }

bits_of_value : (f : Format) (x : Float) (s : Bool) (a : ℕ) → HasValue x s a (2 ^ low f) → to_bits f x ≡ cond s (top f) 0 + (size a - prec f) * hid f + a / 2 ^ (size a - prec f)
unfolding to_bits
bits_of_value f nan s a v = absurd v
bits_of_value f (inf t) s a v = absurd v
bits_of_value f (fin t m e) s a v =
    let n : m * up e * 2 ^ low f / down e ≡ a = ap (λ k. k / down e) v.1 ∙ mul-div_cancel a (down_pos e) in
    λ i. cond (v.0 i) (top f) 0 + (size (n i) - prec f) * hid f + n i / 2 ^ (size (n i) - prec f)

same_value : (f : Format) (x y : Float) (s : Bool) (a : ℕ) → T (fits f x) → T (fits f y) → HasValue x s a (2 ^ low f) → HasValue y s a (2 ^ low f) → x ≡ y
same_value f x y s a p q v w = sym (of_bits-to_bits f x p) ∙ ap (of_bits f) (bits_of_value f x s a v ∙ sym (bits_of_value f y s a w)) ∙ of_bits-to_bits f y q

-- the units that an exponent field x and the digits t stand for
abbrev pub field_units : Format → ℕ → ℕ → ℕ
field_units f zero t = t * 2 ^ 0
field_units f (suc j) t = (hid f + t) * 2 ^ j

of_parts : (f : Format) (x t : ℕ) → x ≤ ones f → t < hid f → of_bits f (x * hid f + t) ≡ of_fields f false x t
unfolding of_bits
of_parts f x t X H =
    let b = x * hid f + t in
    let l : b < top f = omega (arith, mul-le-mul_right (hid f) X) in
    let d : b % top f / hid f ≡ x = ap (λ y. y / hid f) (mod-eq_of_lt l) ∙ digits_div x H in
    λ i. of_fields f (lt-leb (top f) b l i) (d i) (digits_mod x H i)

fields_value : (f : Format) (x t : ℕ) → x < ones f → HasValue (of_fields f false x t) false (field_units f x t) (2 ^ low f)
unfolding of_fields
fields_value f zero t X = odd_sign (prec f) false t 0 (low f)
fields_value f (suc j) t X =
    subst (λ (k : Bool). HasValue (cond k (cond (eqb t 0) (inf false) nan) (odd (prec f) false (hid f + t) j (low f))) false (field_units f (suc j) t) (2 ^ low f))
    (sym (ne_eqb (suc j) (ones f) (omega arith))) (odd_sign (prec f) false (hid f + t) j (low f))

pub of_bits_value : (f : Format) (x t : ℕ) → x < ones f → t < hid f → HasValue (of_bits f (x * hid f + t)) false (field_units f x t) (2 ^ low f)
of_bits_value f x t X H = subst (λ y. HasValue y false (field_units f x t) (2 ^ low f)) (sym (of_parts f x t (omega arith) H)) (fields_value f x t X)

field_units-lt : (f : Format) (x t : ℕ) → x < ones f → t < hid f → field_units f x t < 2 ^ (low f + suc (emax f))
field_units-lt f zero t X H = let s = shape f in lt_of_lt_of_le (shl_lt {a = t} (prec f) 0 (omega arith)) (pow_mono (omega arith))
field_units-lt f (suc j) t X H = let s = shape f in lt_of_lt_of_le (shl_lt {a = hid f + t} (prec f) j (omega arith)) (pow_mono (omega arith))

field_units-ge : (f : Format) (x t : ℕ) → ones f ≤ x → 2 ^ (low f + suc (emax f)) ≤ field_units f x t
field_units-ge f zero t X = let s = shape f in absurd (omega arith)
field_units-ge f (suc j) t X =
    let s = shape f in
    let e : low f + suc (emax f) ≤ prec f - 1 + j = omega arith in
    let h : hid f ≤ hid f + t = omega arith in
    le_trans (pow_mono e) (le_trans (le_of_eq (pow-add 2 (prec f - 1) j)) (mul-le-mul_right (2 ^ j) h))

units-fits : (f : Format) (m k : ℕ) → m ≤ 2 ^ prec f → m * 2 ^ k < 2 ^ (low f + suc (emax f)) → T (fits f (units f false m k))
unfolding units
units-fits f m k h l =
    subst (λ (b : Bool). T (fits f (cond b (odd (suc (prec f)) false m k (low f)) (inf false)))) (sym (lt-ltb (m * 2 ^ k) _ l))
    (odd-fits f (suc (prec f)) false m k (omega (arith, pow_pos (prec f))) h l)

pub infinite : (f : Format) → of_bits f (ones f * hid f) ≡ inf false
unfolding of_bits
infinite binary32 = refl
infinite binary64 = refl

overflows : (f : Format) (m k : ℕ) → 2 ^ (low f + suc (emax f)) ≤ m * 2 ^ k → inf false ≡ units f false m k
unfolding units
overflows f m k l = ap (λ (b : Bool). cond b (odd (suc (prec f)) false m k (low f)) (inf false)) (sym (le-ltb (m * 2 ^ k) _ l))

at_fields : (f : Format) (x t m k : ℕ) → t < hid f → m ≤ 2 ^ prec f → field_units f x t ≡ m * 2 ^ k → k * hid f + m ≡ x * hid f + t
    → of_bits f (scaled_bits f m k) ≡ units f false m k
at_fields f x t m k H M e b =
    elim (eq-zero-or-pos (ones f - x)) [
      | inl z ↦
          let X : ones f ≤ x = omega arith in
          let c : scaled_bits f m k ≡ ones f * hid f = omega (arith, mul-le-mul_right (hid f) X) in
          ap (of_bits f) c ∙ infinite f ∙ overflows f m k (le_trans (field_units-ge f x t X) (le_of_eq e))
      | inr p ↦
          let X : x < ones f = omega arith in
          let c : scaled_bits f m k ≡ x * hid f + t = omega (arith, mul-le-mul_right (hid f) X) in
          let l : m * 2 ^ k < 2 ^ (low f + suc (emax f)) = subst (λ a. a < 2 ^ (low f + suc (emax f))) e (field_units-lt f x t X H) in
          ap (of_bits f) c
          ∙ same_value f _ _ false (m * 2 ^ k) (of_bits-fits f _) (units-fits f m k M l)
          (subst (λ a. HasValue (of_bits f (x * hid f + t)) false a (2 ^ low f)) e (of_bits_value f x t X H)) (units_val f false m k l)
    ]

-- The field is 0 below the hidden bit, k + 1 with it, and k + 2 where rounding carried past it.
pub of_bits-scaled_bits : (f : Format) (m k : ℕ) → m ≤ 2 ^ prec f → (0 < k → hid f ≤ m) → of_bits f (scaled_bits f m k) ≡ units f false m k
of_bits-scaled_bits f m k M N =
    let s = shape f in
    elim (eq-zero-or-pos (hid f - m)) [
      | inr p ↦
          let o : k ≡ 0 = elim (eq-zero-or-pos k) [ inl z ↦ z | inr g ↦ absurd (omega (arith, N g)) ] in
          at_fields f 0 m m k (omega arith) M (ap (λ j. m * 2 ^ j) (sym o)) (ap (λ j. j * hid f + m) o)
      | inl z ↦ elim (eq-zero-or-pos (2 * hid f - m)) [
        | inr p ↦ at_fields f (suc k) (m - hid f) m k (omega arith) M (ap (λ a. a * 2 ^ k) {x = hid f + (m - hid f)} {y = m} (omega arith)) (omega arith)
        | inl y ↦
            let e : m ≡ 2 * hid f = omega arith in
            let v : (hid f + 0) * 2 ^ suc k ≡ 2 * hid f * 2 ^ k = omega (arith, ap (λ a. (hid f + 0) * a) (pow-suc 2 k)) in
            at_fields f (suc (suc k)) 0 m k (omega arith) M (v ∙ ap (λ a. a * 2 ^ k) (sym e)) (omega arith)
      ]
    ]
