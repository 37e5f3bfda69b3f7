-- Numbers as lists of digits: what multiplying, taking, dropping and looking up do to the number.
use Rattle.std.specs.Prelude.{◌≡◌, ◌+◌, ◌*◌, ◌-◌, ◌/◌, ◌%◌, ◌^◌, ◌<◌, ◌≤◌, ℕ, zero, suc, Bool, true, false, List, [], ◌∷◌, ◌++◌, ◌==◌, if◌then◌else◌, get_or}
use Rattle.std.proofs.Common.{refl, add-zero, ap, sym, subst, ◌∙◌, arith, add-mul, mul_assoc, mul-le-mul, le_of_suc-le-suc, pow-suc, append_assoc, append-nil, le-mul_of_pos_right}
use native.Mathlib.Nat.{div-div-eq-div-mul, zero-div, pow-succ'}
use Rattle.std.proofs.lemmas.Bool.{eqb-true, eqb-false}
use Rattle.k_real.specs.Digits.{value, AreDigits, Spells, multiplied}
use Rattle.k_real.specs.Texts.{digits}

-- ---- times

one_more : (f c : ℕ) → c ≤ 9 → Spells (multiplied f c []) (0 * f + c)
one_more f c h = go (c == 0) refl
  where
    go : (b : Bool) → (c == 0) ≡ b → Spells (if b then [] else c ∷ []) (0 * f + c)
    go true e = record { digits = tt; value_is = omega (arith, eqb-true c 0 e) }
    go false e = record { digits = (omega arith, omega (arith, eqb-false c 0 e), tt); value_is = omega arith }

product : (x f c v : ℕ) → (x * f + c) % 10 + 10 * (v * f + (x * f + c) / 10) ≡ (x + 10 * v) * f + c
product x f c v =
    let a : (x + 10 * v) * f ≡ x * f + 10 * (v * f) = add-mul x (10 * v) f ∙ ap (λ k. x * f + k) (mul_assoc 10 v f) in
    omega (arith, a)

carry : (x f c : ℕ) → x < 10 → f ≤ 9 → c ≤ 9 → (x * f + c) / 10 ≤ 9
carry x f c h k l = let m : x * f ≤ 9 * 9 = mul-le-mul (le_of_suc-le-suc h) k in omega arith

some : (x f c v : ℕ) → 1 ≤ f → 0 < x + 10 * v → 0 < (x * f + c) % 10 + 10 * (v * f + (x * f + c) / 10)
some x f c v h k =
    let m : (x + 10 * v) ≤ (x + 10 * v) * f = le-mul_of_pos_right (x + 10 * v) h in
    subst (λ w. 0 < w) (sym (product x f c v)) (omega arith)

pub multiplied_spells : (f c : ℕ) (xs : List ℕ) → 1 ≤ f → f ≤ 9 → c ≤ 9 → AreDigits xs → Spells (multiplied f c xs) (value xs * f + c)
multiplied_spells f c [] h k l d = one_more f c l
multiplied_spells f c (x ∷ xs) h k l d =
    let y = (x * f + c) / 10 in
    let r = multiplied_spells f y xs h k (carry x f c d.0 k l) d.2 in
    let v = r.value_is in
    record {
      digits = (omega arith, subst (λ w. 0 < (x * f + c) % 10 + 10 * w) (sym v) (some x f c (value xs) h d.1), r.digits);
      value_is = ap (λ w. (x * f + c) % 10 + 10 * w) v ∙ product x f c (value xs);
    }

pub times_spells : (f c : ℕ) (xs ys : List ℕ) → 1 ≤ f → f ≤ 9 → c ≤ 9 → AreDigits xs → ys ≡ multiplied f c xs → Spells ys (value xs * f + c)
times_spells f c xs ys h k l d is = subst (λ z. Spells z (value xs * f + c)) (sym is) (multiplied_spells f c xs h k l d)

-- ---- the digit at a place

next_digit : (x v k : ℕ) → x < 10 → v / 10 ^ k % 10 ≡ (x + 10 * v) / 10 ^ suc k % 10
next_digit x v k h =
    let whole : (x + 10 * v) / 10 ≡ v = omega arith in
    ap (λ w. w % 10) (ap (λ w. w / 10 ^ k) (sym whole) ∙ div-div-eq-div-mul (x + 10 * v) 10 (10 ^ k) ∙ ap (λ w. (x + 10 * v) / w) (sym (pow-succ' 10 k)))

pub digit_is : (xs : List ℕ) (k : ℕ) → AreDigits xs → get_or xs k 0 ≡ value xs / 10 ^ k % 10
digit_is [] k d = sym (ap (λ w. w % 10) (zero-div (10 ^ k)))
digit_is (x ∷ xs) zero d = let b = d.0 in omega arith
digit_is (x ∷ xs) (suc k) d = digit_is xs k d.2 ∙ next_digit x (value xs) k d.0

-- ---- digits written from the highest on

pub next_written : (v left : ℕ) → 0 < left → digits left v ≡ (48 + v / 10 ^ (left - 1) % 10) ∷ digits (left - 1) v
unfolding digits
next_written v zero h = absurd (omega arith)
next_written v (suc k) h = let e : suc k - 1 ≡ k = omega arith in rw e refl

pub written_on : (start out rest more : List ℕ) (d : ℕ) → out ++ rest ≡ start → rest ≡ d ∷ more → (out ++ d ∷ []) ++ more ≡ start
written_on start out rest more d is next = append_assoc out (d ∷ []) more ∙ ap (λ l. out ++ l) (sym next) ∙ is

-- ---- the digits of a number, by its bits

pub next_bit : (n left : ℕ) → 0 < left → n / 2 ^ left * 2 + n / 2 ^ (left - 1) % 2 ≡ n / 2 ^ (left - 1)
next_bit n zero h = absurd (omega arith)
next_bit n (suc k) h =
    let e : suc k - 1 ≡ k = omega arith in
    let half : n / 2 ^ suc k ≡ n / 2 ^ k / 2 = ap (λ w. n / w) (pow-suc 2 k) ∙ sym (div-div-eq-div-mul n (2 ^ k) 2) in
    rw e (omega (arith, half))

pub spelled_bit : (n left : ℕ) (ys zs : List ℕ) → 0 < left → Spells ys (n / 2 ^ left) → Spells zs (value ys * 2 + n / 2 ^ (left - 1) % 2) → Spells zs (n / 2 ^ (left - 1))
spelled_bit n left ys zs h y z =
    subst (Spells zs) (ap (λ w. w * 2 + n / 2 ^ (left - 1) % 2) y.value_is ∙ next_bit n left h) z

pub spelled_power : (v f k : ℕ) (ys zs : List ℕ) → Spells ys (v * f ^ k) → Spells zs (value ys * f + 0) → Spells zs (v * f ^ (k + 1))
spelled_power v f k ys zs y z =
    let e : k + 1 ≡ suc k = omega arith in
    subst (Spells zs) (add-zero (value ys * f) ∙ ap (λ w. w * f) y.value_is ∙ mul_assoc v (f ^ k) f ∙ ap (λ w. v * w) (sym (pow-suc f k)) ∙ ap (λ w. v * f ^ w) (sym e)) z

pub written_out : (out start : List ℕ) (v left : ℕ) → left ≡ 0 → out ++ digits left v ≡ start → out ≡ start
unfolding digits
written_out out start v zero e is = sym (append-nil out) ∙ is
written_out out start v (suc left) e is = absurd (omega (arith, e))
