-- The doubles that are powers of two, by their codes.
use Rattle.std.specs.Prelude.{◌≡◌, ◌+◌, ◌*◌, ◌-◌, ◌/◌, ◌%◌, ◌^◌, ◌<◌, ◌≤◌, ℕ, suc, Bool, true, false, T}
use native.Mathlib.Nat.{mod-eq_of_lt}
use Rattle.std.proofs.Common.{refl, ap, sym, subst, ◌∙◌, arith, mul-one}
use Rattle.std.proofs.lemmas.Bool.{eqb-true}
use lib.Pow.{pow-add, pow-lt}
use Rattle.std.proofs.lemmas.Nat.{one_shl}
use lib.Dec.{leb, eqb, leb→le}
use mathlib.Core.Bool.{cond}
use Rattle.std.specs.Float.{Float, binary64, nan, inf}
use Rattle.std.specs.Float.Ieee.{odd, of_bits, of_fields}
use Rattle.std.specs.Float.Ieee.Exact.{HasValue, odd_sign}
use Rattle.k_real.specs.Codes.{real_of}
use Rattle.k_real.specs.Sizes.{unit_places, field}

-- a code's fields, of a double without a minus
by_fields : (a x t v : ℕ) → a < 2 ^ 63 → field a ≡ x → a % 2 ^ 52 ≡ t → HasValue (of_fields binary64 false x t) false v (2 ^ unit_places) → HasValue (real_of a) false v (2 ^ unit_places)
unfolding of_bits
by_fields a x t v below is js h =
    subst (λ s. HasValue (of_fields binary64 s (field a) (a % 2 ^ 52)) false v (2 ^ unit_places)) (sym (go (leb (2 ^ 63) a) refl))
    (subst (λ w. HasValue (of_fields binary64 false w (a % 2 ^ 52)) false v (2 ^ unit_places)) (sym is)
    (subst (λ w. HasValue (of_fields binary64 false x w) false v (2 ^ unit_places)) (sym js) h))
  where
    go : (b : Bool) → leb (2 ^ 63) a ≡ b → leb (2 ^ 63) a ≡ false
    go true e = absurd (omega (arith, below, leb→le (2 ^ 63) a (subst T (sym e) tt)))
    go false e = e

subnormal : (t : ℕ) → HasValue (of_fields binary64 false 0 t) false t (2 ^ unit_places)
unfolding of_fields unit_places
subnormal t = subst (λ v. HasValue (odd 53 false t 0 1074) false v (2 ^ 1074)) (mul-one t) (odd_sign 53 false t 0 1074)

normal : (x t : ℕ) → x < 2046 → HasValue (of_fields binary64 false (suc x) t) false ((2 ^ 52 + t) * 2 ^ x) (2 ^ unit_places)
unfolding of_fields unit_places
normal x t h = go (eqb (suc x) 2047) refl
  where
    go : (b : Bool) → eqb (suc x) 2047 ≡ b → HasValue (cond b (cond (eqb t 0) (inf false) nan) (odd 53 false (2 ^ 52 + t) x 1074)) false ((2 ^ 52 + t) * 2 ^ x) (2 ^ 1074)
    go true e = absurd (omega (arith, h, eqb-true (suc x) 2047 e))
    go false e = odd_sign 53 false (2 ^ 52 + t) x 1074

pub low_power : (k : ℕ) (x : Float) → k < 52 → x ≡ real_of (1 * 2 ^ k % 2 ^ 64) → HasValue x false (2 ^ k) (2 ^ unit_places)
low_power k x h is =
    let small : 2 ^ k < 2 ^ 52 = pow-lt h in
    let whole : 1 * 2 ^ k % 2 ^ 64 ≡ 2 ^ k = one_shl k 64 (omega arith) in
    subst (λ z. HasValue z false (2 ^ k) (2 ^ unit_places)) (sym (is ∙ ap real_of whole))
    (by_fields (2 ^ k) 0 (2 ^ k) (2 ^ k) (omega (arith, small)) (none (2 ^ k) small) (mod-eq_of_lt small) (subnormal (2 ^ k)))
  where
    none : (n : ℕ) → n < 2 ^ 52 → n % 2 ^ 63 / 2 ^ 52 ≡ 0
    none n p = omega (arith, p)

high_fields : (x : ℕ) → x < 2046 → ((suc x * 2 ^ 52) < 2 ^ 63) × (suc x * 2 ^ 52 % 2 ^ 63 / 2 ^ 52 ≡ suc x) × (suc x * 2 ^ 52 % 2 ^ 52 ≡ 0)
high_fields x h = (omega arith, omega arith, omega arith)

pub high_power : (k : ℕ) (x : Float) → 52 ≤ k → k < 2047 → x ≡ real_of ((k - 51) * 2 ^ 52) → HasValue x false (2 ^ k) (2 ^ unit_places)
high_power k x from below is =
    let y = k - 52 in
    let next : k - 51 ≡ suc y = omega arith in
    let sum : 52 + y ≡ k = omega arith in
    let parts = high_fields y (omega arith) in
    subst (λ z. HasValue z false (2 ^ k) (2 ^ unit_places)) (sym (is ∙ ap (λ w. real_of (w * 2 ^ 52)) next))
    (subst (λ w. HasValue (real_of (suc y * 2 ^ 52)) false w (2 ^ unit_places)) (sym (pow-add 2 52 y) ∙ ap (λ w. 2 ^ w) sum)
    (by_fields (suc y * 2 ^ 52) (suc y) 0 (2 ^ 52 * 2 ^ y) parts.0 parts.1 parts.2 (normal y 0 (omega arith))))
