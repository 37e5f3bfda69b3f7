-- Values by their exponents, near and far.
use Rattle.std.specs.Prelude.{◌≡◌, ◌+◌, ◌*◌, ◌^◌, ◌<◌, ◌≤◌, ◌==◌, ℕ, suc, min, Bool, true, false, ◌||◌, List, if◌then◌else◌, Option, Some, None, pos}
use native.Mathlib.Nat.{zero-mul, one-mul, mul-pos, mul-lt-mul_of_pos_right, mul-le-mul_right, mul-le-mul_left, le_trans, le_of_eq}
use Rattle.std.proofs.Common.{refl, ap, sym, subst, ◌∙◌, arith, mul_assoc, mul-one, ltb-true, ltb-false}
use Rattle.std.proofs.lemmas.Bool.{eqb-true, eqb-false}
use lib.Dec.{ltb}
use lib.Pow.{pow-add, pow_pos, pow_mono}
use Rattle.std.specs.Float.{inf, fin, float_is_finite}
use Rattle.std.specs.Float.Ieee.{low, emax, to_bits}
use Rattle.k_real.specs.declared.precision.Precision.{Precision}
use Rattle.k_real.specs.declared.precision.Precision.TheVariants.{Single, Double}
use Rattle.k_real.specs.Codes.{format}
use Rattle.k_real.specs.Constants.{finite_code}
use Rattle.k_hexadecimal.specs.declared.hexadecimal.Significand.{Significand}
use Rattle.k_hexadecimal.specs.Hexadecimal.{decimal, is_number, code_with, with_power, IsOf, far_code_of}
use Rattle.k_hexadecimal.proofs.SizedLaws.{far_up, far_down}
use Rattle.k_hexadecimal.proofs.HexadecimalLaws.{hex_power, sixteen_pos, no_head, some_number, number_below}

zero_is_code : finite_code (fin false 0 (pos 0)) ≡ Some 0
unfolding float_is_finite to_bits
zero_is_code = refl

infinity_is_none : finite_code (inf false) ≡ None
unfolding float_is_finite
infinity_is_none = refl

small_low : (p : Precision) → low (format p) ≤ 1074
small_low Single = omega arith
small_low Double = omega arith

small_emax : (p : Precision) → emax (format p) ≤ 1023
small_emax Single = omega arith
small_emax Double = omega arith

pub zero_code : (p : Precision) (m up down n : ℕ) → m ≡ 0 → Some 0 ≡ code_with p m up down n
unfolding code_with
zero_code p m up down n h =
    let num : m * 2 ^ up ≡ 0 = ap (λ w. w * 2 ^ up) h ∙ zero-mul (2 ^ up) in
    let all : m * 2 ^ up * 2 ^ low (format p) * 2 ≡ 0 = ap (λ w. w * 2 ^ low (format p) * 2) num ∙ ap (λ w. w * 2) (zero-mul (2 ^ low (format p))) in
    let some : 0 < 2 ^ down * 16 ^ n = mul-pos (pow_pos down) (sixteen_pos n) in
    sym (ap finite_code (far_down (format p) (m * 2 ^ up) (2 ^ down * 16 ^ n) (subst (λ w. w < 2 ^ down * 16 ^ n) (sym all) some)) ∙ zero_is_code)

-- far below
pub small_code : (p : Precision) (s : Significand) (m down n : ℕ) → IsOf s m → s.dropped ≤ 2 ^ 66 → 1208925819614629174706176 ≤ down → Some 0 ≡ code_with p m 0 down n
unfolding code_with
small_code p s m down n h room far =
    let l = low (format p) in
    let e = 60 + 4 * s.dropped in
    let one : m * 2 ^ 0 ≡ m = mul-one m in
    let wide : m * 2 ^ (l + 1) < 2 ^ e * 2 ^ (l + 1) = mul-lt-mul_of_pos_right (number_below s m h) (pow_pos (l + 1)) in
    let bound : 2 ^ e * 2 ^ (l + 1) ≤ 2 ^ down = le_trans (le_of_eq (sym (pow-add 2 e (l + 1)))) (pow_mono {i = e + (l + 1)} {j = down} (omega (arith, small_low p, room, far))) in
    let more : 2 ^ down * 1 ≤ 2 ^ down * 16 ^ n = mul-le-mul_left (2 ^ down) (sixteen_pos n) in
    let flat : m * 2 ^ 0 * 2 ^ l * 2 ≡ m * 2 ^ (l + 1) = ap (λ w. w * 2 ^ l * 2) one ∙ mul_assoc m (2 ^ l) 2 ∙ ap (λ w. m * w) (sym (pow-add 2 l 1)) in
    sym (ap finite_code (far_down (format p) (m * 2 ^ 0) (2 ^ down * 16 ^ n) (omega (arith, flat, wide, bound, more))) ∙ zero_is_code)

-- far above
pub great_code : (p : Precision) (m up n : ℕ) → 0 < m → n < 2 ^ 64 → 1208925819614629174706176 ≤ up → None ≡ code_with p m up 0 n
unfolding code_with
great_code p m up n some room far =
    let e = suc (emax (format p)) in
    let den : 2 ^ 0 * 16 ^ n ≡ 2 ^ (4 * n) = one-mul (16 ^ n) ∙ sym (hex_power n) in
    let bound : 2 ^ e * 2 ^ (4 * n) ≤ 2 ^ up = le_trans (le_of_eq (sym (pow-add 2 e (4 * n)))) (pow_mono {i = e + 4 * n} {j = up} (omega (arith, small_emax p, room, far))) in
    let more : 1 * 2 ^ up ≤ m * 2 ^ up = mul-le-mul_right (2 ^ up) some in
    let whole : 2 ^ e * (2 ^ 0 * 16 ^ n) ≤ m * 2 ^ up = subst (λ w. 2 ^ e * w ≤ m * 2 ^ up) (sym den) (omega (arith, bound, more)) in
    sym (ap finite_code (far_up (format p) (m * 2 ^ up) (2 ^ 0 * 16 ^ n) (mul-pos (pow_pos 0) (sixteen_pos n)) whole) ∙ infinity_is_none)

-- ---- by the digits of an exponent

pub no_power : (p : Precision) (m n : ℕ) (minus : Bool) (ds : List ℕ) → is_number ds ≡ false → None ≡ with_power p m n minus ds
unfolding with_power
no_power p m n minus ds h = sym (ap (λ c. if c then (if minus then code_with p m 0 (decimal 0 ds) n else code_with p m (decimal 0 ds) 0 n) else None) h)

by_power : (p : Precision) (m n : ℕ) (minus : Bool) (ds : List ℕ) → is_number ds ≡ true → with_power p m n minus ds ≡ (if minus then code_with p m 0 (decimal 0 ds) n else code_with p m (decimal 0 ds) 0 n)
unfolding with_power
by_power p m n minus ds h = ap (λ c. if c then (if minus then code_with p m 0 (decimal 0 ds) n else code_with p m (decimal 0 ds) 0 n) else None) h

near : (e v : ℕ) → e ≡ min v 1208925819614629174706176 → (e ≡ 1208925819614629174706176 → ⊥) → e ≡ v
near e v is h = go (ltb v 1208925819614629174706176) refl
  where
    go : (c : Bool) → ltb v 1208925819614629174706176 ≡ c → e ≡ v
    go true t = omega (arith, is, ltb-true v 1208925819614629174706176 t)
    go false t = absurd (h (omega (arith, is, ltb-false v 1208925819614629174706176 t)))

pub power_down : (p : Precision) (m n e : ℕ) (minus : Bool) (ds : List ℕ) (r : Option ℕ) → is_number ds ≡ true → minus ≡ true → e ≡ min (decimal 0 ds) 1208925819614629174706176 → (e ≡ 1208925819614629174706176 → ⊥) → r ≡ code_with p m 0 e n
    → r ≡ with_power p m n minus ds
power_down p m n e minus ds r h t is not_far code =
    code ∙ ap (λ w. code_with p m 0 w n) (near e (decimal 0 ds) is not_far) ∙ sym (by_power p m n minus ds h ∙ ap (λ c. if c then code_with p m 0 (decimal 0 ds) n else code_with p m (decimal 0 ds) 0 n) t)

pub power_up : (p : Precision) (m n e : ℕ) (minus : Bool) (ds : List ℕ) (r : Option ℕ) → is_number ds ≡ true → minus ≡ false → e ≡ min (decimal 0 ds) 1208925819614629174706176 → (e ≡ 1208925819614629174706176 → ⊥) → r ≡ code_with p m e 0 n
    → r ≡ with_power p m n minus ds
power_up p m n e minus ds r h t is not_far code =
    code ∙ ap (λ w. code_with p m w 0 n) (near e (decimal 0 ds) is not_far) ∙ sym (by_power p m n minus ds h ∙ ap (λ c. if c then code_with p m 0 (decimal 0 ds) n else code_with p m (decimal 0 ds) 0 n) t)

far_is : (e v : ℕ) → e ≡ min v 1208925819614629174706176 → e ≡ 1208925819614629174706176 → 1208925819614629174706176 ≤ v
far_is e v is h = omega (arith, is, h)

pub power_far : (p : Precision) (s : Significand) (m n e : ℕ) (minus : Bool) (ds : List ℕ) → IsOf s m → s.dropped ≤ 2 ^ 66 → n < 2 ^ 64 → is_number ds ≡ true → e ≡ min (decimal 0 ds) 1208925819614629174706176 → e ≡ 1208925819614629174706176
    → far_code_of (s.head) minus ≡ with_power p m n minus ds
power_far p s m n e minus ds h room few num is far = go minus (s.head == 0) refl
  where
    v : ℕ
    v = decimal 0 ds

    beyond : 1208925819614629174706176 ≤ v
    beyond = far_is e v is far

    some_head : (s.head == 0) ≡ false → 0 < s.head
    some_head t = omega (arith, eqb-false (s.head) 0 t)

    go : (b c : Bool) → (s.head == 0) ≡ c → (if c || b then Some 0 else None) ≡ with_power p m n b ds
    go true true t = zero_code p m 0 v n (no_head s m (eqb-true (s.head) 0 t) h) ∙ sym (by_power p m n true ds num)
    go false true t = zero_code p m v 0 n (no_head s m (eqb-true (s.head) 0 t) h) ∙ sym (by_power p m n false ds num)
    go true false t = small_code p s m v n h room beyond ∙ sym (by_power p m n true ds num)
    go false false t = great_code p m v n (some_number s m (some_head t) h) few beyond ∙ sym (by_power p m n false ds num)
