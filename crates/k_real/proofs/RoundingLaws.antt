-- Digits cut off a number: what stands before and behind, and how the number is rounded.
use Rattle.std.specs.Prelude.{◌≡◌, ◌+◌, ◌*◌, ◌-◌, ◌/◌, ◌%◌, ◌^◌, ◌<◌, ◌≤◌, ℕ, zero, suc, Bool, true, false, List, [], ◌∷◌, ◌++◌, ◌==◌, if◌then◌else◌, length, take, drop, replicate, T, not, nat_lt}
use Prim.Native.Nat.{compare, Ordering}
use native.Mathlib.Nat.{div-div-eq-div-mul, zero-div, pow-succ', mul-add-mod_self_left, mod-eq_of_lt, div-eq_of_lt, div-add-mod', mod-lt, mul_left_comm, le_of_eq, mul-le-mul_right, mul-pos, zero-mul, suc-mul, one-le-pow, pow-le-pow_right, zero-lt-suc}
use Rattle.std.proofs.Common.{refl, ap, sym, subst, ◌∙◌, arith, add-mul, mul_assoc, mul_comm, div-one, mul-one, ltb-true, ltb-false}
use Rattle.std.proofs.lemmas.Bool.{eqb-true, eqb-false}
use Rattle.std.proofs.lemmas.List.{length-drop, take_all}
use lib.Dec.{is_le, compare_is_eq, leb, ltb, eqb, le→leb, eqb_refl, leb→le}
use Rattle.std.specs.Float.Ieee.{nearest}
use Rattle.std.specs.Float.Ieee.Nearest.{closest}
use Rattle.k_real.specs.Digits.{value, AreDigits, Spells, is_up, up_by}

pub ten_pos : (k : ℕ) → 0 < 10 ^ k
ten_pos k = one-le-pow k 10 (zero-lt-suc 9)

-- ---- a number in two

pub whole_below : (xs : List ℕ) → AreDigits xs → value xs < 10 ^ length xs
whole_below [] d = omega arith
whole_below (x ∷ xs) d =
    let h = whole_below xs d.2 in
    let b = d.0 in
    let p : 10 ^ suc (length xs) ≡ 10 * 10 ^ length xs = pow-succ' 10 (length xs) in
    subst (λ w. x + 10 * value xs < w) (sym p) (omega arith)

tail_of : (x v k : ℕ) → x < 10 → (x + 10 * v) / 10 ^ suc k ≡ v / 10 ^ k
tail_of x v k h =
    let whole : (x + 10 * v) / 10 ≡ v = omega arith in
    ap (λ w. (x + 10 * v) / w) (pow-succ' 10 k) ∙ sym (div-div-eq-div-mul (x + 10 * v) 10 (10 ^ k)) ∙ ap (λ w. w / 10 ^ k) whole

pub dropped_value : (k : ℕ) (xs : List ℕ) → AreDigits xs → value (drop k xs) ≡ value xs / 10 ^ k
dropped_value zero xs d = sym (div-one (value xs))
dropped_value (suc k) [] d = sym (zero-div (10 ^ suc k))
dropped_value (suc k) (x ∷ xs) d = dropped_value k xs d.2 ∙ sym (tail_of x (value xs) k d.0)

pub dropped_digits : (k : ℕ) (xs : List ℕ) → AreDigits xs → AreDigits (drop k xs)
dropped_digits zero xs d = d
dropped_digits (suc k) [] d = tt
dropped_digits (suc k) (x ∷ xs) d = dropped_digits k xs d.2

-- (q is v / p and r is v % p)
rest_of : (x q r p : ℕ) → x < 10 → r < p → (x + 10 * (q * p + r)) % (10 * p) ≡ x + 10 * r
rest_of x q r p h k =
    let a : 10 * (q * p) ≡ 10 * p * q = mul_left_comm 10 q p ∙ mul_comm q (10 * p) in
    let b : x + 10 * (q * p + r) ≡ 10 * p * q + (x + 10 * r) = omega (arith, a) in
    ap (λ w. w % (10 * p)) b ∙ mul-add-mod_self_left (10 * p) q (x + 10 * r) ∙ mod-eq_of_lt (omega arith)

pub taken_value : (k : ℕ) (xs : List ℕ) → AreDigits xs → value (take k xs) ≡ value xs % 10 ^ k
taken_value zero xs d = omega arith
taken_value (suc k) [] d = omega arith
taken_value (suc k) (x ∷ xs) d =
    let v = value xs in
    let p = 10 ^ k in
    ap (λ w. x + 10 * w) (taken_value k xs d.2)
    ∙ sym (rest_of x (v / p) (v % p) p d.0 (mod-lt v (ten_pos k)))
    ∙ ap (λ w. (x + 10 * w) % (10 * p)) (div-add-mod' v p)
    ∙ ap (λ w. (x + 10 * v) % w) (sym (pow-succ' 10 k))

-- ---- comparing

is_lt : (o : Ordering) → T (is_le o) → T (not (compare_is_eq o)) → o ≡ Ordering.lt
is_lt Ordering.lt a b = refl
is_lt Ordering.eq a b = absurd b
is_lt Ordering.gt a b = absurd a

pub compare_less : (a b : ℕ) → a < b → compare a b ≡ Ordering.lt
compare_less a b h = is_lt (compare a b) (le→leb a b (omega arith)) (not_equal (eqb a b) refl)
  where
    not_equal : (c : Bool) → eqb a b ≡ c → T (not c)
    not_equal true e = absurd (omega (arith, eqb-true a b e))
    not_equal false e = tt

is_equal : (o : Ordering) → T (compare_is_eq o) → o ≡ Ordering.eq
is_equal Ordering.lt a = absurd a
is_equal Ordering.eq a = refl
is_equal Ordering.gt a = absurd a

pub compare_same : (a b : ℕ) → a ≡ b → compare a b ≡ Ordering.eq
compare_same a b h = is_equal (compare a b) (subst (λ w. T (eqb a w)) h (eqb_refl a))

is_gt : (o : Ordering) → T (not (is_le o)) → o ≡ Ordering.gt
is_gt Ordering.lt a = absurd a
is_gt Ordering.eq a = absurd a
is_gt Ordering.gt a = refl

pub compare_more : (a b : ℕ) → b < a → compare a b ≡ Ordering.gt
compare_more a b h = is_gt (compare a b) (not_less (leb a b) refl)
  where
    not_less : (c : Bool) → leb a b ≡ c → T (not c)
    not_less true e = absurd (omega (arith, leb→le a b (subst T (sym e) tt)))
    not_less false e = tt

-- ---- the first digit that is cut off decides, where it is no 5; else the others, and else the last digit that stays

split_up : (q p r : ℕ) → q * p + r ≡ p * 10 * (q / 10) + (q % 10 * p + r)
split_up q p r =
    let u = q / 10 in
    let t = q % 10 in
    let a : q * p ≡ u * 10 * p + t * p = ap (λ z. z * p) (sym (div-add-mod' q 10)) ∙ add-mul (u * 10) t p in
    let b : u * 10 * p ≡ p * 10 * u = mul_assoc u 10 p ∙ mul_comm u (10 * p) ∙ ap (λ z. z * u) (mul_comm 10 p) in
    omega (arith, a, b)

-- w % 10 ^ (k + 1) is the digit at k, times 10 ^ k, and the others
cut_off : (w k : ℕ) → w % 10 ^ suc k ≡ w / 10 ^ k % 10 * 10 ^ k + w % 10 ^ k
cut_off w k =
    let p = 10 ^ k in
    let q = w / p in
    let r = w % p in
    let t = q % 10 in
    let r_below : r < p = mod-lt w (ten_pos k) in
    let t_below : t < 10 = mod-lt q (omega arith) in
    let m : suc t * p ≤ 10 * p = mul-le-mul_right p t_below in
    let n : suc t * p ≡ t * p + p = suc-mul t p in
    let below : (t * p + r) < p * 10 = omega (arith, m, n, r_below) in
    let parts : w ≡ p * 10 * (q / 10) + (t * p + r) = sym (div-add-mod' w p) ∙ split_up q p r in
    let e : 10 ^ suc k ≡ p * 10 = pow-succ' 10 k ∙ mul_comm 10 p in
    ap (λ m. w % m) e ∙ ap (λ u. u % (p * 10)) parts ∙ mul-add-mod_self_left (p * 10) (q / 10) (t * p + r) ∙ mod-eq_of_lt below

abbrev Compared : ℕ → ℕ → Ordering
Compared w k = compare (w % 10 ^ suc k * 2) (10 ^ suc k)

compared : (w k : ℕ) → Compared w k ≡ compare ((w / 10 ^ k % 10 * 10 ^ k + w % 10 ^ k) * 2) (10 * 10 ^ k)
compared w k = ap (λ a. compare (a * 2) (10 ^ suc k)) (cut_off w k) ∙ ap (compare ((w / 10 ^ k % 10 * 10 ^ k + w % 10 ^ k) * 2)) (pow-succ' 10 k)

small : (t r p : ℕ) → t < 5 → r < p → compare ((t * p + r) * 2) (10 * p) ≡ Ordering.lt
small t r p h k = let m : t * p ≤ 4 * p = mul-le-mul_right p (omega arith) in compare_less _ _ (omega (arith, m))

great : (t r p : ℕ) → 5 < t → 0 < p → compare ((t * p + r) * 2) (10 * p) ≡ Ordering.gt
great t r p h k = let m : 6 * p ≤ t * p = mul-le-mul_right p h in compare_more _ _ (omega (arith, m))

above_half : (r p : ℕ) → 0 < r → compare ((5 * p + r) * 2) (10 * p) ≡ Ordering.gt
above_half r p h = compare_more _ _ (omega arith)

half : (r p : ℕ) → r ≡ 0 → compare ((5 * p + r) * 2) (10 * p) ≡ Ordering.eq
half r p h = compare_same _ _ (omega (arith, h))

even_digit : (q : ℕ) → q % 10 % 2 ≡ q % 2
even_digit q = omega arith

tie : (q last : ℕ) → last ≡ q % 10 → (last % 2 == 1) ≡ (q % 2 == 1)
tie q last is = ap (λ w. w == 1) (ap (λ w. w % 2) is ∙ even_digit q)

by_first : (t r p q last : ℕ) (five exact : Bool) → (t == 5) ≡ five → (r == 0) ≡ exact → r < p → last ≡ q % 10
    → (if five then (if exact then last % 2 == 1 else true) else nat_lt 5 t) ≡ is_up q (compare ((t * p + r) * 2) (10 * p))
by_first t r p q last true true f e h is =
    tie q last is ∙ sym (ap (is_up q) (ap (λ w. compare ((w * p + r) * 2) (10 * p)) (eqb-true t 5 f) ∙ half r p (eqb-true r 0 e)))
by_first t r p q last true false f e h is =
    sym (ap (is_up q) (ap (λ w. compare ((w * p + r) * 2) (10 * p)) (eqb-true t 5 f) ∙ above_half r p (omega (arith, eqb-false r 0 e))))
by_first t r p q last false exact f e h is = by_size (nat_lt 5 t) refl
  where
    by_size : (b : Bool) → nat_lt 5 t ≡ b → nat_lt 5 t ≡ is_up q (compare ((t * p + r) * 2) (10 * p))
    by_size true s = s ∙ sym (ap (is_up q) (great t r p (ltb-true 5 t s) (omega arith)))
    by_size false s = s ∙ sym (ap (is_up q) (small t r p (omega (arith, ltb-false 5 t s, eqb-false t 5 f)) h))

pub up_is : (w many : ℕ) → 0 < many → up_by (w / 10 ^ (many - 1) % 10) (w % 10 ^ (many - 1) == 0) (w / 10 ^ many % 10) ≡ is_up (w / 10 ^ many) (compare (w % 10 ^ many * 2) (10 ^ many))
up_is w zero h = absurd (omega arith)
up_is w (suc k) h =
    let e : suc k - 1 ≡ k = omega arith in
    rw e (by_first (w / 10 ^ k % 10) (w % 10 ^ k) (10 ^ k) (w / 10 ^ suc k) (w / 10 ^ suc k % 10) (w / 10 ^ k % 10 == 5) (w % 10 ^ k == 0) refl refl (mod-lt w (ten_pos k)) refl
    ∙ sym (ap (is_up (w / 10 ^ suc k)) (compared w k)))

-- ---- the number that is the nearest

pub nearest_is : (q : ℕ) (o : Ordering) (m : ℕ) → m ≡ (if is_up q o then 1 else 0) → q * 1 + m ≡ nearest q o
nearest_is q Ordering.lt m h = omega (arith, h)
nearest_is q Ordering.eq m h = go (q % 2 == 1) refl (h)
  where
    go : (b : Bool) → (q % 2 == 1) ≡ b → m ≡ (if q % 2 == 1 then 1 else 0) → q * 1 + m ≡ q + q % 2
    go true e i = omega (arith, eqb-true (q % 2) 1 e, i ∙ ap (λ b. if b then 1 else 0) e)
    go false e i = omega (arith, eqb-false (q % 2) 1 e, i ∙ ap (λ b. if b then 1 else 0) e)
nearest_is q Ordering.gt m h = omega (arith, h)

pub narrowed_spells : (xs ys : List ℕ) (many more : ℕ) → AreDigits xs → more ≡ (if is_up (value xs / 10 ^ many) (compare (value xs % 10 ^ many * 2) (10 ^ many)) then 1 else 0)
    → Spells ys (value (drop many xs) * 1 + more) → Spells ys (closest (value xs) (10 ^ many))
narrowed_spells xs ys many more d m s =
    subst (Spells ys) (ap (λ w. w * 1 + more) (dropped_value many xs d) ∙ nearest_is (value xs / 10 ^ many) (compare (value xs % 10 ^ many * 2) (10 ^ many)) more m) s

-- all digits and more are cut off
pub nothing_left : (xs : List ℕ) (many : ℕ) → AreDigits xs → length xs < many → Spells [] (closest (value xs) (10 ^ many))
nothing_left xs many d h =
    let w = value xs in
    let a : w < 10 ^ length xs = whole_below xs d in
    let b : 10 * 10 ^ length xs ≤ 10 ^ many = subst (λ u. u ≤ 10 ^ many) (pow-succ' 10 (length xs)) (pow-le-pow_right (zero-lt-suc 9) h) in
    let c : w < 10 ^ many = omega (arith, a, b) in
    let e : (w * 2) < 10 ^ many = omega (arith, a, b) in
    record {
      digits = tt;
      value_is = sym (ap (λ o. nearest (w / 10 ^ many) o) (ap (λ u. compare (u * 2) (10 ^ many)) (mod-eq_of_lt c) ∙ compare_less _ _ e) ∙ div-eq_of_lt c);
    }

-- ---- zeros before a number

zeros_value : (many : ℕ) (xs : List ℕ) → value (replicate many 0 ++ xs) ≡ value xs * 10 ^ many
zeros_value zero xs = sym (mul-one (value xs))
zeros_value (suc k) xs =
    let h = zeros_value k xs in
    let z : value (replicate {A = ℕ} (suc k) 0 ++ xs) ≡ 10 * value (replicate {A = ℕ} k 0 ++ xs) = omega arith in
    z ∙ ap (λ w. 10 * w) h ∙ mul_left_comm 10 (value xs) (10 ^ k) ∙ ap (λ w. value xs * w) (sym (pow-succ' 10 k))

zeros_digits : (many : ℕ) (xs : List ℕ) → 0 < value xs → AreDigits xs → AreDigits (replicate many 0 ++ xs)
zeros_digits zero xs h d = d
zeros_digits (suc k) xs h d =
    let v : value (replicate k 0 ++ xs) ≡ value xs * 10 ^ k = zeros_value k xs in
    let p : 0 < value xs * 10 ^ k = mul-pos h (ten_pos k) in
    (omega arith, omega (arith, v, p), zeros_digits k xs h d)

some_value : (xs : List ℕ) → AreDigits xs → 0 < length xs → 0 < value xs
some_value [] d h = absurd (omega arith)
some_value (x ∷ xs) d h = d.1

pub widened_spells : (xs ys : List ℕ) (many : ℕ) → AreDigits xs → 0 < length xs → ys ≡ replicate many 0 ++ xs → Spells ys (value xs * 10 ^ many)
widened_spells xs ys many d h is = subst (λ z. Spells z (value xs * 10 ^ many)) (sym is) (record { digits = zeros_digits many xs (some_value xs d h) d; value_is = zeros_value many xs })

pub zero_spells : (xs : List ℕ) (many : ℕ) → length xs ≡ 0 → Spells [] (value xs * 10 ^ many)
zero_spells [] many h = record { digits = tt; value_is = sym (zero-mul (10 ^ many)) }
zero_spells (x ∷ xs) many h = absurd (omega (arith, h))

-- ---- to so many places

closest_whole : (a : ℕ) → closest a 1 ≡ a
closest_whole a =
    let e : (a % 1 * 2) < 1 = omega arith in
    ap (nearest (a / 1)) (compare_less _ _ e) ∙ div-one a

pub fewer_places : (v from to : ℕ) → to < from → closest (v * 10 ^ (to - from)) (10 ^ (from - to)) ≡ closest v (10 ^ (from - to))
fewer_places v from to h = let e : to - from ≡ 0 = omega arith in ap (λ w. closest w (10 ^ (from - to))) (ap (λ w. v * 10 ^ w) e ∙ mul-one v)

pub more_places : (v from to : ℕ) → from ≤ to → closest (v * 10 ^ (to - from)) (10 ^ (from - to)) ≡ v * 10 ^ (to - from)
more_places v from to h = let e : from - to ≡ 0 = omega arith in ap (λ w. closest (v * 10 ^ (to - from)) (10 ^ w)) e ∙ closest_whole (v * 10 ^ (to - from))

-- the list from a place on, as a slice shows it
pub rest_whole : (many : ℕ) (xs : List ℕ) → take (length xs - many) (drop many xs) ≡ drop many xs
rest_whole many xs = take_all (length xs - many) (drop many xs) (le_of_eq (length-drop many xs))
