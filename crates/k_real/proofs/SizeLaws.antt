-- A finite double's exact decimal text has the double's size, and so rounds to the same digits.
use Rattle.std.specs.Prelude.{◌≡◌, ◌+◌, ◌*◌, ◌-◌, ◌/◌, ◌%◌, ◌^◌, ◌<◌, ◌≤◌, ℕ, zero, suc, Bool, true, false, List, [], ◌∷◌, ◌==◌, if◌then◌else◌, max, length, drop, take, ◌++◌, ◌&&◌, ◌||◌, not, T, codes}
use native.Mathlib.Nat.{pow-succ', mul_right_comm, mul-mul-mul_comm, le_antisymm, le_of_eq, le_of_mul-le-mul_right, div-eq_of_lt, pow-le-pow_right, zero-lt-suc}
use Rattle.std.proofs.Common.{refl, ap, sym, subst, ◌∙◌, arith, mul_assoc, mul_comm, true≢false, lt_of_lt_of_le, ltb-true, ltb-false, append_assoc}
use Rattle.std.proofs.lemmas.Bool.{eqb-true}
use Rattle.std.proofs.lemmas.List.{append-nil, length-drop}
use lib.Pow.{pow-add, pow_pos}
use mathlib.Core.Bool.{cond, beq}
use lib.Dec.{leb, ltb, eqb, eqb_refl}
use Rattle.std.specs.Float.{Float, binary64, nan, inf, fin, float_is_finite, is_sign_negative}
use Rattle.std.specs.Float.Ieee.{up, down, odd, of_bits, of_fields, level, eq, ne, is_nan}
use Rattle.std.specs.Float.Ieee.Exact.{HasValue, odd_sign}
use Rattle.std.specs.Float.Ieee.Nearest.{closest, closest_same}
use Rattle.std.specs.Float.Ieee.Positive.{num, den, den_pos}
use Rattle.k_real.specs.Codes.{real_of}
use Rattle.k_real.specs.Digits.{value, AreDigits, Spells}
use Rattle.k_real.specs.RealLaws.{ExpansionIsExact}
use Rattle.k_real.specs.Sizes.{unit_places, field, significand, exponent, places, exact}
use Rattle.k_real.specs.Texts.{scaled, count_within, count, digits, fraction, pointed, unsigned_text}
use Rattle.k_real.proofs.RoundingLaws.{ten_pos, whole_below, rest_whole, dropped_value, dropped_digits}

-- ---- the size of a code's double

has_size : (x : Float) (s : Bool) (a c : ℕ) → HasValue x s a c → num x * c ≡ a * den x
has_size nan s a c h = absurd h
has_size (inf t) s a c h = absurd h
has_size (fin t m e) s a c h = h.1

later_field : (s : Bool) (x t : ℕ) (b c : Bool) → suc x < 2047 → eqb (suc x) 2047 ≡ b → (suc x == 0) ≡ c
    → HasValue (cond b (cond (eqb t 0) (inf s) nan) (odd 53 s (2 ^ 52 + t) x 1074)) s ((if c then t else 2 ^ 52 + t) * 2 ^ (suc x - 1)) (2 ^ unit_places)
unfolding unit_places
later_field s x t true c h e k = absurd (omega (arith, eqb-true (suc x) 2047 e))
later_field s x t false true h e k = absurd (omega (arith, eqb-true (suc x) 0 k))
later_field s x t false false h e k = let z : suc x - 1 ≡ x = omega arith in rw z (odd_sign 53 s (2 ^ 52 + t) x 1074)

field_value : (s : Bool) (f t : ℕ) → f < 2047 → HasValue (of_fields binary64 s f t) s ((if f == 0 then t else 2 ^ 52 + t) * 2 ^ (f - 1)) (2 ^ unit_places)
unfolding of_fields unit_places
field_value s zero t h = odd_sign 53 s t 0 1074
field_value s (suc x) t h = later_field s x t (eqb (suc x) 2047) (suc x == 0) h refl refl

pub size_is : (a : ℕ) → field a < 2047 → num (real_of a) * 2 ^ unit_places ≡ significand a * 2 ^ exponent a * den (real_of a)
unfolding of_bits
size_is a h = has_size (of_bits binary64 a) (leb (2 ^ 63) a) (significand a * 2 ^ exponent a) (2 ^ unit_places) (field_value (leb (2 ^ 63) a) (field a) (a % 2 ^ 52) h)

-- ---- in decimal digits

ten_power : (k : ℕ) → 10 ^ k ≡ 2 ^ k * 5 ^ k
ten_power zero = refl
ten_power (suc k) =
    pow-succ' 10 k ∙ ap (λ w. 10 * w) (ten_power k) ∙ mul-mul-mul_comm 2 5 (2 ^ k) (5 ^ k)
    ∙ ap (λ w. w * (5 * 5 ^ k)) (sym (pow-succ' 2 k)) ∙ ap (λ w. 2 ^ suc k * w) (sym (pow-succ' 5 k))

cancelled : (a b c : ℕ) → 0 < c → a * c ≡ b * c → a ≡ b
cancelled a b c h e = le_antisymm (le_of_mul-le-mul_right (le_of_eq e) h) (le_of_mul-le-mul_right (le_of_eq (sym e)) h)

-- of two exponents either power of the base makes up for the other
made_up : (b x g : ℕ) → b ^ x * b ^ (g - x) ≡ b ^ (x - g) * b ^ g
made_up b x g =
    let e : x + (g - x) ≡ (x - g) + g = omega arith in
    sym (pow-add b x (g - x)) ∙ ap (λ w. b ^ w) e ∙ pow-add b (x - g) g

-- n / d = m * 2 ^ x / 2 ^ g has the digits m * 2 ^ (x - g) * 5 ^ (g - x), of which g - x stand behind the point
in_digits : (n d m x g : ℕ) → n * 2 ^ g ≡ m * 2 ^ x * d → n * 10 ^ (g - x) ≡ m * 2 ^ (x - g) * 5 ^ (g - x) * d
in_digits n d m x g h =
    let k = g - x in
    cancelled (n * 10 ^ k) (m * 2 ^ (x - g) * 5 ^ k * d) (2 ^ g) (pow_pos g)
    (mul_right_comm n (10 ^ k) (2 ^ g) ∙ ap (λ w. w * 10 ^ k) h ∙ ap (λ w. m * 2 ^ x * d * w) (ten_power k)
    ∙ regrouped m (2 ^ x) d (2 ^ k) (5 ^ k) ∙ ap (λ w. m * w * (5 ^ k * d)) (made_up 2 x g) ∙ regrouped_back m (2 ^ (x - g)) (2 ^ g) (5 ^ k) d)
  where
    regrouped : (m a d b c : ℕ) → m * a * d * (b * c) ≡ m * (a * b) * (c * d)
    regrouped m a d b c = mul-mul-mul_comm (m * a) d b c ∙ ap (λ w. w * (d * c)) (mul_assoc m a b) ∙ ap (λ w. m * (a * b) * w) (mul_comm d c)

    regrouped_back : (m a b c d : ℕ) → m * (a * b) * (c * d) ≡ m * a * c * d * b
    regrouped_back m a b c d =
        ap (λ w. w * (c * d)) (sym (mul_assoc m a b)) ∙ mul_right_comm (m * a) b (c * d) ∙ ap (λ w. w * b) (sym (mul_assoc (m * a) c d))

pub expansion_is : ExpansionIsExact
expansion_is a h = in_digits (num (real_of a)) (den (real_of a)) (significand a) (exponent a) unit_places (size_is a h)

-- digits n with k behind the point, to p places
same_places : (n d v k p : ℕ) → 0 < d → n * 10 ^ k ≡ v * d → closest (v * 10 ^ (p - k)) (10 ^ (k - p)) ≡ closest (n * 10 ^ p) d
same_places n d v k p h e =
    closest_same (v * 10 ^ (p - k)) (10 ^ (k - p)) (n * 10 ^ p) d (ten_pos (k - p)) h
    (mul_right_comm v (10 ^ (p - k)) d ∙ ap (λ w. w * 10 ^ (p - k)) (sym e) ∙ mul_assoc n (10 ^ k) (10 ^ (p - k))
    ∙ ap (λ w. n * w) (made_up 10 k p ∙ mul_comm (10 ^ (k - p)) (10 ^ p)) ∙ sym (mul_assoc n (10 ^ p) (10 ^ (k - p))))

pub scaled_is : (a p : ℕ) → field a < 2047 → closest (exact a * 10 ^ (p - places a)) (10 ^ (places a - p)) ≡ scaled p (real_of a)
scaled_is a p h =
    same_places (num (real_of a)) (den (real_of a)) (exact a) (places a) p (den_pos (real_of a))
    (in_digits (num (real_of a)) (den (real_of a)) (significand a) (exponent a) unit_places (size_is a h))

-- ---- how many digits

counted : (most x v n : ℕ) → x < 10 → 0 < x + 10 * v → count_within most v ≡ n → (if (x + 10 * v == 0) then 0 else suc (count_within most ((x + 10 * v) / 10))) ≡ suc n
counted most x v n h p is = go (x + 10 * v == 0) refl
  where
    shorter : (x + 10 * v) / 10 ≡ v
    shorter = omega arith

    go : (b : Bool) → (x + 10 * v == 0) ≡ b → (if b then 0 else suc (count_within most ((x + 10 * v) / 10))) ≡ suc n
    go true e = absurd (omega (arith, eqb-true (x + 10 * v) 0 e))
    go false e = ap suc (ap (count_within most) shorter ∙ is)

count_enough : (most : ℕ) (xs : List ℕ) → AreDigits xs → value xs ≤ most → count_within most (value xs) ≡ length xs
unfolding count_within
count_enough zero [] d h = refl
count_enough (suc most) [] d h = refl
count_enough zero (x ∷ xs) d h = let p = d.1 in absurd (omega arith)
count_enough (suc most) (x ∷ xs) d h = counted most x (value xs) (length xs) d.0 d.1 (count_enough most xs d.2 (omega arith))

pub count_is : (xs : List ℕ) → AreDigits xs → count (value xs) ≡ length xs
count_is xs d = count_enough (value xs) xs d (omega arith)

pub none_before : (xs : List ℕ) (many : ℕ) → AreDigits xs → length xs ≤ many → value xs / 10 ^ many ≡ 0
none_before xs many d h = div-eq_of_lt (lt_of_lt_of_le (whole_below xs d) (pow-le-pow_right (zero-lt-suc 9) h))

-- ---- what functions write, put together

pub exact_spells : (a b p : ℕ) (xs ys zs : List ℕ) → Spells xs (significand a) → b ≡ exponent a - unit_places → p ≡ places a → Spells ys (value xs * 2 ^ b) → Spells zs (value ys * 5 ^ p) → Spells zs (exact a)
exact_spells a b p xs ys zs x e f y z =
    subst (Spells zs) (ap (λ v. v * 5 ^ p) (y.value_is ∙ ap (λ v. v * 2 ^ b) x.value_is) ∙ ap (λ k. significand a * 2 ^ k * 5 ^ p) e ∙ ap (λ k. significand a * 2 ^ (exponent a - unit_places) * 5 ^ k) f) z

pub rounded_spells : (a many p : ℕ) (xs ys : List ℕ) → field a < 2047 → Spells xs (exact a) → p ≡ places a → Spells ys (closest (value xs * 10 ^ (many - p)) (10 ^ (p - many))) → Spells ys (scaled many (real_of a))
rounded_spells a many p xs ys h x e y =
    subst (Spells ys) (ap (λ v. closest (v * 10 ^ (many - p)) (10 ^ (p - many))) x.value_is ∙ ap (λ k. closest (exact a * 10 ^ (many - k)) (10 ^ (k - many))) e ∙ scaled_is a many h) y

most_digits : (n : ℕ) → 0 < n → max 1 n ≡ n
most_digits n h = omega arith

pub whole_written : (ys out new : List ℕ) (many : ℕ) → AreDigits ys → many < length ys → new ≡ out ++ digits (length ys - many) (value (take (length ys - many) (drop many ys)))
    → new ≡ out ++ digits (max 1 (count (value ys / 10 ^ many))) (value ys / 10 ^ many)
whole_written ys out new many d h is =
    let v : value (take (length ys - many) (drop many ys)) ≡ value ys / 10 ^ many = ap value (rest_whole many ys) ∙ dropped_value many ys d in
    let n : count (value ys / 10 ^ many) ≡ length ys - many = ap count (sym (dropped_value many ys d)) ∙ count_is (drop many ys) (dropped_digits many ys d) ∙ length-drop many ys in
    let m : max 1 (count (value ys / 10 ^ many)) ≡ length ys - many = ap (max 1) n ∙ most_digits (length ys - many) (omega arith) in
    is ∙ ap (λ w. out ++ digits (length ys - many) w) v ∙ ap (λ k. out ++ digits k (value ys / 10 ^ many)) (sym m)

pub zero_written : (ys out new : List ℕ) (many : ℕ) → AreDigits ys → length ys ≤ many → new ≡ out ++ digits 1 0 → new ≡ out ++ digits (max 1 (count (value ys / 10 ^ many))) (value ys / 10 ^ many)
unfolding count_within
zero_written ys out new many d h is = is ∙ ap (λ q. out ++ digits (max 1 (count q)) q) (sym (none_before ys many d h))

pub fraction_written : (out new : List ℕ) (v many : ℕ) → 0 < many → new ≡ (out ++ 46 ∷ []) ++ digits many v → new ≡ out ++ fraction many v
fraction_written out new v zero h is = absurd (omega arith)
fraction_written out new v (suc many) h is = is ∙ append_assoc out (46 ∷ []) (digits (suc many) v)

pub no_fraction : (out new : List ℕ) (v many : ℕ) → many ≡ 0 → new ≡ out → new ≡ out ++ fraction many v
no_fraction out new v zero h is = is ∙ sym (append-nil out)
no_fraction out new v (suc many) h is = absurd (omega (arith, h))

pub pointed_written : (ys out middle new : List ℕ) (many n : ℕ) → Spells ys n → middle ≡ out ++ digits (max 1 (count (value ys / 10 ^ many))) (value ys / 10 ^ many)
    → new ≡ middle ++ fraction many (value ys) → new ≡ out ++ pointed many n
pointed_written ys out middle new many n s first second =
    second ∙ ap (λ l. l ++ fraction many (value ys)) first ∙ append_assoc out (digits (max 1 (count (value ys / 10 ^ many))) (value ys / 10 ^ many)) (fraction many (value ys))
    ∙ ap (λ v. out ++ pointed many v) s.value_is

-- ---- infinities and the NaN

finite_field_is : (s : Bool) (f t : ℕ) → f ≡ 2047 → float_is_finite (of_fields binary64 s f t) ≡ true → ⊥
unfolding of_fields float_is_finite
finite_field_is s zero t e h = omega (arith, e)
finite_field_is s (suc x) t e h = go (eqb t 0) (subst (λ k. float_is_finite (cond (eqb k 2047) (cond (eqb t 0) (inf s) nan) (odd 53 s (2 ^ 52 + t) x 1074)) ≡ true) e h)
  where
    go : (b : Bool) → float_is_finite (cond b (inf s) nan) ≡ true → ⊥
    go true k = true≢false (sym k)
    go false k = true≢false (sym k)

pub finite_field : (a : ℕ) → float_is_finite (real_of a) ≡ true → field a < 2047
unfolding of_bits
finite_field a h = go (ltb (field a) 2047) refl
  where
    below : field a < 2048
    below = omega arith

    go : (b : Bool) → ltb (field a) 2047 ≡ b → field a < 2047
    go true e = ltb-true (field a) 2047 e
    go false e = absurd (finite_field_is (leb (2 ^ 63) a) (field a) (a % 2 ^ 52) (omega (arith, below, ltb-false (field a) 2047 e)) h)

pub finite_text : (x : Float) (many : ℕ) → float_is_finite x ≡ true → unsigned_text many x ≡ pointed many (scaled many x)
unfolding unsigned_text float_is_finite
finite_text nan many h = absurd (true≢false (sym h))
finite_text (inf s) many h = absurd (true≢false (sym h))
finite_text (fin s m e) many h = refl

itself : (s : Bool) (a : ℕ) → level s a s a ≡ true
itself s a = go s (eqb a a) (eqb_refl a)
  where
    go : (s : Bool) (b : Bool) → T b → (b && (beq s s || eqb a 0)) ≡ true
    go true true t = refl
    go false true t = refl
    go s false t = absurd t

pub is_the_nan : (x : Float) → ne x x ≡ true → x ≡ nan
unfolding ne eq
is_the_nan nan h = refl
is_the_nan (inf true) h = absurd (true≢false (sym h))
is_the_nan (inf false) h = absurd (true≢false (sym h))
is_the_nan (fin s m e) h = absurd (true≢false (sym h ∙ ap not (itself s (m * up e * down e))))

pub is_no_nan : (x : Float) → ne x x ≡ false → T (not (is_nan x))
unfolding ne eq is_nan
is_no_nan nan h = absurd (true≢false h)
is_no_nan (inf s) h = tt
is_no_nan (fin s m e) h = tt

pub not_negative : (x : Float) → x ≡ nan → false ≡ is_sign_negative x
unfolding is_sign_negative
not_negative x h = ap is_sign_negative (sym h)

pub nan_text : (x : Float) (many : ℕ) → ne x x ≡ true → codes "nan" ≡ unsigned_text many x
unfolding unsigned_text
nan_text x many h = ap (unsigned_text many) (sym (is_the_nan x h))

pub infinite_text : (x : Float) (many : ℕ) → float_is_finite x ≡ false → ne x x ≡ false → codes "inf" ≡ unsigned_text many x
unfolding unsigned_text float_is_finite ne eq
infinite_text nan many f h = absurd (true≢false h)
infinite_text (inf s) many f h = refl
infinite_text (fin s m e) many f h = absurd (true≢false f)
