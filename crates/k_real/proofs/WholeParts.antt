-- The number without its fraction that a real has, by the tests that `to_whole` makes.
use Rattle.std.specs.Prelude.{◌≡◌, ◌*◌, ◌-◌, ◌+◌, ◌/◌, ◌^◌, ◌<◌, ◌≤◌, ℕ, ℤ, zero, suc, pos, negsuc, neg_ℤ, min, Bool, true, false, ◌&&◌, ◌||◌, eqb, ltb, leb, ◌%◌, Some, None, T}
use Rattle.std.specs.Float.{Float, binary64, nan, inf, fin, two_to, minus_two_to, minus_one, ◌<ᶠ◌}
use Rattle.std.specs.Float.Ieee.{up, down, lt, le, eq, neg, fits, of_bits, to_signed, to_unsigned}
use Rattle.std.specs.Float.Ieee.Fits.{down_pos, and_l, and_r}
use Rattle.std.specs.Option.{option_and_then}
use Rattle.std.proofs.Common.{refl, ap, sym, subst, ◌∙◌, arith, true≢false, ltb-false, ltb-true, eqb-true, div-lt_iff_lt-mul, le-div_iff_mul-le, div-one, mul-pos}
use Rattle.std.proofs.lemmas.Bool.{eqb-false}
use lib.Pow.{pow_pos}
use lib.Dec.{lt→ltb, ltb→lt}
use Rattle.std.proofs.lemmas.Int.{ints}
use Rattle.k_num.specs.declared.numbers.Kind.{Kind}
use Rattle.k_num.specs.Kind.{is_held}
use Rattle.k_num.proofs.Ranges.{held_range}
use Rattle.k_real.specs.Conversions.{whole_part, held}

-- n / d below and above a bound
below : (n d c : ℕ) → 0 < d → n < c * d → n / d < c
below n d c p h = (div-lt_iff_lt-mul p).1 h

from : (n d c : ℕ) → 0 < d → c * d ≤ n → c ≤ n / d
from n d c p h = (le-div_iff_mul-le p).1 h

-- a product is positive, and what is not 0
positive : (k d : ℕ) → 0 < d → 0 < 2 ^ k * d
positive k d h = mul-pos (pow_pos k) h

whole_pos : (d : ℕ) → 0 < d → 0 < 1 * 1 * d
whole_pos d h = omega arith

some : (a b : ℕ) → 0 < b → 0 < b + a
some a b h = omega arith

-- a positive number is not at most a negative one
not_both : (b n : ℕ) → 0 < b → (false || (eqb b (n * 1) && (false || eqb b 0))) ≡ true → ⊥
not_both b n p h = go (eqb b 0) refl
  where
    and_false : (c : Bool) → (c && false) ≡ false
    and_false true = refl
    and_false false = refl

    go : (c : Bool) → eqb b 0 ≡ c → ⊥
    go true e = omega (arith, eqb-true b 0 e)
    go false e = absurd (true≢false (sym h ∙ ap (λ c. eqb b (n * 1) && (false || c)) e ∙ and_false (eqb b (n * 1))))

-- what no kind holds
too_great : (kind : Kind) (q : ℕ) → 2 ^ 64 ≤ q → held kind (pos q) ≡ None
too_great kind q h = go (is_held kind (pos q)) refl
  where
    go : (b : Bool) → is_held kind (pos q) ≡ b → held kind (pos q) ≡ None
    go true e = let high = (held_range kind (pos q) e).high in absurd (omega (arith, ints))
    go false e = rw e refl

too_small : (kind : Kind) (q : ℕ) → 2 ^ 63 < q → held kind (neg_ℤ (pos q)) ≡ None
too_small kind zero h = absurd (omega arith)
too_small kind (suc q) h = go (is_held kind (negsuc q)) refl
  where
    go : (b : Bool) → is_held kind (negsuc q) ≡ b → held kind (negsuc q) ≡ None
    go true e = let low = (held_range kind (negsuc q) e).low in absurd (omega (arith, ints))
    go false e = rw e refl

-- ---- the bounds, by their codes

pub low_is : neg (of_bits binary64 4890909195324358656) ≡ minus_two_to 63
unfolding of_bits neg
low_is = refl

pub middle_is : of_bits binary64 4890909195324358656 ≡ two_to 63
unfolding of_bits
middle_is = refl

pub high_is : of_bits binary64 4895412794951729152 ≡ two_to 64
unfolding of_bits
high_is = refl

pub both : (a b c : Bool) → a ≡ true → b ≡ c → b ≡ (a && c)
both a b c h e = rw h e

pub neither : (l a c : Bool) → l ≡ a → l ≡ false → l ≡ (a && c)
neither l a c e h = rw (sym e ∙ h) h

split : (a b : Bool) → (a && b) ≡ true → (a ≡ true) × (b ≡ true)
split true b h = (refl, h)
split false b h = absurd (true≢false (sym h))

second : (a b : Bool) → a ≡ true → (a && b) ≡ false → b ≡ false
second true b e h = h
second false b e h = absurd (true≢false (sym e))

-- ---- in a signed number of 64 bits

-- the size of a negative number, at most 2^63
least : (n d : ℕ) → (ltb (n * 1) (2 ^ 63 * d) || (eqb (2 ^ 63 * d) (n * 1) && true)) ≡ true → n ≤ 2 ^ 63 * d
least n d h = go (ltb (n * 1) (2 ^ 63 * d)) refl
  where
    equal : (c : Bool) → eqb (2 ^ 63 * d) (n * 1) ≡ c → (c && true) ≡ true → n ≤ 2 ^ 63 * d
    equal true e k = omega (arith, eqb-true (2 ^ 63 * d) (n * 1) e)
    equal false e k = absurd (true≢false (sym k))

    go : (b : Bool) → ltb (n * 1) (2 ^ 63 * d) ≡ b → n ≤ 2 ^ 63 * d
    go true e = omega (arith, ltb-true (n * 1) (2 ^ 63 * d) e)
    go false e = equal (eqb (2 ^ 63 * d) (n * 1)) refl (sym (ap (λ b. b || (eqb (2 ^ 63 * d) (n * 1) && true)) e) ∙ h)

most : (n d c : ℕ) → 0 < d → n ≤ c * d → n / d ≤ c
most n d c p h = omega (arith, below n d (suc c) p (omega arith))

uncapped : (q c : ℕ) → q < c → min q (c - 1) ≡ q
uncapped q c h = omega arith

uncapped_to : (q c : ℕ) → q ≤ c → min q c ≡ q
uncapped_to q c h = omega arith

pub signed_part : (x : Float) (r : ℤ) → (le (minus_two_to 63) x && lt x (two_to 63)) ≡ true → r ≡ to_signed 63 x → whole_part x ≡ Some r
unfolding lt le eq to_signed whole_part
signed_part nan r h is = absurd (true≢false (sym h))
signed_part (inf true) r h is = absurd (true≢false (sym h))
signed_part (inf false) r h is = absurd (true≢false (sym h))
signed_part (fin false m e) r h is =
    let n : (m * up e) < 2 ^ 63 * down e = omega (arith, ltb-true (m * up e * 1) (1 * 2 ^ 63 * down e) (split _ _ h).1) in
    ap (λ q. Some (pos q)) (sym (uncapped (m * up e / down e) (2 ^ 63) (below _ _ _ (down_pos e) n))) ∙ ap Some (sym is)
signed_part (fin true m e) r h is =
    let n : (m * up e) ≤ 2 ^ 63 * down e = least (m * up e) (down e) (split _ _ h).0 in
    ap (λ q. Some (neg_ℤ (pos q))) (sym (uncapped_to (m * up e / down e) (2 ^ 63) (most (m * up e) (down e) (2 ^ 63) (down_pos e) n))) ∙ ap Some (sym is)

-- ---- above that, in an unsigned number of 64 bits

pub above_minus_one : (x : Float) → (le (two_to 63) x && lt x (two_to 64)) ≡ true → minus_one <ᶠ x
unfolding lt le eq
above_minus_one nan h = absurd (true≢false (sym h))
above_minus_one (inf true) h = absurd (true≢false (sym h))
above_minus_one (inf false) h = tt
above_minus_one (fin true m e) h = absurd (not_both (2 ^ 63 * down e) (m * up e) (positive 63 (down e) (down_pos e)) (split _ _ h).0)
above_minus_one (fin false m e) h = lt→ltb _ _ (some (m * up e * 1) (1 * 1 * down e) (whole_pos (down e) (down_pos e)))

pub unsigned_part : (x : Float) (r : ℕ) → (le (two_to 63) x && lt x (two_to 64)) ≡ true → r ≡ to_unsigned 64 x → whole_part x ≡ Some (pos r)
unfolding lt le eq to_unsigned whole_part
unsigned_part nan r h is = absurd (true≢false (sym h))
unsigned_part (inf true) r h is = absurd (true≢false (sym h))
unsigned_part (inf false) r h is = absurd (true≢false (sym h))
unsigned_part (fin true m e) r h is = absurd (not_both (2 ^ 63 * down e) (m * up e) (positive 63 (down e) (down_pos e)) (split _ _ h).0)
unsigned_part (fin false m e) r h is =
    let n : (m * up e) < 2 ^ 64 * down e = omega (arith, ltb-true (m * up e * 1) (1 * 2 ^ 64 * down e) (split _ _ h).1) in
    ap (λ q. Some (pos q)) (sym (uncapped (m * up e / down e) (2 ^ 64) (below _ _ _ (down_pos e) n))) ∙ ap (λ q. Some (pos q)) (sym is)

-- ---- beyond both no kind has it

T→true : (b : Bool) → T b → b ≡ true
T→true true t = refl
T→true false t = absurd t

or_left : (a b : Bool) → T a → T (a || b)
or_left true b t = tt
or_left false b t = absurd t

above_negative : (b n : ℕ) → 0 < b → T (ltb 0 (b + n * 1) || (eqb b (n * 1) && (false || eqb b 0)))
above_negative b n p = let h : 0 < (b + n * 1) = omega arith in or_left _ _ (lt→ltb _ _ h)

at_least : (b n : ℕ) → b ≤ n → (ltb b (n * 1) || (eqb b (n * 1) && true)) ≡ true
at_least b n h = go (ltb b (n * 1)) refl
  where
    equal : (c : Bool) → eqb b (n * 1) ≡ c → ltb b (n * 1) ≡ false → (c && true) ≡ true
    equal true e l = refl
    equal false e l = absurd (omega (arith, eqb-false b (n * 1) e, ltb-false b (n * 1) l))

    go : (c : Bool) → ltb b (n * 1) ≡ c → (c || (eqb b (n * 1) && true)) ≡ true
    go true e = refl
    go false e = equal (eqb b (n * 1)) refl e

-- a negative number that is not within is below -2^63
beyond : (n d : ℕ) → 0 < 2 ^ 63 * d → ((ltb (n * 1) (2 ^ 63 * d) || (eqb (2 ^ 63 * d) (n * 1) && true)) && ltb 0 (n * 1 + 2 ^ 63 * d)) ≡ false → 2 ^ 63 * d < n
beyond n d p h = go (ltb (n * 1) (2 ^ 63 * d)) refl (eqb (2 ^ 63 * d) (n * 1)) refl
  where
    under : ltb 0 (n * 1 + 2 ^ 63 * d) ≡ true
    under = let h : 0 < (n * 1 + 2 ^ 63 * d) = omega arith in T→true _ (lt→ltb _ _ h)

    go : (b : Bool) → ltb (n * 1) (2 ^ 63 * d) ≡ b → (c : Bool) → eqb (2 ^ 63 * d) (n * 1) ≡ c → 2 ^ 63 * d < n
    go true e c k = absurd (true≢false (sym under ∙ sym (ap (λ b. (b || (eqb (2 ^ 63 * d) (n * 1) && true)) && ltb 0 (n * 1 + 2 ^ 63 * d)) e) ∙ h))
    go false e true k = absurd (true≢false (sym under ∙ sym (ap (λ b. (b || (eqb (2 ^ 63 * d) (n * 1) && true)) && ltb 0 (n * 1 + 2 ^ 63 * d)) e ∙ ap (λ c. (c && true) && ltb 0 (n * 1 + 2 ^ 63 * d)) k) ∙ h))
    go false e false k = omega (arith, ltb-false (n * 1) (2 ^ 63 * d) e, eqb-false (2 ^ 63 * d) (n * 1) k)

-- a real of that size has no fraction
greater : (m : ℕ) (e : ℤ) → T (fits binary64 (fin true m e)) → 2 ^ 63 * down e < m * up e → 2 ^ 63 < m * up e / down e
unfolding fits
greater m (pos k) f h = subst (λ q. 2 ^ 63 < q) (sym (div-one (m * 2 ^ k))) (omega arith)
greater zero (negsuc k) f h = absurd (omega arith)
greater (suc m) (negsuc k) f h =
    let a = eqb (suc m % 2) 1 in
    let b = ltb (suc m) (2 ^ 53) in
    let c = leb (2 ^ suc k) (2 ^ 1074) in
    let d = ltb (suc m * 1) (2 ^ 1024 * 2 ^ suc k) in
    absurd (too_short (suc m) (2 ^ suc k) (pow_pos (suc k)) (ltb→lt (suc m) (2 ^ 53) (and_r a b (and_l (a && b) c (and_l (a && b && c) d f)))) (omega arith))
  where
    too_short : (m d : ℕ) → 0 < d → m < 2 ^ 53 → 2 ^ 63 * d < m → ⊥
    too_short m d p a b = omega arith

pub no_part : (kind : Kind) (x : Float) → T (fits binary64 x) → (le (minus_two_to 63) x && lt x (two_to 63)) ≡ false → (le (two_to 63) x && lt x (two_to 64)) ≡ false → option_and_then (held kind) (whole_part x) ≡ None
unfolding lt le eq whole_part
no_part kind nan f h k = refl
no_part kind (inf s) f h k = refl
no_part kind (fin false m e) f h k =
    let d = down e in
    let a : (2 ^ 63 * d) ≤ m * up e = omega (arith, ltb-false (m * up e * 1) (1 * 2 ^ 63 * d) (second _ _ (T→true _ (above_negative (2 ^ 63 * d) (m * up e) (positive 63 d (down_pos e)))) h)) in
    let b : (2 ^ 64 * d) ≤ m * up e = omega (arith, ltb-false (m * up e * 1) (1 * 2 ^ 64 * d) (second _ _ (at_least (2 ^ 63 * d) (m * up e) a) k)) in
    too_great kind (m * up e / d) (from (m * up e) d (2 ^ 64) (down_pos e) b)
no_part kind (fin true m e) f h k = too_small kind (m * up e / down e) (greater m e f (beyond (m * up e) (down e) (positive 63 (down e) (down_pos e)) h))
