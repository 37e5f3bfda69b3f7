-- Texts of so many digits: zeros that fall away, and the carry that makes the exponent one more.
use Rattle.std.specs.Prelude.{◌≡◌, ◌+◌, ◌-◌, ◌/◌, ◌%◌, ◌^◌, ◌<◌, ◌≤◌, ℕ, zero, suc, max, Bool, true, false, List, [], ◌∷◌, ◌++◌, ◌==◌, ◌&&◌, if◌then◌else◌, nat_lt, nat_le, length, drop, take, codes}
use Rattle.std.proofs.Common.{refl, ap, sym, subst, ◌∙◌, arith, ltb-true, lt-ltb, append_assoc, append-nil, true≢false}
use Rattle.std.specs.Float.{Float, nan, inf, fin, float_is_finite}
use Rattle.std.specs.Float.Ieee.{ne, eq}
use Rattle.k_real.specs.Digits.{value, AreDigits, Spells}
use Rattle.k_real.specs.Sizes.{places}
use Rattle.k_real.specs.Texts.{digits, count, fraction}
use Rattle.k_real.specs.Scientific.{all_digits, leading}
use Rattle.k_real.specs.General.{stripped, carries, shown, point_at, plain, general, general_by, unsigned_general}
use Rattle.k_real.proofs.RoundingLaws.{rest_whole, dropped_value, dropped_digits}
use Rattle.k_real.proofs.SizeLaws.{is_the_nan}
use Rattle.k_real.proofs.ScientificLaws.{count_of}

pub tail_spells : (ys : List ℕ) → AreDigits ys → Spells (take (length ys - 1) (drop 1 ys)) (value ys / 10)
tail_spells ys d = subst (λ z. Spells z (value ys / 10)) (sym (rest_whole 1 ys)) (record { digits = dropped_digits 1 ys d; value_is = dropped_value 1 ys d })

pub none_spells : (ys : List ℕ) → AreDigits ys → length ys ≤ 0 → Spells ys (value ys / 10)
none_spells [] d h = record { digits = tt; value_is = refl }
none_spells (y ∷ ys) d h = absurd (omega arith)

-- ---- zeros at the end

pub strip_one : (v left : ℕ) → 0 < left → (v % 10 == 0) ≡ true → stripped left v ≡ stripped (left - 1) (v / 10)
strip_one v zero h e = absurd (omega arith)
strip_one v (suc k) h e = let z : suc k - 1 ≡ k = omega arith in rw z (ap (λ b. if b then stripped k (v / 10) else fraction (suc k) v) e)

pub strip_none : (v left : ℕ) → 0 < left → (v % 10 == 0) ≡ false → stripped left v ≡ fraction left v
strip_none v zero h e = absurd (omega arith)
strip_none v (suc k) h e = ap (λ b. if b then stripped k (v / 10) else fraction (suc k) v) e

pub strip_all : (out new : List ℕ) (v left : ℕ) → left ≤ 0 → new ≡ out → new ≡ out ++ stripped left v
strip_all out new v zero h is = is ∙ sym (append-nil out)
strip_all out new v (suc left) h is = absurd (omega arith)

-- ---- a carry

carry_is : (ys : List ℕ) (a many : ℕ) → Spells ys (leading many a) → many < length ys → carries many a ≡ true
carry_is ys a many s h = ap (nat_lt many) (count_of ys (leading many a) s) ∙ lt-ltb many (length ys) h

no_carry_is : (ys : List ℕ) (a many : ℕ) → Spells ys (leading many a) → length ys ≤ many → carries many a ≡ false
no_carry_is ys a many s h = go (carries many a) refl
  where
    n : count (leading many a) ≡ length ys
    n = count_of ys (leading many a) s

    go : (b : Bool) → carries many a ≡ b → carries many a ≡ false
    go true t = let l = ltb-true many (count (leading many a)) t in absurd (omega (arith, l, n, h))
    go false t = t

pub carried_point : (ys : List ℕ) (a many k : ℕ) → Spells ys (leading many a) → many < length ys → k ≡ places a → k ≡ point_at many a
carried_point ys a many k s h e = e ∙ sym (ap (λ b. if b then places a else suc (places a)) (carry_is ys a many s h))

pub own_point : (ys : List ℕ) (a many k : ℕ) → Spells ys (leading many a) → length ys ≤ many → k ≡ places a → k + 1 ≡ point_at many a
own_point ys a many k s h e =
    let next : k + 1 ≡ suc (places a) = omega (arith, e) in
    next ∙ sym (ap (λ b. if b then places a else suc (places a)) (no_carry_is ys a many s h))

pub carried_shown : (ys : List ℕ) (a many : ℕ) → Spells ys (leading many a) → many < length ys → Spells (take (length ys - 1) (drop 1 ys)) (shown many a)
carried_shown ys a many s h =
    subst (Spells (take (length ys - 1) (drop 1 ys)))
    (ap (λ v. v / 10) s.value_is ∙ sym (ap (λ b. if b then leading many a / 10 else leading many a) (carry_is ys a many s h))) (tail_spells ys s.digits)

pub own_shown : (ys : List ℕ) (a many : ℕ) → Spells ys (leading many a) → length ys ≤ many → Spells ys (shown many a)
own_shown ys a many s h = subst (Spells ys) (sym (ap (λ b. if b then leading many a / 10 else leading many a) (no_carry_is ys a many s h))) s

-- ---- together

pub plain_written : (ys out middle new : List ℕ) (many n : ℕ) → Spells ys n → middle ≡ out ++ digits (max 1 (count (value ys / 10 ^ many))) (value ys / 10 ^ many)
    → new ≡ middle ++ stripped many (value ys) → new ≡ out ++ plain many n
plain_written ys out middle new many n s first second =
    second ∙ ap (λ l. l ++ stripped many (value ys)) first ∙ append_assoc out (digits (max 1 (count (value ys / 10 ^ many))) (value ys / 10 ^ many)) (stripped many (value ys))
    ∙ ap (λ v. out ++ plain many v) s.value_is

-- what `is_plain` says of the number of digits
pub is_below : (c k many : ℕ) → (nat_lt c (k + many) && nat_le (k - 4) c) ≡ true → c < k + many
is_below c k many h = go (nat_lt c (k + many)) refl h
  where
    go : (b : Bool) → nat_lt c (k + many) ≡ b → (b && nat_le (k - 4) c) ≡ true → c < k + many
    go true e i = ltb-true c (k + many) e
    go false e i = absurd (true≢false (sym i))

pub general_is : (a many c k : ℕ) → c ≡ all_digits a → k ≡ point_at many a → general_by many a c k ≡ general many a
general_is a many c k e f = ap (λ x. general_by many a x k) e ∙ ap (general_by many a (all_digits a)) f

-- ---- infinities and the NaN

pub finite_unsigned : (x : Float) (p a : ℕ) → float_is_finite x ≡ true → unsigned_general p a x ≡ general p a
unfolding unsigned_general float_is_finite
finite_unsigned nan p a h = absurd (true≢false (sym h))
finite_unsigned (inf s) p a h = absurd (true≢false (sym h))
finite_unsigned (fin s m e) p a h = refl

pub nan_unsigned : (x : Float) (p a : ℕ) → ne x x ≡ true → codes "nan" ≡ unsigned_general p a x
unfolding unsigned_general
nan_unsigned x p a h = ap (unsigned_general p a) (sym (is_the_nan x h))

pub infinite_unsigned : (x : Float) (p a : ℕ) → float_is_finite x ≡ false → ne x x ≡ false → codes "inf" ≡ unsigned_general p a x
unfolding unsigned_general float_is_finite ne eq
infinite_unsigned nan p a f h = absurd (true≢false h)
infinite_unsigned (inf s) p a f h = refl
infinite_unsigned (fin s m e) p a f h = absurd (true≢false f)
