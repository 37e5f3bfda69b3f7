-- The first digits of a double and the power of 10 that they count for.
use Rattle.std.specs.Prelude.{◌≡◌, ◌+◌, ◌*◌, ◌-◌, ◌/◌, ◌^◌, ◌<◌, ◌≤◌, ℕ, suc, Bool, true, false, List, [], ◌∷◌, ◌++◌, ◌==◌, if◌then◌else◌, nat_lt, length, drop, take, codes}
use Rattle.std.proofs.Common.{refl, ap, sym, subst, ◌∙◌, arith, ltb-true, lt-ltb, true≢false}
use Rattle.std.proofs.lemmas.Bool.{eqb-true}
use Rattle.std.specs.Float.{Float, nan, inf, fin, float_is_finite}
use Rattle.std.specs.Float.Ieee.{ne, eq}
use Rattle.std.specs.Float.Ieee.Nearest.{closest}
use Rattle.k_real.specs.Digits.{value, Spells}
use Rattle.k_real.specs.Sizes.{exact, places}
use Rattle.k_real.specs.Texts.{count}
use Rattle.k_real.specs.Scientific.{all_digits, leading, one_digit, scientific, unsigned_scientific}
use Rattle.k_real.proofs.RoundingLaws.{rest_whole, dropped_value}
use Rattle.k_real.proofs.SizeLaws.{count_is, is_the_nan}

pub count_of : (xs : List ℕ) (n : ℕ) → Spells xs n → count n ≡ length xs
count_of xs n s = ap count (sym s.value_is) ∙ count_is xs s.digits

pub all_are : (xs : List ℕ) (a : ℕ) → Spells xs (exact a) → 0 < length xs → length xs ≡ all_digits a
all_are [] a s h = absurd (omega arith)
all_are (x ∷ xs) a s h = go (exact a == 0) refl
  where
    some : 0 < exact a
    some = let p = s.digits.1 in omega (arith, p, s.value_is)

    go : (b : Bool) → (exact a == 0) ≡ b → length (x ∷ xs) ≡ (if b then suc (places a) else count (exact a))
    go true e = absurd (omega (arith, some, eqb-true (exact a) 0 e))
    go false e = sym (count_of (x ∷ xs) (exact a) s)

pub none_are : (xs : List ℕ) (a k : ℕ) → Spells xs (exact a) → length xs ≤ 0 → k ≡ places a → k + 1 ≡ all_digits a
none_are [] a k s h e =
    let more : k + 1 ≡ suc (places a) = omega (arith, e) in
    more ∙ ap (λ n. if (n == 0) then suc (places a) else count n) s.value_is
none_are (x ∷ xs) a k s h e = absurd (omega (arith, h))

pub leading_spells : (xs ys : List ℕ) (a many : ℕ) → Spells xs (exact a) → Spells ys (closest (value xs * 10 ^ (many - length xs)) (10 ^ (length xs - many))) → Spells ys (leading many a)
leading_spells xs ys a many s y =
    subst (Spells ys) (ap (λ v. closest (v * 10 ^ (many - length xs)) (10 ^ (length xs - many))) s.value_is ∙ ap (λ n. closest (exact a * 10 ^ (many - n)) (10 ^ (n - many))) (sym (count_of xs (exact a) s))) y

-- a digit more, and none
pub carried : (ys out new : List ℕ) (a p c k : ℕ) → Spells ys (leading (p + 1) a) → p + 1 < length ys → c ≡ all_digits a → k ≡ places a
    → new ≡ out ++ one_digit p (value (take (length ys - 1) (drop 1 ys))) c k → new ≡ out ++ scientific p a
carried ys out new a p c k s h e f is =
    let plus : p + 1 ≡ suc p = omega arith in
    let z : Spells ys (leading (suc p) a) = subst (λ n. Spells ys (leading n a)) plus s in
    let v : value (take (length ys - 1) (drop 1 ys)) ≡ leading (suc p) a / 10 = ap value (rest_whole 1 ys) ∙ dropped_value 1 ys z.digits ∙ ap (λ w. w / 10) z.value_is in
    let more : suc p < length ys = subst (λ n. n < length ys) plus h in
    let t : nat_lt (suc p) (count (leading (suc p) a)) ≡ true = ap (nat_lt (suc p)) (count_of ys (leading (suc p) a) z) ∙ lt-ltb (suc p) (length ys) more in
    is ∙ ap (λ w. out ++ one_digit p w c k) v ∙ ap (λ w. out ++ one_digit p (leading (suc p) a / 10) w k) e ∙ ap (λ w. out ++ one_digit p (leading (suc p) a / 10) (all_digits a) w) f
    ∙ sym (ap (λ b. out ++ (if b then one_digit p (leading (suc p) a / 10) (all_digits a) (places a) else one_digit p (leading (suc p) a) (all_digits a) (suc (places a)))) t)

pub not_carried : (ys out new : List ℕ) (a p c k : ℕ) → Spells ys (leading (p + 1) a) → length ys ≤ p + 1 → c ≡ all_digits a → k ≡ places a
    → new ≡ out ++ one_digit p (value ys) c (k + 1) → new ≡ out ++ scientific p a
not_carried ys out new a p c k s h e f is =
    is ∙ ap (λ w. out ++ one_digit p w c (k + 1)) z.value_is ∙ ap (λ w. out ++ one_digit p (leading (suc p) a) w (k + 1)) e
    ∙ ap (λ w. out ++ one_digit p (leading (suc p) a) (all_digits a) w) next ∙ sym (go (nat_lt (suc p) (count (leading (suc p) a))) refl)
  where
    z : Spells ys (leading (suc p) a)
    z = let plus : p + 1 ≡ suc p = omega arith in subst (λ n. Spells ys (leading n a)) plus s

    next : k + 1 ≡ suc (places a)
    next = omega (arith, f)

    n : count (leading (suc p) a) ≡ length ys
    n = count_of ys (leading (suc p) a) z

    go : (b : Bool) → nat_lt (suc p) (count (leading (suc p) a)) ≡ b
        → out ++ (if b then one_digit p (leading (suc p) a / 10) (all_digits a) (places a) else one_digit p (leading (suc p) a) (all_digits a) (suc (places a))) ≡ out ++ one_digit p (leading (suc p) a) (all_digits a) (suc (places a))
    go true t = let l = ltb-true (suc p) (count (leading (suc p) a)) t in absurd (omega (arith, l, n, h))
    go false t = refl

-- ---- infinities and the NaN

pub finite_unsigned : (x : Float) (p a : ℕ) → float_is_finite x ≡ true → unsigned_scientific p a x ≡ scientific p a
unfolding unsigned_scientific float_is_finite
finite_unsigned nan p a h = absurd (true≢false (sym h))
finite_unsigned (inf s) p a h = absurd (true≢false (sym h))
finite_unsigned (fin s m e) p a h = refl

pub nan_unsigned : (x : Float) (p a : ℕ) → ne x x ≡ true → codes "nan" ≡ unsigned_scientific p a x
unfolding unsigned_scientific
nan_unsigned x p a h = ap (unsigned_scientific p a) (sym (is_the_nan x h))

pub infinite_unsigned : (x : Float) (p a : ℕ) → float_is_finite x ≡ false → ne x x ≡ false → codes "inf" ≡ unsigned_scientific p a x
unfolding unsigned_scientific float_is_finite ne eq
infinite_unsigned nan p a f h = absurd (true≢false h)
infinite_unsigned (inf s) p a f h = refl
infinite_unsigned (fin s m e) p a f h = absurd (true≢false f)
