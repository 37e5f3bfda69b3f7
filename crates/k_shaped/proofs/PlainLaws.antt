-- With a letter alone, and with a precision of reals, texts are those that have no shape.
use Rattle.std.specs.Prelude.{◌≡◌, ◌≤◌, ◌-◌, ◌/◌, ◌%◌, ℕ, zero, suc, Bool, true, false, ◌==◌, if◌then◌else◌, List, [], ◌∷◌, ◌++◌, length, replicate, ℤ, pos, negsuc, None}
use Rattle.std.proofs.Common.{refl, ap, sym, ◌∙◌, arith}
use Rattle.std.proofs.lemmas.Bool.{eqb-true, le-ltb}
use Rattle.std.specs.Fmt.{digits, digits_onto, digit_glyph, signed_decimal}
use Rattle.k_num.specs.Kind.{remainder}
use Rattle.k_num.specs.declared.numbers.Kind.TheVariants.{U8, U64}
use Rattle.k_shaped.specs.Letters.{is_signed, is_based, is_whole, is_fixed, is_scientific, is_real, is_capital}
use Rattle.k_shaped.specs.Padding.{padded}
use Rattle.k_shaped.specs.Texts.{sign, prefix, some_digits, based_digits, raised, at_least, number_text, decimal_text, based_text, byte_text, real_digits, in_case, real_text, text, before_zero, cut, string_text}
use Rattle.k_shaped.specs.ShapedLaws.{plain, PlainNumbers, PlainStrings, PlainReals}

-- ---- no width pads nothing

unpadded : (head body : List ℕ) → padded false false 0 head body ≡ head ++ body
unfolding padded
unpadded head body = let e : 0 - length head - length body ≡ 0 = omega arith in rw e refl

-- ---- a number has a digit

onto_length : (k base : ℕ) (capital : Bool) (n : ℕ) (more : List ℕ) → length more ≤ length (digits_onto k base capital n more)
onto_length zero base capital n more = omega arith
onto_length (suc k) base capital n more = go (n / base == 0) (onto_length k base capital (n / base) (digit_glyph capital (n % base) ∷ more))
  where
    go : (b : Bool) → suc (length more) ≤ length (digits_onto k base capital (n / base) (digit_glyph capital (n % base) ∷ more))
        → length more ≤ length (if b then digit_glyph capital (n % base) ∷ more else digits_onto k base capital (n / base) (digit_glyph capital (n % base) ∷ more))
    go true h = omega arith
    go false h = omega (arith, h)

a_digit : (base : ℕ) (capital : Bool) (n : ℕ) → 1 ≤ length (digits base capital n)
unfolding digits
a_digit base capital n = go (n / base == 0)
  where
    go : (b : Bool) → 1 ≤ length (if b then digit_glyph capital (n % base) ∷ [] else digits_onto 63 base capital (n / base) (digit_glyph capital (n % base) ∷ []))
    go true = omega arith
    go false = let h : 1 ≤ length (digits_onto 63 base capital (n / base) (digit_glyph capital (n % base) ∷ [])) = onto_length 63 base capital (n / base) (digit_glyph capital (n % base) ∷ []) in h

-- ---- the digits of 0 are one zero, where there is to be one at least

zero_digit : (base : ℕ) (capital : Bool) → 2 ≤ base → digits base capital 0 ≡ 48 ∷ []
unfolding digits
zero_digit base capital h =
    let a : 0 / base ≡ 0 = omega arith in
    let b : 0 % base ≡ 0 = omega arith in
    rw (a, b) refl

one_at_least : (base : ℕ) (capital : Bool) (n : ℕ) → 2 ≤ base → at_least 1 (some_digits base capital n) ≡ digits base capital n
unfolding at_least some_digits
one_at_least base capital n low = go (n == 0) refl
  where
    go : (b : Bool) → (n == 0) ≡ b → replicate (1 - length (if b then [] else digits base capital n)) 48 ++ (if b then [] else digits base capital n) ≡ digits base capital n
    go true e = sym (ap (digits base capital) (eqb-true n 0 e) ∙ zero_digit base capital low)
    go false e = let h : 1 - length (digits base capital n) ≡ 0 = omega (arith, a_digit base capital n) in rw h refl

-- ---- whole numbers

signed_is : (c : ℕ) (negative : Bool) (n : ℕ)
    → number_text (plain c None) (sign (plain c None) negative) 1 (some_digits 10 false n) ≡ (if negative then 45 ∷ [] else []) ++ digits 10 false n
unfolding number_text sign
signed_is c true n = unpadded (45 ∷ []) (at_least 1 (some_digits 10 false n)) ∙ ap (λ l. 45 ∷ l) (one_at_least 10 false n (omega arith))
signed_is c false n = unpadded [] (at_least 1 (some_digits 10 false n)) ∙ one_at_least 10 false n (omega arith)

decimal_is : (c : ℕ) (a : ℤ) → decimal_text (plain c None) a ≡ signed_decimal a
unfolding decimal_text
decimal_is c (pos n) =
    ap (λ b. number_text (plain c None) (sign (plain c None) b) 1 (some_digits 10 false n)) (le-ltb n 0 (omega arith)) ∙ signed_is c false n
decimal_is c (negsuc n) = signed_is c true (suc n)

hexadecimal_is : (v : ℕ) → based_text (plain 120 None) v ≡ digits 16 false v
unfolding based_text number_text prefix raised based_digits
hexadecimal_is v = unpadded [] (at_least 1 (some_digits 16 false v)) ∙ one_at_least 16 false v (omega arith)

pub plain_numbers : PlainNumbers
unfolding text is_signed is_based is_whole is_fixed is_scientific is_real byte_text
plain_numbers a =
    (decimal_is 100 a, decimal_is 105 a, decimal_is 117 a, hexadecimal_is (remainder U64 a), unpadded [] (remainder U8 a ∷ []))

pub plain_strings : PlainStrings
unfolding string_text cut
plain_strings bytes = unpadded [] (before_zero bytes)

-- ---- reals

pub plain_reals : PlainReals
unfolding text is_signed is_based is_whole is_fixed is_scientific is_real is_capital real_text real_digits in_case sign
plain_reals p a = (unpadded _ _, unpadded _ _, unpadded _ _, unpadded _ _, unpadded _ _, unpadded _ _)
