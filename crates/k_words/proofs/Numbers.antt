-- A word that `parse` reads.
use Rattle.std.proofs.Common.{◌≡◌, ◌==◌, ◌<◌, ◌^◌, ℕ, Bool, true, false, ◌&&◌, ◌||◌, if◌then◌else◌, nat_le, not, List, [], ◌∷◌, length, Some, None, Err, arith, inl, inr, refl, rules}
use Rattle.std.proofs.lemmas.Bool.{and_parts, cases_Bool, false≢true}
use Rattle.std.proofs.lemmas.Bool.Decides.{nat_tests}
use Rattle.std.proofs.lemmas.Str.Parse.{IsNumeralModel, numerals_by_fold, parse_digits}
use Rattle.std.specs.Char.{is_ascii_digit}
use Rattle.std.specs.Str.Parse.{ParsesUnsigned, digits_value, digits_value_after}
use Rattle.k_words.specs.Number.{are_digits, is_numeral, number_within}

-- digits, and the number that they are
own : IsNumeralModel (λ ds. are_digits ds ≡ true) (digits_value 10)
own = numerals_by_fold _ (search rules) (digits_value_after 10) (search rules)

-- a numeral has digits alone, and one at least
numeral_digits : (bytes : List ℕ) → is_numeral bytes ≡ true → (are_digits bytes ≡ true) × (0 < length bytes)
numeral_digits [] h = absurd (false≢true h)
numeral_digits (first ∷ rest) h =
    let (one, more) = and_parts (is_ascii_digit first) ((not (first == 48) || (length rest == 0)) && are_digits rest) h in
    let (lead, others) = and_parts (not (first == 48) || (length rest == 0)) (are_digits rest) more in
    (rw (one, others) refl, omega arith)

neither : (a : Bool) (n : ℕ) → None ≡ (if a && false then Some n else None)
neither true n = refl
neither false n = refl

-- where none is read, there is none in these limits
pub number-none : (E : Type 0) (low high : ℕ) (word : List ℕ) (e : E) → high < 2 ^ 64 → is_numeral word ≡ true → ParsesUnsigned {E = E} 64 10 word (Err e)
    → None ≡ number_within low high word
unfolding number_within
number-none E low high word e small numeral parses =
    let (digits, some) = numeral_digits word numeral in
    let refused : ¬ ((0 < length word) × (digits_value 10 word < 2 ^ 64)) = parse_digits own 64 word (Err e) parses digits in
    let past : nat_le (digits_value 10 word) high ≡ false = elim (cases_Bool (nat_le (digits_value 10 word) high)) [
      | inl fits ↦ absurd (refused (some, grind (arith, nat_tests)))
      | inr over ↦ over
    ] in
    rw (numeral, past) (neither (nat_le low (digits_value 10 word)) (digits_value 10 word))
