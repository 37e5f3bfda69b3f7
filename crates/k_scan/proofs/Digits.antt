-- Numbers at the front: what is taken off was spelled there, and what is spelled there is taken off.
use Rattle.std.proofs.Common.{◌≡◌, ℕ, zero, suc, ◌+◌, ◌-◌, ◌*◌, ◌/◌, ◌%◌, ◌^◌, ◌<◌, ◌≤◌, true, List, [], ◌∷◌, ◌++◌, Some, None, nat_le, nat_lt, refl, sym, ap, ◌∙◌, subst, inl, inr, arith, append_assoc, if◌then◌else◌, ◌==◌, lt-ltb, ne_eqb, eq-eqb}
use Rattle.std.specs.Fmt.{decimal}
use Rattle.std.proofs.lemmas.Bool.{and_parts, and_from, cases_Bool, eqb-true, false≢true, ltb-true, leb-true, le-leb}
use Rattle.std.proofs.lemmas.Fmt.{decimal_by_steps, decimal_digit, decimal_step}
use Rattle.std.proofs.lemmas.Option.{none-some, same_Some}
use Rattle.k_scan.specs.Numbers.{NoDigit, digits_at, is_digit, number_at}
use Rattle.k_scan.proofs.Front.{chosen}

abbrev limit : ℕ
limit = 18446744073709551616

digit_lies : (b : ℕ) → is_digit b ≡ true → (48 ≤ b) × (b ≤ 57)
digit_lies b h = let parts = and_parts (nat_le 48 b) (nat_le b 57) h in (leb-true 48 b parts.0, leb-true b 57 parts.1)

is_a_digit : (d : ℕ) → d < 10 → is_digit (48 + d) ≡ true
is_a_digit d lt = and_from (nat_le 48 (48 + d)) (nat_le (48 + d) 57) (le-leb 48 (48 + d) (omega arith)) (le-leb (48 + d) 57 (omega arith))

-- one digit more
decimal_more : (value b : ℕ) → 1 ≤ value → 48 ≤ b → b ≤ 57 → value * 10 + (b - 48) < 2 ^ 64 → decimal (value * 10 + (b - 48)) ≡ decimal value ++ b ∷ []
decimal_more value b some low high fits =
    let n : ℕ = value * 10 + (b - 48) in
    let front : n / 10 ≡ value = omega arith in
    let last : 48 + n % 10 ≡ b = omega arith in
    decimal_step n (omega arith) fits ∙ (λ i. decimal (front i) ++ last i ∷ [])

-- behind the first digits
digits_takes : (value : ℕ) (text : List ℕ) (n : ℕ) (rest : List ℕ) → 1 ≤ value → value < 2 ^ 64 → digits_at value text ≡ Some (n, rest)
    → (decimal value ++ text ≡ decimal n ++ rest) × (n < 2 ^ 64)
digits_takes value [] n rest some fits h =
    let pair = same_Some (value, []) (n, rest) h in
    let one : value ≡ n = ap (λ p. p.0) pair in let other : [] ≡ rest = ap (λ p. p.1) pair in
    let P : ℕ → Type 0 = λ k. k < 2 ^ 64 in ((λ i. decimal (one i) ++ other i), subst P one fits)
digits_takes value (b ∷ text) n rest some fits h = elim (cases_Bool (is_digit b)) [
  | inl digit ↦ (let lies = digit_lies b digit in
      let next : ℕ = value * 10 + (b - 48) in
      let here : (if nat_lt next limit then digits_at next text else None) ≡ Some (n, rest) =
      sym (ap (λ t. if t then (if nat_lt next limit then digits_at next text else None) else Some (value, b ∷ text)) digit) ∙ h in
      let parts = chosen (nat_lt next limit) (digits_at next text) (n, rest) here in
      let room : next < 2 ^ 64 = ltb-true next limit parts.0 in
      let r = digits_takes next text n rest (omega arith) room parts.1 in
      (sym (append_assoc (decimal value) (b ∷ []) text) ∙ ap (λ l. l ++ text) (sym (decimal_more value b some lies.0 lies.1 room)) ∙ r.0, r.1))
  | inr other ↦ (let next : ℕ = value * 10 + (b - 48) in
      let here : Some (value, b ∷ text) ≡ Some (n, rest) =
      sym (ap (λ t. if t then (if nat_lt next limit then digits_at next text else None) else Some (value, b ∷ text)) other) ∙ h in
      let pair = same_Some (value, b ∷ text) (n, rest) here in
      let one : value ≡ n = ap (λ p. p.0) pair in let tail : b ∷ text ≡ rest = ap (λ p. p.1) pair in
      let P : ℕ → Type 0 = λ k. k < 2 ^ 64 in ((λ i. decimal (one i) ++ tail i), subst P one fits))
]

-- a number that is taken off stands at the front
pub number_takes : (text : List ℕ) (n : ℕ) (rest : List ℕ) → number_at text ≡ Some (n, rest) → (text ≡ decimal n ++ rest) × (n < 2 ^ 64)
number_takes [] n rest h = absurd (none-some (n, rest) h)
number_takes (b ∷ text) n rest h = elim (cases_Bool (b == 48)) [
  | inl is ↦ (let here : Some (0, text) ≡ Some (n, rest) =
      sym (ap (λ t. if t then Some (0, text) else (if is_digit b then digits_at (b - 48) text else None)) is) ∙ h in
      let pair = same_Some (0, text) (n, rest) here in
      let one : 0 ≡ n = ap (λ p. p.0) pair in let other : text ≡ rest = ap (λ p. p.1) pair in
      let byte : b ≡ 48 = eqb-true b 48 is in
      let P : ℕ → Type 0 = λ k. k < 2 ^ 64 in
      ((λ i. byte i ∷ text) ∙ ap (λ l. l ++ text) (sym (decimal_digit 0 (omega arith))) ∙ (λ i. decimal (one i) ++ other i), subst P one (omega arith)))
  | inr not ↦ (let here : (if is_digit b then digits_at (b - 48) text else None) ≡ Some (n, rest) =
      sym (ap (λ t. if t then Some (0, text) else (if is_digit b then digits_at (b - 48) text else None)) not) ∙ h in
      let parts = chosen (is_digit b) (digits_at (b - 48) text) (n, rest) here in
      let lies = digit_lies b parts.0 in
      let other : (b ≡ 48) → ⊥ = λ e. false≢true (sym not ∙ eq-eqb b 48 e) in
      let r = digits_takes (b - 48) text n rest (omega arith) (omega arith) parts.1 in
      let byte : 48 + (b - 48) ≡ b = omega arith in
      (ap (λ k. k ∷ text) (sym byte) ∙ ap (λ l. l ++ text) (sym (decimal_digit (b - 48) (omega arith))) ∙ r.0, r.1))
]

-- behind all digits but the last
abbrev Reads : ℕ → List ℕ → Type 0
Reads n ds = n < 2 ^ 64 → 1 ≤ n → (rest : List ℕ) → number_at (ds ++ rest) ≡ digits_at n rest

reads_one : (n : ℕ) → n < 10 → Reads n ((48 + n) ∷ [])
reads_one n lt fits some rest =
    let other : (48 + n ≡ 48) → ⊥ = λ e. omega arith in
    let value : (48 + n) - 48 ≡ n = omega arith in
    ap (λ t. if t then Some (0, rest) else (if is_digit (48 + n) then digits_at ((48 + n) - 48) rest else None)) (ne_eqb (48 + n) 48 other)
    ∙ ap (λ t. if t then digits_at ((48 + n) - 48) rest else None) (is_a_digit n lt) ∙ ap (λ k. digits_at k rest) value

reads_more : (n : ℕ) (ds : List ℕ) → 10 ≤ n → Reads (n / 10) ds → Reads n (ds ++ (48 + n % 10) ∷ [])
reads_more n ds large before fits some rest =
    let d : ℕ = n % 10 in
    let value : (n / 10) * 10 + ((48 + d) - 48) ≡ n = omega arith in
    let next : ℕ = (n / 10) * 10 + ((48 + d) - 48) in
    ap number_at (append_assoc ds ((48 + d) ∷ []) rest) ∙ before (omega arith) (omega arith) ((48 + d) ∷ rest)
    ∙ ap (λ t. if t then (if nat_lt next limit then digits_at next rest else None) else Some (n / 10, (48 + d) ∷ rest)) (is_a_digit d (omega arith))
    ∙ ap (λ t. if t then digits_at next rest else None) (lt-ltb next limit (omega arith)) ∙ ap (λ k. digits_at k rest) value

digits_end : (n : ℕ) (rest : List ℕ) → NoDigit rest → digits_at n rest ≡ Some (n, rest)
digits_end n [] alone = refl
digits_end n (b ∷ rest) alone =
    let next : ℕ = n * 10 + (b - 48) in
    ap (λ t. if t then (if nat_lt next limit then digits_at next rest else None) else Some (n, b ∷ rest)) alone

-- a number at the front is taken off, where no digit stands behind it
pub number_again : (n : ℕ) (rest : List ℕ) → n < 2 ^ 64 → NoDigit rest → number_at (decimal n ++ rest) ≡ Some (n, rest)
number_again zero rest fits alone = ap (λ l. number_at (l ++ rest)) (decimal_digit 0 (omega arith))
number_again (suc n) rest fits alone = decimal_by_steps Reads reads_one reads_more (suc n) fits fits (omega arith) rest ∙ digits_end (suc n) rest alone
