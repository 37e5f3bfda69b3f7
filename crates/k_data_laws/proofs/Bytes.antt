-- The bytes of names of C and of numbers: none of them means anything to JSON or CSV.
use Rattle.std.proofs.Common.{◌≡◌, ◌≢◌, ℕ, suc, zero, ◌^◌, ◌<◌, ◌≤◌, true, false, ◌&&◌, ◌||◌, ◌==◌, nat_eq, nat_le, not, List, [], ◌∷◌, ◌++◌, refl, subst, inl, inr, arith}
use Rattle.std.specs.Str.{IsAscii}
use Rattle.std.specs.Cmp.Lexicographic.{pointwise}
use Rattle.std.specs.Fmt.{decimal}
use Rattle.std.specs.List.{list_any}
use Rattle.std.specs.Str.Parse.{AllDigits}
use Rattle.std.proofs.lemmas.Bool.{and_parts, or_cases, leb-true, eqb-true, false≢true, ne_eqb}
use Rattle.std.proofs.lemmas.Fmt.{decimal_is_IsNumeral}
use Rattle.std.proofs.lemmas.Str.Parse.{digit_from_value}
use Rattle.json.specs.Print.{escape}
use Rattle.json.proofs.Printed.Strings.{escape_byte_plain}
use Rattle.csv.specs.Writing.{default_writer, needs_byte}
use Rattle.k_scan.specs.Names.{are_in_name, in_name, is_letter, is_name, is_word, keywords}
use Rattle.k_scan.specs.Numbers.{is_digit}

-- a byte that is a letter, a digit or `_`
pub record IsBare (b : ℕ) : Type 0 where
  pub from : 48 ≤ b
  pub to : b ≤ 122
  pub other : b ≢ 92

-- each byte is
abbrev pub AreBare : List ℕ → Type 0
AreBare [] = Unit {0}
AreBare (b ∷ text) = IsBare b × AreBare text

between : (low b high : ℕ) → nat_le low b && nat_le b high ≡ true → (low ≤ b) × (b ≤ high)
between low b high h = let p = and_parts (nat_le low b) (nat_le b high) h in (leb-true low b p.0, leb-true b high p.1)

letter_range : (b : ℕ) → is_letter b ≡ true → (65 ≤ b) × (b ≤ 122)
letter_range b h = elim (or_cases (nat_le 97 b && nat_le b 122) ((nat_le 65 b && nat_le b 90) || b == 95) h) [
  | inl lower ↦ (let r = between 97 b 122 lower in (omega (arith, r.0), r.1))
  | inr rest ↦ elim (or_cases (nat_le 65 b && nat_le b 90) (b == 95) rest) [
    | inl upper ↦ (let r = between 65 b 90 upper in (r.0, omega (arith, r.1)))
    | inr line ↦ (let e = eqb-true b 95 line in (omega (arith, e), omega (arith, e)))
  ]
]

range : (b : ℕ) → in_name b ≡ true → (48 ≤ b) × (b ≤ 122)
range b h = elim (or_cases (is_letter b) (is_digit b) h) [
  | inl letter ↦ (let r = letter_range b letter in (omega (arith, r.0), r.1))
  | inr digit ↦ (let r = between 48 b 57 digit in (r.0, omega (arith, r.1)))
]

byte_bare : (b : ℕ) → in_name b ≡ true → IsBare b
byte_bare b h =
    let r = range b h in record { from = r.0; to = r.1; other = λ e. false≢true (subst (λ z. in_name z ≡ true) e h) }

bytes_bare : (text : List ℕ) → are_in_name text ≡ true → AreBare text
bytes_bare [] h = tt
bytes_bare (b ∷ text) h = let p = and_parts (in_name b) (are_in_name text) h in (byte_bare b p.0, bytes_bare text p.1)

word_bare : (text : List ℕ) → is_word text ≡ true → AreBare text
word_bare [] h = tt
word_bare (b ∷ text) h =
    let p = and_parts (is_letter b) (are_in_name text) h in
    let r = letter_range b p.0 in
    (record { from = omega (arith, r.0); to = r.1; other = λ e. false≢true (subst (λ z. is_letter z ≡ true) e p.0) }, bytes_bare text p.1)

-- a name of C is
pub name_bare : (text : List ℕ) → is_name text ≡ true → AreBare text
unfolding is_name
name_bare text h = word_bare text (and_parts (is_word text) (not (list_any (λ word. pointwise nat_eq word text) keywords)) h).0

digits_bare : (text : List ℕ) → AllDigits 10 text → AreBare text
digits_bare [] h = tt
digits_bare (b ∷ text) h =
    let d = digit_from_value b h.0 in (record { from = omega (arith, d); to = omega (arith, d); other = λ e. omega (arith, d) }, digits_bare text h.1)

-- a number is
pub decimal_bare : (n : ℕ) → n < 2 ^ 64 → AreBare (decimal n)
decimal_bare n h = digits_bare (decimal n) (decimal_is_IsNumeral n h).0.1

-- such bytes are ASCII
pub bare_ascii : (text : List ℕ) → AreBare text → IsAscii text
bare_ascii [] h i = omega arith
bare_ascii (b ∷ text) h zero = omega (arith, h.0.to)
bare_ascii (b ∷ text) h (suc i) = bare_ascii text h.1 i

-- nothing has to be escaped in a string of JSON
pub bare_escape : (text : List ℕ) → AreBare text → escape text ≡ text
bare_escape [] h = refl
bare_escape (b ∷ text) h =
    (λ i. escape_byte_plain b (λ e. omega (arith, h.0.from)) h.0.other (omega (arith, h.0.from)) i ++ bare_escape text h.1 i)

-- and nothing quoted in a field of CSV
pub bare_field : (text : List ℕ) → AreBare text → list_any (needs_byte default_writer) text ≡ false
bare_field [] h = refl
bare_field (b ∷ text) h =
    let no : (c : ℕ) → c < 48 → (b == c) ≡ false = λ c lt. ne_eqb b c (λ e. (let from = h.0.from in omega (arith, e, lt, from))) in
    rw (no 44 (omega arith), no 34 (omega arith), no 13 (omega arith), no 10 (omega arith)) (bare_field text h.1)
