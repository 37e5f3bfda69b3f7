-- Names are text.
use Rattle.std.proofs.Common.{◌≡◌, ℕ, zero, suc, ◌<◌, ◌≤◌, true, false, not, nat_eq, List, [], ◌∷◌, leb, sym, ◌∙◌, inl, inr, arith}
use Rattle.std.specs.Cmp.Lexicographic.{pointwise}
use Rattle.std.specs.List.{list_any}
use Rattle.std.specs.Prelude.{IsAscii, IsUtf8}
use Rattle.std.proofs.lemmas.Bool.{and_parts, and_right, and_from, or_left, or_from, lt-leb, false≢true, cases_lt}
use Rattle.std.proofs.lemmas.Bool.Decides.{nat_tests}
use Rattle.std.proofs.lemmas.Str.{IsUtf8-from_ascii}
use Rattle.k_scan.specs.Names.{are_in_name, in_name, is_letter, is_name, is_word, keywords}

high_fails : (b : ℕ) → 128 ≤ b → in_name b ≡ false
high_fails b le = or_from _ _ (or_from _ _ (and_right (leb 97 b) (leb b 122) (lt-leb b 122 (omega arith)))
    (or_from _ _ (and_right (leb 65 b) (leb b 90) (lt-leb b 90 (omega arith)))
    (let ne : (b ≡ 95) → ⊥ = λ e. omega arith in grind (arith, nat_tests))))
    (and_right (leb 48 b) (leb b 57) (lt-leb b 57 (omega arith)))

in_name_low : (b : ℕ) → in_name b ≡ true → b < 128
in_name_low b h = elim (cases_lt b 128) [
  | inl lt ↦ lt
  | inr le ↦ absurd (false≢true (sym (high_fails b le) ∙ h))
]

are_ascii : (text : List ℕ) → are_in_name text ≡ true → IsAscii text
are_ascii [] h i = omega arith
are_ascii (b ∷ text) h zero = in_name_low b (and_parts (in_name b) (are_in_name text) h).0
are_ascii (b ∷ text) h (suc i) = are_ascii text (and_parts (in_name b) (are_in_name text) h).1 i

word_bytes : (text : List ℕ) → is_word text ≡ true → are_in_name text ≡ true
word_bytes [] h = absurd (false≢true h)
word_bytes (b ∷ text) h =
    let parts = and_parts (is_letter b) (are_in_name text) h in
    and_from (in_name b) (are_in_name text) (or_left (is_letter b) _ parts.0) parts.1

-- all bytes of a name may stand in one
pub name_bytes : (text : List ℕ) → is_name text ≡ true → are_in_name text ≡ true
unfolding is_name
name_bytes text h = word_bytes text (and_parts (is_word text) (not (list_any (λ word. pointwise nat_eq word text) keywords)) h).0

-- a name is text
pub name_utf8 : (text : List ℕ) → is_name text ≡ true → IsUtf8 text
name_utf8 text h = IsUtf8-from_ascii text (are_ascii text (name_bytes text h))
