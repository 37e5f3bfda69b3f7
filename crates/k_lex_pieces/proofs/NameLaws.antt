-- Names are text.
use Rattle.std.proofs.Common.{◌≡◌, ℕ, zero, suc, ◌<◌, ◌≤◌, true, false, List, [], ◌∷◌, leb, sym, ◌∙◌, inl, inr, arith}
use Rattle.std.specs.Prelude.{IsAscii, IsUtf8}
use Rattle.std.proofs.lemmas.Bool.{and_parts, and_right, and_from, or_left, or_from, lt-leb, false≢true, cases_lt}
use Rattle.std.proofs.lemmas.Bool.Decides.{nat_tests}
use Rattle.std.proofs.lemmas.Str.{IsUtf8-from_ascii}
use Rattle.k_lex_pieces.specs.Bytes.{in_name, is_letter, every}
use Rattle.k_lex_pieces.specs.Pieces.{is_name}

high_fails : (b : ℕ) → 128 ≤ b → in_name b ≡ false
high_fails b le = or_from _ _ (or_from _ _ (or_from _ _
    (and_right (leb 97 b) (leb b 122) (lt-leb b 122 (omega arith)))
    (and_right (leb 65 b) (leb b 90) (lt-leb b 90 (omega arith))))
    (let ne : (b ≡ 95) → ⊥ = λ e. omega arith in grind (arith, nat_tests)))
    (and_right (leb 48 b) (leb b 57) (lt-leb b 57 (omega arith)))

in_name_low : (b : ℕ) → in_name b ≡ true → b < 128
in_name_low b h = elim (cases_lt b 128) [
  | inl lt ↦ lt
  | inr le ↦ absurd (false≢true (sym (high_fails b le) ∙ h))
]

every_ascii : (bs : List ℕ) → every in_name bs ≡ true → IsAscii bs
every_ascii [] h i = omega arith
every_ascii (b ∷ bs) h zero = in_name_low b (and_parts (in_name b) (every in_name bs) h).0
every_ascii (b ∷ bs) h (suc i) = every_ascii bs (and_parts (in_name b) (every in_name bs) h).1 i

pub name_utf8 : (s : List ℕ) → is_name s ≡ true → IsUtf8 s
name_utf8 [] h = absurd (false≢true h)
name_utf8 (b ∷ bs) h =
    let parts = and_parts (is_letter b) (every in_name bs) h in
    IsUtf8-from_ascii (b ∷ bs) (every_ascii (b ∷ bs) (letter_first b bs parts.0 parts.1))
  where
    letter_first : (b : ℕ) (bs : List ℕ) → is_letter b ≡ true → every in_name bs ≡ true → every in_name (b ∷ bs) ≡ true
    letter_first b bs l e = and_from (in_name b) (every in_name bs) (or_left (is_letter b) _ l) e
