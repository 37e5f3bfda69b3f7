-- Believed with the theorem on the top call.
-- What stands at the front of a text.
use Rattle.std.specs.Prelude.{ℕ, suc, Bool, ◌&&◌, ◌||◌, nat_le, ◌==◌, if◌then◌else◌, List, [], ◌∷◌, take, drop}

-- a byte of a name or of a number
abbrev pub in_word : ℕ → Bool
in_word b = (nat_le 97 b && nat_le b 122) || ((nat_le 65 b && nat_le b 90) || ((nat_le 48 b && nat_le b 57) || b == 95))

-- a digit
abbrev pub is_digit : ℕ → Bool
is_digit b = nat_le 48 b && nat_le b 57

-- a space or a tab
abbrev pub is_blank : ℕ → Bool
is_blank b = b == 32 || b == 9

-- how many bytes at the front pass
abbrev pub span : (ℕ → Bool) → List ℕ → ℕ
span passes [] = 0
span passes (b ∷ text) = if passes b then suc (span passes text) else 0

-- the first byte, or 0
abbrev pub first_byte : List ℕ → ℕ
first_byte [] = 0
first_byte (b ∷ text) = b

-- the name, keyword or number at the front, as long as it may be
abbrev pub word_at : List ℕ → List ℕ
word_at text = take (span in_word text) text

-- what stands behind it
abbrev pub behind_word : List ℕ → List ℕ
behind_word text = drop (span in_word text) text

-- what stands behind blanks
abbrev pub behind_blanks : List ℕ → List ℕ
behind_blanks text = drop (span is_blank text) text

-- what stands behind the first `)`, or nothing
abbrev pub behind_closing : List ℕ → List ℕ
behind_closing [] = []
behind_closing (b ∷ text) = if b == 41 then text else behind_closing text
