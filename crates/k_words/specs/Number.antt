-- Believed with the theorem on the top call.
-- *Numbers* among the words.
use Rattle.std.specs.Prelude.{ℕ, Bool, false, ◌&&◌, ◌||◌, not, ◌==◌, nat_le, if◌then◌else◌, List, [], ◌∷◌, length, Option, Some, None}
use Rattle.std.specs.Char.{is_ascii_digit}
use Rattle.std.specs.List.{list_all}
use Rattle.std.specs.Str.Parse.{digits_value}

-- all bytes are decimal digits
abbrev pub are_digits : List ℕ → Bool
are_digits bytes = list_all is_ascii_digit bytes

-- the bytes are one digit or more, of which the first is 0 only where it is the only one
abbrev pub is_numeral : List ℕ → Bool
is_numeral [] = false
is_numeral (first ∷ rest) = is_ascii_digit first && ((not (first == 48) || (length rest == 0)) && are_digits rest)

-- a number, where it lies in these limits
abbrev pub within : ℕ → ℕ → ℕ → Option ℕ
within low high number = if nat_le low number && nat_le number high then Some number else None

-- the number that a word is in decimal, where it lies in these limits
unfoldable pub number_within : ℕ → ℕ → List ℕ → Option ℕ
number_within low high word = if is_numeral word then within low high (digits_value 10 word) else None
