-- Believed with the theorem on the top call.
-- Numbers in decimal at the front of a text.

use Rattle.std.specs.Prelude.{ℕ, ℤ, pos, negsuc, ◌+◌, ◌-◌, ◌*◌, ◌≡◌, Bool, false, ◌&&◌, List, [], ◌∷◌, Option, Some, None, nat_le, nat_lt, ◌==◌, if◌then◌else◌, option_and_then}

-- a decimal digit
abbrev pub is_digit : ℕ → Bool
is_digit b = nat_le 48 b && nat_le b 57

-- no digit stands first
abbrev pub NoDigit : List ℕ → Type 0
NoDigit [] = Unit {0}
NoDigit (b ∷ text) = is_digit b ≡ false

-- the number whose first digits have this value, below 2 ^ 64, and the text behind it
abbrev pub digits_at : ℕ → List ℕ → Option (ℕ × List ℕ)
digits_at value [] = Some (value, [])
digits_at value (b ∷ text) =
    if is_digit b then (if nat_lt (value * 10 + (b - 48)) 18446744073709551616 then digits_at (value * 10 + (b - 48)) text else None)
    else Some (value, b ∷ text)

-- the number at the front, below 2 ^ 64 and without leading zeros, and the text behind it
abbrev pub number_at : List ℕ → Option (ℕ × List ℕ)
number_at [] = None
number_at (b ∷ text) =
    if b == 48 then Some (0, text)
    else (if is_digit b then digits_at (b - 48) text else None)

-- a number that fits 31 bits, and the text behind it
abbrev pub small : ℕ × List ℕ → Option (ℤ × List ℕ)
small found = if nat_le found.0 2147483647 then Some (pos found.0, found.1) else None

-- the same number below 0, where that is one of 32 bits, and not 0 itself
abbrev pub below : ℕ × List ℕ → Option (ℤ × List ℕ)
below found = if nat_le 1 found.0 && nat_le found.0 2147483648 then Some (negsuc (found.0 - 1), found.1) else None

-- the signed number of 32 bits at the front, and the text behind it
abbrev pub signed_at : List ℕ → Option (ℤ × List ℕ)
signed_at [] = None
signed_at (b ∷ text) = if b == 45 then option_and_then below (number_at text) else option_and_then small (number_at (b ∷ text))
