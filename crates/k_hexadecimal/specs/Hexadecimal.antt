-- For contracts between crates: nobody has to believe it.
-- Values of hexadecimal floating constants without their suffix (C17 6.4.4.2): the exact number, rounded once to its precision.
use Rattle.std.specs.Prelude.{◌≡◌, ◌<◌, ◌≤◌, ℕ, suc, ◌+◌, ◌-◌, ◌*◌, ◌^◌, ◌==◌, ◌&&◌, ◌||◌, nat_lt, min, Bool, true, false, if◌then◌else◌, List, [], ◌∷◌, Option, Some, None}
use Rattle.std.specs.Char.{is_ascii_digit, is_ascii_hexdigit}
use Rattle.std.specs.Float.{Float, Format}
use Rattle.std.specs.Float.Ieee.{round, hid, ones}
use Rattle.k_real.specs.declared.precision.Precision.{Precision}
use Rattle.k_hexadecimal.specs.declared.hexadecimal.Significand.{Significand}
use Rattle.k_real.specs.Codes.{format}
use Rattle.k_real.specs.Constants.{finite_code}

-- what a hexadecimal digit counts
abbrev pub digit : ℕ → ℕ
digit b = if nat_lt b 58 then b - 48 else (if nat_lt b 97 then b - 55 else b - 87)

-- the number that the hexadecimal digits at the front of a text write, behind those of m
abbrev pub number : ℕ → List ℕ → ℕ
number m [] = m
number m (b ∷ bs) = if is_ascii_hexdigit b then number (m * 16 + digit b) bs else m

-- how many they are
abbrev pub many : List ℕ → ℕ
many [] = 0
many (b ∷ bs) = if is_ascii_hexdigit b then suc (many bs) else 0

-- what stands behind them
abbrev pub behind : List ℕ → List ℕ
behind [] = []
behind (b ∷ bs) = if is_ascii_hexdigit b then behind bs else b ∷ bs

-- the number of decimal digits, behind those of m
abbrev pub decimal : ℕ → List ℕ → ℕ
decimal m [] = m
decimal m (b ∷ bs) = decimal (m * 10 + (b - 48)) bs

-- all are decimal digits
abbrev pub are_digits : List ℕ → Bool
are_digits [] = true
are_digits (b ∷ bs) = is_ascii_digit b && are_digits bs

-- there is one, and all are digits
abbrev pub is_number : List ℕ → Bool
is_number [] = false
is_number (b ∷ bs) = are_digits (b ∷ bs)

-- m * 2 ^ up / 2 ^ down, with n hexadecimal digits behind the point
abbrev pub value : Format → ℕ → ℕ → ℕ → ℕ → Float
value f m up down n = round f false (m * 2 ^ up) (2 ^ down * 16 ^ n)

-- its code, where it is finite
unfoldable pub code_with : Precision → ℕ → ℕ → ℕ → ℕ → Option ℕ
code_with p m up down n = finite_code (value (format p) m up down n)

-- by the exponent's digits, and whether a minus stands before them
unfoldable pub with_power : Precision → ℕ → ℕ → Bool → List ℕ → Option ℕ
with_power p m n minus ds = if is_number ds then (if minus then code_with p m 0 (decimal 0 ds) n else code_with p m (decimal 0 ds) 0 n) else None

-- by the text behind the `p`
abbrev pub with_exponent : Precision → ℕ → ℕ → List ℕ → Option ℕ
with_exponent p m n [] = None
with_exponent p m n (b ∷ bs) = if b == 45 then with_power p m n true bs else (if b == 43 then with_power p m n false bs else with_power p m n false (b ∷ bs))

-- by the text behind so many digits
abbrev pub with_rest : Precision → ℕ → ℕ → ℕ → List ℕ → Option ℕ
with_rest p m digits n [] = None
with_rest p m digits n (b ∷ bs) = if digits == 0 then None else (if b == 112 || b == 80 then with_exponent p m n bs else None)

-- by the text behind the digits of a whole number, of which a point may be the first
abbrev pub with_fraction : Precision → ℕ → ℕ → List ℕ → Option ℕ
with_fraction p m digits [] = None
with_fraction p m digits (b ∷ bs) = if b == 46 then with_rest p (number m bs) (digits + many bs) (many bs) (behind bs) else with_rest p m digits 0 (b ∷ bs)

-- by the text behind the prefix
abbrev pub behind_prefix : Precision → List ℕ → Option ℕ
behind_prefix p text = with_fraction p (number 0 text) (many text) (behind text)

-- by the text behind the 0 of the prefix
abbrev pub behind_zero : Precision → List ℕ → Option ℕ
behind_zero p [] = None
behind_zero p (x ∷ bs) = if x == 120 || x == 88 then behind_prefix p bs else None

-- the code of the number that the text writes; none where it writes none, and where that rounds to an infinity
abbrev pub hexadecimal : Precision → List ℕ → Option ℕ
hexadecimal p [] = None
hexadecimal p (z ∷ bs) = if z == 48 then behind_zero p bs else None

-- a significand's head and l of the digits that were dropped behind it are the number m
pub record Holds (s : Significand) (m l : ℕ) : Type 0 where
  pub number_is : m ≡ s.head * 16 ^ s.dropped + l
  pub below : l < 16 ^ s.dropped
  pub more : s.more ≡ nat_lt 0 l
  pub small : s.head < 2 ^ 60
  pub full : 0 < s.dropped → 2 ^ 56 ≤ s.head

-- so it is with some l
abbrev pub IsOf : Significand → ℕ → Type 0
IsOf s m = (l : ℕ) × Holds s m l

-- it is of some number
abbrev pub IsSome : Significand → Type 0
IsSome s = (m : ℕ) × IsOf s m

-- with an exponent that is too great for any text: 0, or an infinity, which has no code here
abbrev pub far_code_of : ℕ → Bool → Option ℕ
far_code_of head minus = if head == 0 || minus then Some 0 else None

-- the bits of m * 2 ^ k of a format's least values, or those of infinity
abbrev pub scaled_bits : Format → ℕ → ℕ → ℕ
scaled_bits f m k = min (k * hid f + m) (ones f * hid f)
