-- Believed with the theorem on the top call.
-- *Escaped text*: bytes as text of a page. What could be markup is written by its name, and what is no character by U+FFFD.
use Rattle.std.specs.Prelude.{ℕ, ◌-◌, Bool, ◌&&◌, ◌||◌, not, nat_le, nat_lt, ◌==◌, if◌then◌else◌, List, [], ◌∷◌, ◌++◌, get_or, codes}

-- a byte goes on a character
abbrev pub is_tail : ℕ → Bool
is_tail b = nat_le 128 b && nat_le b 191

-- a byte goes on a character of three bytes behind its first one
abbrev pub is_second_of_three : ℕ → ℕ → Bool
is_second_of_three first second =
    if first == 224 then nat_le 160 second && nat_le second 191
    else if first == 237 then nat_le 128 second && nat_le second 159 else is_tail second

-- a byte goes on a character of four bytes behind its first one
abbrev pub is_second_of_four : ℕ → ℕ → Bool
is_second_of_four first second =
    if first == 240 then nat_le 144 second && nat_le second 191
    else if first == 244 then nat_le 128 second && nat_le second 143 else is_tail second

-- a character of two bytes begins here
abbrev pub is_two : ℕ → List ℕ → Bool
is_two first behind = (nat_le 194 first && nat_le first 223) && is_tail (get_or behind 0 0)

-- of three
abbrev pub is_three : ℕ → List ℕ → Bool
is_three first behind =
    ((nat_le 224 first && nat_le first 239) && is_second_of_three first (get_or behind 0 0)) && is_tail (get_or behind 1 0)

-- of four
abbrev pub is_four : ℕ → List ℕ → Bool
is_four first behind =
    (((nat_le 240 first && nat_le first 244) && is_second_of_four first (get_or behind 0 0)) && is_tail (get_or behind 1 0))
    && is_tail (get_or behind 2 0)

-- how many bytes of a character of UTF-8 stand behind its first one; 0 also where none begins
abbrev pub tails : ℕ → List ℕ → ℕ
tails first behind = if is_two first behind then 1 else if is_three first behind then 2 else if is_four first behind then 3 else 0

-- one of the five bytes that may be markup
abbrev pub is_mark : ℕ → Bool
is_mark b = b == 38 || (b == 60 || (b == 62 || (b == 34 || b == 39)))

-- a byte below 128 stands for itself: a tab, or a character that is no mark
abbrev pub is_plain : ℕ → Bool
is_plain b = b == 9 || ((nat_le 32 b && not (b == 127)) && not (is_mark b))

-- what is written for a byte that doesn't stand for itself: the name of a mark, a space for CR, and else U+FFFD by its number
unfoldable pub name_of : ℕ → List ℕ
name_of b =
    if b == 38 then codes "&amp;" else if b == 60 then codes "&lt;" else if b == 62 then codes "&gt;" else if b == 34 then codes "&quot;"
    else if b == 39 then codes "&#39;" else if b == 13 then codes " " else codes "&#65533;"

-- a byte that begins a character with so many bytes behind it, or none, is written as it is
abbrev pub stands : ℕ → ℕ → Bool
stands b tails = if nat_lt b 128 then is_plain b else nat_lt 0 tails

-- such a byte as it is written
abbrev pub first_written : ℕ → ℕ → List ℕ
first_written b tails = if stands b tails then b ∷ [] else name_of b

-- what is written of a byte, so many bytes before the end of a character that began earlier
abbrev pub next_written : ℕ → ℕ → List ℕ → List ℕ
next_written left b behind = if nat_lt 0 left then b ∷ [] else first_written b (tails b behind)

-- how many bytes are left of the character behind it
abbrev pub next_left : ℕ → ℕ → List ℕ → ℕ
next_left left b behind = if nat_lt 0 left then left - 1 else tails b behind

-- bytes, of which so many go on a character that began earlier
abbrev pub escape_from : ℕ → List ℕ → List ℕ
escape_from left [] = []
escape_from left (b ∷ behind) = next_written left b behind ++ escape_from (next_left left b behind) behind

-- BYTES AS TEXT
unfoldable pub escaped : List ℕ → List ℕ
escaped bytes = escape_from 0 bytes
