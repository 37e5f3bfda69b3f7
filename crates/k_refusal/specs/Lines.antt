-- Believed with the theorem on the top call.
-- The line of a source at a place, as it is shown, and the caret under the place.
use Rattle.std.specs.Prelude.{ℕ, suc, ◌-◌, ◌&&◌, ◌||◌, not, nat_le, ◌==◌, if◌then◌else◌, min, List, [], ◌∷◌, ◌++◌, take, drop, length, map, codes}
use Rattle.std.specs.List.{flat_map}

-- what stands behind so many newlines
abbrev pub behind_newlines : ℕ → List ℕ → List ℕ
behind_newlines n [] = []
behind_newlines n (b ∷ text) = if n == 0 then b ∷ text else behind_newlines (if b == 10 then n - 1 else n) text

-- how many bytes stand before the first newline
abbrev pub line_span : List ℕ → ℕ
line_span [] = 0
line_span (b ∷ text) = if b == 10 then 0 else suc (line_span text)

-- the first line of a text
abbrev pub first_line : List ℕ → List ℕ
first_line text = take (line_span text) text

-- the line of this number, counted from 1
unfoldable pub line_of : ℕ → List ℕ → List ℕ
line_of number source = first_line (behind_newlines (number - 1) source)

-- how many bytes are cut off at the front of a line of so many bytes, where so many of them stand before the place
abbrev pub cut_off : ℕ → ℕ → ℕ
cut_off size before = if nat_le size 200 then 0 else min (before - 100) (size - 200)

-- what is shown of a line: all of it, or 200 bytes round the place
abbrev pub shown_part : List ℕ → ℕ → List ℕ
shown_part line before = take 200 (drop (cut_off (length line) before) line)

-- a byte as it is shown: another control byte than a tab is a question mark
abbrev pub shown_byte : ℕ → ℕ
shown_byte b = if (nat_le b 31 && not (b == 9)) || b == 127 then 63 else b

-- what stands under a byte in front of the caret: a tab under a tab, nothing under the later bytes of a character, and else a space
abbrev pub under_byte : ℕ → List ℕ
under_byte b = if b == 9 then 9 ∷ [] else if nat_le 128 b && nat_le b 191 then [] else 32 ∷ []

-- THE LINE behind so many of whose bytes the place stands, and the line of the caret
unfoldable pub shown_line : List ℕ → ℕ → List ℕ
shown_line line before =
    map shown_byte (shown_part line before) ++ codes "\n"
    ++ flat_map under_byte (take (before - cut_off (length line) before) (shown_part line before)) ++ codes "^\n"
