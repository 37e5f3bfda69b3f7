-- For contracts between crates: nobody has to believe it.
-- Lines of the source, with marks under places.
use Rattle.std.specs.Prelude.{ℕ, zero, suc, ◌+◌, ◌-◌, ◌||◌, ◌&&◌, ◌==◌, nat_lt, List, [], ◌∷◌, ◌++◌, take, drop, Option, Some, None, codes, if◌then◌else◌}
use Rattle.std.specs.Fmt.{decimal}
use Rattle.k_num.specs.declared.place.Place.{Place}
use Rattle.k_scan.specs.Names.{name_at}
use Rattle.k_advise_text.specs.Numbers.{right}

-- how many bytes stand before the first newline
abbrev pub line_span : List ℕ → ℕ
line_span [] = 0
line_span (b ∷ text) = if b == 10 then 0 else suc (line_span text)

-- what stands behind the first line, and its newline
abbrev pub behind_line : List ℕ → List ℕ
behind_line [] = []
behind_line (b ∷ text) = if b == 10 then text else behind_line text

-- what stands behind so many lines
abbrev pub behind_lines : ℕ → List ℕ → List ℕ
behind_lines zero text = text
behind_lines (suc n) text = behind_lines n (behind_line text)

-- THE LINE of a source that has this number, counted from 1
unfoldable pub line_at : ℕ → List ℕ → List ℕ
line_at number source = let text = behind_lines (number - 1) source in take (line_span text) text

-- a text, and behind it a name and a colon, where there is one
abbrev pub named : List ℕ → Option (List ℕ × List ℕ) → List ℕ
named before None = before
named before (Some (name, rest)) = before ++ name ++ codes ": "

-- a text, and behind it the name that stands at a place, and a colon
unfoldable pub name_text : List ℕ → List ℕ → Place → List ℕ
name_text before source place = named before (name_at (drop (place.column - 1) (line_at place.line source)))

-- what stands under a byte: a mark in one of two columns, else a blank as wide
abbrev pub mark_of : ℕ → ℕ → ℕ → ℕ → ℕ
mark_of from to at b = if (at == from) || (at == to) then 94 else if b == 9 then 9 else 32

-- what stands under the bytes from this column on, up to the last mark
abbrev pub marks : ℕ → ℕ → ℕ → List ℕ → List ℕ
marks from to at [] = []
marks from to at (b ∷ line) = if nat_lt from at && nat_lt to at then [] else mark_of from to at b ∷ marks from to (at + 1) line

-- a line, and marks under two of its columns
unfoldable pub shown : List ℕ → ℕ → ℕ → ℕ → List ℕ
shown source number from to =
    right 6 (decimal number) ++ codes " | " ++ line_at number source ++ codes "\n       | " ++ marks from to 1 (line_at number source) ++ codes "\n"

-- the line of a place, and a mark under it
unfoldable pub shown_place : List ℕ → Place → List ℕ
shown_place source place = shown source place.line place.column place.column

-- the lines of two places, each once, with marks under them
unfoldable pub shown_places : List ℕ → Place → Place → List ℕ
shown_places source from to = if from.line == to.line then shown source from.line from.column to.column else shown_place source from ++ shown_place source to
