-- For contracts between crates: nobody has to believe it.
-- How the numbers of a table are written, and its columns.
use Rattle.std.specs.Prelude.{ℕ, ◌+◌, ◌*◌, ◌-◌, ◌/◌, ◌%◌, ◌&&◌, nat_eq, nat_lt, List, [], ◌∷◌, ◌++◌, length, replicate, codes, if◌then◌else◌}
use Rattle.std.specs.Fmt.{decimal}

-- a text at the right of a column that is so wide
unfoldable pub right : ℕ → List ℕ → List ℕ
right width cell = replicate (width - length cell) 32 ++ cell

-- at the left of one
unfoldable pub left : ℕ → List ℕ → List ℕ
left width cell = cell ++ replicate (width - length cell) 32

-- one text between two others
abbrev pub between : List ℕ → List ℕ → List ℕ → List ℕ
between before middle behind = before ++ middle ++ behind

-- digits, with a comma before each three that others stand before
abbrev pub separated : List ℕ → List ℕ
separated [] = []
separated (d ∷ ds) = if nat_eq (length ds % 3) 0 && nat_lt 0 (length ds) then d ∷ 44 ∷ separated ds else d ∷ separated ds

-- a number with separators
unfoldable pub count_text : ℕ → List ℕ
count_text n = separated (decimal n)

-- tenths, as a decimal of one digit
unfoldable pub tenths_text : ℕ → List ℕ
tenths_text n = decimal (n / 10) ++ codes "." ++ decimal (n % 10)

-- hundredths, as one of two digits
unfoldable pub hundredths_text : ℕ → List ℕ
hundredths_text n = decimal (n / 100) ++ codes "." ++ decimal (n % 100 / 10) ++ decimal (n % 10)

-- a fraction, as the nearest decimal of two digits, halves up
unfoldable pub ratio_text : ℕ × ℕ → List ℕ
ratio_text ratio = hundredths_text ((200 * ratio.0 + ratio.1) / (2 * ratio.1))
