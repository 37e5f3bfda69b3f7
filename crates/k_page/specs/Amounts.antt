-- Believed with the theorem on the top call.
-- Shares, ratios, and the shades that stand for ratios.
use Rattle.std.specs.Prelude.{ℕ, ◌*◌, ◌/◌, ◌%◌, ◌==◌, nat_lt, if◌then◌else◌, List, ◌++◌, codes}
use Rattle.std.specs.Fmt.{decimal}

-- how wide a picture is, in its own units
abbrev pub width : ℕ
width = 1200

-- a part of a whole in so many parts, rounded down; 0 of no whole
abbrev pub scaled : ℕ → ℕ → ℕ → ℕ
scaled part whole parts = if whole == 0 then 0 else (part * parts) / whole

-- a number of tenths of a percent
abbrev pub percent : ℕ → List ℕ
percent tenths = decimal (tenths / 10) ++ codes "." ++ decimal (tenths % 10) ++ codes " %"

-- a part of a whole in percent
unfoldable pub share : ℕ → ℕ → List ℕ
share part whole = percent (scaled part whole 1000)

-- a fraction
unfoldable pub ratio : ℕ × ℕ → List ℕ
ratio f = decimal f.0 ++ codes "/" ++ decimal f.1

-- how many whole times a fraction is
abbrev pub times : ℕ × ℕ → ℕ
times f = f.0 / f.1

-- THE SHADES: below 2, to below 5 (the least that is picked), to below 25, to below 100, and from there on
unfoldable pub shade_of : ℕ → List ℕ
shade_of n =
    if nat_lt n 2 then codes "s1" else if nat_lt n 5 then codes "s2" else if nat_lt n 25 then codes "s3"
    else if nat_lt n 100 then codes "s4" else codes "s5"

-- the shade of a self-parallelism
abbrev pub shade : ℕ × ℕ → List ℕ
shade f = shade_of (times f)

-- how many instances there are, their work and their path together, and their self-parallelism
unfoldable pub sums : ℕ → ℕ → ℕ → ℕ × ℕ → List ℕ
sums instances work path sp =
    codes " n=" ++ decimal instances ++ codes " work=" ++ decimal work ++ codes " path=" ++ decimal path ++ codes " sp=" ++ ratio sp
