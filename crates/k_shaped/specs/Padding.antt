-- Believed with a public law.
-- Up to the width (C17 7.21.6.1p4, p6): blanks before a text, zeros behind its sign or prefix, or blanks behind it.
use Rattle.std.specs.Prelude.{ℕ, ◌-◌, Bool, if◌then◌else◌, List, ◌++◌, length, replicate}

-- by how many bytes a sign or prefix and what stands behind it are shorter than the width
abbrev pub short_by : ℕ → List ℕ → List ℕ → ℕ
short_by width head body = width - length head - length body

-- blanks behind where `left`, else zeros where they are asked for, else blanks before
unfoldable pub padded : Bool → Bool → ℕ → List ℕ → List ℕ → List ℕ
padded left zeros width head body =
    if left then head ++ (body ++ replicate (short_by width head body) 32)
    else if zeros then head ++ (replicate (short_by width head body) 48 ++ body)
    else replicate (short_by width head body) 32 ++ (head ++ body)
