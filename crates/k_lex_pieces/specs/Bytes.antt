-- Believed with the theorem on the top call.
-- Classes of bytes, lists of bytes, and places.
use Rattle.std.specs.Prelude.{ℕ, suc, ◌<◌, ◌^◌, ◌+◌, ◌-◌, Bool, true, false, ◌&&◌, ◌||◌, List, [], ◌∷◌, Option, Some, None, nat_le, ◌==◌, if◌then◌else◌}
use Rattle.k_num.specs.declared.place.Place.{Place}

-- the byte lies between low and high, both included
abbrev pub within : ℕ → ℕ → ℕ → Bool
within low high b = nat_le low b && nat_le b high

-- a digit (C17 6.4.2.1)
abbrev pub is_digit : ℕ → Bool
is_digit b = within 48 57 b

-- a nondigit: a letter or `_` (C17 6.4.2.1)
abbrev pub is_letter : ℕ → Bool
is_letter b = within 97 122 b || within 65 90 b || b == 95

-- a byte that may stand in a name (C17 6.4.2.1)
abbrev pub in_name : ℕ → Bool
in_name b = is_letter b || is_digit b

-- an octal digit (C17 6.4.4.1)
abbrev pub is_octal : ℕ → Bool
is_octal b = within 48 55 b

-- a hexadecimal digit (C17 6.4.4.1)
abbrev pub is_hexadecimal : ℕ → Bool
is_hexadecimal b = is_digit b || within 97 102 b || within 65 70 b

-- the value of a digit in its base
abbrev pub digit_value : ℕ → ℕ
digit_value b = if nat_le b 57 then b - 48 else (if nat_le 97 b then b - 87 else b - 55)

-- space, tab, vertical tab, form feed, carriage return
abbrev pub is_blank : ℕ → Bool
is_blank b = b == 32 || b == 9 || b == 11 || b == 12 || b == 13

-- every byte passes
abbrev pub every : (ℕ → Bool) → List ℕ → Bool
every p [] = true
every p (b ∷ bs) = p b && every p bs

-- how many of the first bytes pass
abbrev pub span : (ℕ → Bool) → List ℕ → ℕ
span p [] = 0
span p (b ∷ bs) = if p b then suc (span p bs) else 0

-- the two lists are one
abbrev pub same : List ℕ → List ℕ → Bool
same [] [] = true
same [] (y ∷ ys) = false
same (x ∷ xs) [] = false
same (x ∷ xs) (y ∷ ys) = same xs ys && x == y

-- the first list stands at the front of the second
abbrev pub begins : List ℕ → List ℕ → Bool
begins [] text = true
begins (x ∷ xs) [] = false
begins (x ∷ xs) (y ∷ ys) = x == y && begins xs ys

-- the first row of a table with this key
abbrev pub look_up : {X : Type 0} → List (List ℕ × X) → List ℕ → Option X
look_up [] key = None
look_up (row ∷ rows) key = if same row.0 key then Some row.1 else look_up rows key

-- the place behind a byte
abbrev pub after : Place → ℕ → Place
after p b = if b == 10 then record { line = p.line + 1; column = 1 } else record { line = p.line; column = p.column + 1 }

-- the line and the column can grow by n
abbrev pub HasRoom : Place → ℕ → Type 0
HasRoom p n = (p.line + n < 2 ^ 32) × (p.column + n < 2 ^ 32)

-- the place behind some bytes
abbrev pub behind : Place → List ℕ → Place
behind p [] = p
behind p (b ∷ bs) = behind (after p b) bs
