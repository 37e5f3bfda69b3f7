-- The places of a short source are small.
use Rattle.std.proofs.Common.{ℕ, suc, ◌+◌, ◌≤◌, Bool, true, false, List, ◌∷◌, length, arith}
use Rattle.std.specs.Prelude.{◌==◌, if◌then◌else◌}
use Rattle.k_num.specs.declared.place.Place.{Place}
use Rattle.k_pragma.specs.Insertions.{behind}

-- the place behind a byte, by whether that is a newline
abbrev next : Bool → Place → Place
next c place = if c then record { line = place.line + 1; column = 1 } else record { line = place.line; column = place.column + 1 }

line_next : (c : Bool) (place : Place) (n : ℕ) → place.line + suc n ≤ 1048577 → (next c place).line + n ≤ 1048577
line_next true place n h = omega arith
line_next false place n h = omega arith

column_next : (c : Bool) (place : Place) (n : ℕ) → place.column + suc n ≤ 1048577 → (next c place).column + n ≤ 1048577
column_next true place n h = omega arith
column_next false place n h = omega arith

-- behind a byte the line has room for the rest
pub line_room : (place : Place) (b : ℕ) (rest : List ℕ) → place.line + length (b ∷ rest) ≤ 1048577 → (behind place b).line + length rest ≤ 1048577
line_room place b rest h = line_next (b == 10) place (length rest) h

-- behind a byte the column has room for the rest
pub column_room : (place : Place) (b : ℕ) (rest : List ℕ)
    → place.column + length (b ∷ rest) ≤ 1048577 → (behind place b).column + length rest ≤ 1048577
column_room place b rest h = column_next (b == 10) place (length rest) h
