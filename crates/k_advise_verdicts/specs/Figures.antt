-- Believed with a public law.
-- Numbers that a table tells of loops: shares, decimals, and whether turns are uneven.
use Rattle.std.specs.Prelude.{ℕ, ◌+◌, ◌*◌, ◌/◌, Bool, nat_eq, nat_lt, if◌then◌else◌}

-- a/b as the nearest whole number, halves up; 0 where b is 0
abbrev pub nearest : ℕ → ℕ → ℕ
nearest a b = if nat_eq b 0 then 0 else (2 * a + b) / (2 * b)

-- A SHARE in thousandths, which is a percentage with one decimal
abbrev pub share : ℕ → ℕ → ℕ
share part whole = nearest (1000 * part) whole

-- A RATIO AS A DECIMAL of one digit, in tenths
abbrev pub tenths : ℕ → ℕ → ℕ
tenths a b = nearest (10 * a) b

-- TURNS ARE UNEVEN where the greatest work of one is above twice the mean
abbrev pub is_uneven : ℕ → ℕ → ℕ → Bool
is_uneven count work greatest = nat_lt (2 * work) (greatest * count)
