-- Believed with a public law.
-- The letters of conversions (C17 7.21.6.1p8), by what they take and how they write it.
use Rattle.std.specs.Prelude.{ℕ, Bool, ◌||◌, ◌==◌}

-- `d i`: a whole number with its sign
unfoldable pub is_signed : ℕ → Bool
is_signed c = c == 100 || c == 105

-- `o x X`: a whole number in base 8 or 16
unfoldable pub is_based : ℕ → Bool
is_based c = c == 111 || c == 120 || c == 88

-- `d i u o x X`
unfoldable pub is_whole : ℕ → Bool
is_whole c = is_signed c || c == 117 || is_based c

-- `f F`: a real with a fixed number of digits behind the point
unfoldable pub is_fixed : ℕ → Bool
is_fixed c = c == 102 || c == 70

-- `e E`: a real with an exponent
unfoldable pub is_scientific : ℕ → Bool
is_scientific c = c == 101 || c == 69

-- `f F e E g G`
unfoldable pub is_real : ℕ → Bool
is_real c = is_fixed c || is_scientific c || c == 103 || c == 71

-- `F E G`: a real with capital letters
unfoldable pub is_capital : ℕ → Bool
is_capital c = c == 70 || c == 69 || c == 71

-- `d i u o x X f F e E g G`
unfoldable pub is_number : ℕ → Bool
is_number c = is_whole c || is_real c
