-- Believed with the theorem on the top call.
-- The names of variables, as the tree of syntax tells them.
use Rattle.std.specs.Prelude.{ℕ, nat_eq, nat_le, ◌==◌, Bool, true, false, not, ◌&&◌, ◌||◌, List, [], ◌∷◌, slice_get, unwrap_or}
use Rattle.std.specs.Cmp.Lexicographic.{pointwise}
use Rattle.std.specs.List.{list_all, list_any}
use Rattle.k_pragma_written.specs.declared.told.Written.{Written}

-- a byte may stand in a word: a letter, a digit or `_`
abbrev pub is_in_word : ℕ → Bool
is_in_word b = (nat_le 48 b && nat_le b 57) || ((nat_le 65 b && nat_le b 90) || ((b == 95) || (nat_le 97 b && nat_le b 122)))

-- a word: it has bytes, and these may stand in words
abbrev pub is_word : List ℕ → Bool
is_word [] = false
is_word (b ∷ bs) = is_in_word b && list_all is_in_word bs

-- two names are one
abbrev pub same_name : List ℕ → List ℕ → Bool
same_name a b = pointwise nat_eq a b

-- the names of the variables of the function of this number
abbrev pub names_of : Written → ℕ → List (List ℕ)
names_of written function = unwrap_or (slice_get written.names function) []

-- THE NAME OF A VARIABLE of this number in a function with these names
abbrev pub name_of : List (List ℕ) → ℕ → List ℕ
name_of names n = unwrap_or (slice_get names n) []

-- a name is a word, and none of these
abbrev pub stands_apart : List ℕ → List (List ℕ) → Bool
stands_apart name names = is_word name && not (list_any (same_name name) names)

-- names are words, and no two are one
abbrev pub are_apart : List (List ℕ) → Bool
are_apart [] = true
are_apart (name ∷ names) = stands_apart name names && are_apart names
