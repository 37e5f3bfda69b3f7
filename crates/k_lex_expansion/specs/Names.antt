-- Believed with a public law.
-- Sets of names, as lists.
use Rattle.std.specs.Prelude.{ℕ, Bool, false, not, ◌||◌, List, [], ◌∷◌, ◌++◌, filter}
use Rattle.k_lex_pieces.specs.Bytes.{same}

-- the set has the name
abbrev pub has : List (List ℕ) → List ℕ → Bool
has [] name = false
has (n ∷ names) name = same n name || has names name

-- the names of a set, and then those of another that it lacks
abbrev pub joined : List (List ℕ) → List (List ℕ) → List (List ℕ)
joined a b = a ++ filter (λ n. not (has a n)) b

-- the names of either set
abbrev pub either : List (List ℕ) → List (List ℕ) → List (List ℕ)
either [] b = b
either (n ∷ a) b = joined (n ∷ a) b

-- the names that both sets have
abbrev pub both : List (List ℕ) → List (List ℕ) → List (List ℕ)
both a b = filter (λ n. has b n) a
