-- For contracts between crates: nobody has to believe it.
-- The least number that is in a set, which is a list of flags.
use Rattle.std.specs.Prelude.{ℕ, ◌≡◌, ◌<◌, true, false, Bool, List, slice_index_or, Option, Some, None}

-- no number is in the set
abbrev pub IsEmpty : List Bool → Type 0
IsEmpty flags = (k : ℕ) → slice_index_or flags k false ≡ false

-- this is the least number that is
pub record IsLeast (flags : List Bool) (k : ℕ) : Type 0 where
  pub within : slice_index_or flags k false ≡ true
  pub least : (j : ℕ) → j < k → slice_index_or flags j false ≡ false

-- what the search for it finds
abbrev pub IsFound : List Bool → Option ℕ → Type 0
IsFound flags None = IsEmpty flags
IsFound flags (Some k) = IsLeast flags k
