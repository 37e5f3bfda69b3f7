-- For contracts between crates: nobody has to believe it.
-- Marks of blocks of numbers, of which some may be in a set.
use Rattle.std.specs.Prelude.{ℕ, ◌≡◌, ◌+◌, ◌/◌, true, false, Bool, List, length, slice_index_or}

-- each block has a mark, and one with a number of the set is marked
pub record AreMarked (flags blocks : List Bool) : Type 0 where
  pub lengths : length blocks ≡ length flags / 2048 + 1
  pub marked : (k : ℕ) → slice_index_or flags k false ≡ true → slice_index_or blocks (k / 2048) false ≡ true
