-- For contracts between crates: nobody has to believe it.
-- Sizes, and how many elements they have together.
use Rattle.std.specs.Prelude.{ℕ, ◌*◌, ◌≤◌, List, Option, Some, None, min, option_map}
use Rattle.k_types_meaning.specs.Dimensions.{Size, all_sizes, size_before}
use Rattle.k_types_meaning.specs.Types.{elements}

-- sizes behind one that may be given
abbrev pub with_first : Option ℕ → Option (List ℕ) → Option (List ℕ)
with_first None ds = ds
with_first (Some d) ds = size_before d ds

-- so many times the elements of sizes, where all are sizes, and at most 4,194,305
unfoldable pub counted : ℕ → List Size → Option ℕ
counted n sizes = option_map (λ ds. min (n * elements ds) 4194305) (all_sizes sizes)

-- the same of a count that may be none
abbrev pub counted_option : Option ℕ → List Size → Option ℕ
counted_option None sizes = None
counted_option (Some n) sizes = counted n sizes

-- a count that may be none is at most one above the limit
abbrev pub IsSmall : Option ℕ → Type 0
IsSmall None = Unit {0}
IsSmall (Some n) = n ≤ 4194305

-- a first size that may be given, as a count of elements
abbrev pub starts : Option ℕ → ℕ
starts None = 1
starts (Some d) = min d 4194305
