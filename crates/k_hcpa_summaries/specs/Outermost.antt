-- For contracts between crates: nobody has to believe it.
-- The work before an instance, by its level.
use Rattle.std.specs.Prelude.{ℕ, List, map, reverse, slice_index_or}
use Rattle.k_hcpa_meaning.specs.Summing.{Opened}

-- the work before the instance at a level, outermost first
abbrev pub before_at : List Opened → ℕ → ℕ
before_at levels level = slice_index_or (map (λ l. l.before) (reverse levels)) level 0
