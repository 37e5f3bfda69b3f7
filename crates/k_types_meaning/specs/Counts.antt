-- Believed with the theorem on the top call.
-- How many numbers there are in dimensions (C17 6.2.5p20).
use Rattle.std.specs.Prelude.{ℕ, ◌*◌, List, [], ◌∷◌}

-- C17 6.2.5p20: how many numbers there are in so many dimensions
abbrev pub elements : List ℕ → ℕ
elements [] = 1
elements (d ∷ ds) = d * elements ds
