-- Believed with a public law.
-- Levels of nesting.
use Rattle.std.specs.Prelude.{ℕ, ◌+◌, max}

-- the level that lies so far below another
abbrev pub plus : ℕ → ℕ → ℕ
plus level below = level + below

-- how many levels a node has above parts of so many levels
abbrev pub above : ℕ → ℕ → ℕ
above height other = max height other + 1
