-- Believed with the theorem on the top call.
-- Faults are counted, so that an answer which blames the outside has a cause.
use Rattle.std.specs.Prelude.{ℕ, ◌≡◌, ◌+◌, ◌^◌, ◌<◌, ◌⊎◌}

-- a count that is kept in 64 bits rose, or stands at its last value
abbrev pub Rose : ℕ → ℕ → Type 0
Rose old new = (old < new) ⊎ ((old + 1 ≡ 2 ^ 64) × (new ≡ old))
