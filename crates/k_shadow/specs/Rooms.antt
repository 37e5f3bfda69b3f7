-- For contracts between crates: nobody has to believe it.
-- How great the times are that a location has room for.
use Rattle.std.specs.Prelude.{ℕ, ◌+◌, ◌<◌, ◌≤◌, min}

-- a time that is so much later, or the greatest that 64 bits have where that is less
abbrev pub delayed : ℕ → ℕ → ℕ
delayed time latency = min (time + latency) 18446744073709551615

-- a location has room for the times that f gives for the `depth` outermost levels: it has room for times up to this one,
-- and f gives none above it
pub record HasRoomFor (room : ℕ → Type 0) (depth : ℕ) (f : ℕ → ℕ) : Type 0 where
  pub most : ℕ
  pub there : room most
  pub within : (level : ℕ) → level < depth → f level ≤ most
