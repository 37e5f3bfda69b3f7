-- For contracts between crates: nobody has to believe it.
-- The time of a source, by the times of the operations of an interval so far.
use Rattle.std.specs.Prelude.{ℕ, ◌-◌, List, slice_index, nat_lt, if◌then◌else◌}

-- the time of a source in an interval from start on: 0 for one from before it
abbrev pub time_at : ℕ → List ℕ → ℕ → ℕ
time_at start times number = if nat_lt number start then 0 else slice_index times (number - start)
