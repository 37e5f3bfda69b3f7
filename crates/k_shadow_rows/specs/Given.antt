-- For contracts between crates: nobody has to believe it.
-- What an operation makes of the rows and of the paths.
use Rattle.std.specs.Prelude.{◌≡◌, ◌≢◌, ℕ, ◌+◌, ◌%◌, ◌^◌, ◌<◌, ◌≤◌, max, List, length, slice_index}
use Rattle.k_shadow.specs.Content.{time_after}
use Rattle.k_shadow.specs.Rows.{Seen, row_time}

-- the row `to` was given the times of f at the levels from `low` to before `high`, and the paths were raised to them
-- there; nothing else was changed
pub record AreGiven (f : ℕ → ℕ) (to low high : ℕ) (old new : ℕ → Seen) (paths raised : List ℕ) : Type 0 where
  pub stamps : (at : ℕ) → (new at).stamp ≡ (old at).stamp
  pub others : (at : ℕ) → at ≢ to → new at ≡ old at
  pub given : (k : ℕ) → low ≤ k → k < high → (new to).time k ≡ f k
  pub before : (at k : ℕ) → k < low → (new at).time k ≡ (old at).time k
  pub behind : (at k : ℕ) → high ≤ k → (new at).time k ≡ (old at).time k
  pub raised_to : (k : ℕ) → low ≤ k → k < high → slice_index raised k ≡ max (slice_index paths k) (f k)
  pub paths_before : (k : ℕ) → k < low → slice_index raised k ≡ slice_index paths k
  pub paths_behind : (k : ℕ) → high ≤ k → slice_index raised k ≡ slice_index paths k

-- the time of an operation that waits for these times and for a row's
abbrev pub after_row : Seen → List ℕ → List ℕ → ℕ → ℕ → ℕ
after_row from numbers before latency k = (max (row_time from (slice_index numbers k) k) (slice_index before k) + latency) % 2 ^ 64

-- the same, with two rows
abbrev pub after_rows : Seen → Seen → List ℕ → List ℕ → ℕ → ℕ → ℕ
after_rows left right numbers before latency k = time_after (row_time left (slice_index numbers k) k) (row_time right (slice_index numbers k) k) (slice_index before k) latency

-- the time of an operation that waits for these times and for a row's, which are all live
abbrev pub after_live_row : Seen → List ℕ → ℕ → ℕ → ℕ
after_live_row from before latency k = (max (from.time k) (slice_index before k) + latency) % 2 ^ 64

-- the same, with two rows
abbrev pub after_live_rows : Seen → Seen → List ℕ → ℕ → ℕ → ℕ
after_live_rows left right before latency k = time_after (left.time k) (right.time k) (slice_index before k) latency

-- the row `to` was given that stamp and, at each of the `depth` outermost levels, the time of f; no other row was changed
pub record IsGiven (f : ℕ → ℕ) (to stamp depth : ℕ) (old new : ℕ → Seen) : Type 0 where
  pub stamped : (new to).stamp ≡ stamp
  pub others : (at : ℕ) → at ≢ to → new at ≡ old at
  pub given : (k : ℕ) → k < depth → (new to).time k ≡ f k

-- the path of each of the `depth` outermost levels was raised to the time of f
abbrev pub AreRaised : (ℕ → ℕ) → ℕ → List ℕ → List ℕ → Type 0
AreRaised f depth paths raised = (k : ℕ) → k < depth → slice_index raised k ≡ max (slice_index paths k) (f k)

-- the row is live at the `live` outermost levels, whose instances have these numbers
pub record IsLive (row : Seen) (numbers : List ℕ) (live : ℕ) : Type 0 where
  pub inside : (k : ℕ) → k < live → row_time row (slice_index numbers k) k ≡ row.time k
  pub outside : (k : ℕ) → live ≤ k → k < length numbers → row_time row (slice_index numbers k) k ≡ 0
