-- For contracts between crates: nobody has to believe it.
-- One stamp for each location: the last instance number that was given when the location was last written. Instances
-- nest and a write goes to all live levels, so a level's time is live exactly where the level's instance began no
-- later than that write.
use Rattle.std.specs.Prelude.{◌≡◌, refl, true, ℕ, zero, suc, ◌+◌, ◌≤◌, nat_le, if◌then◌else◌, List, [], ◌∷◌, length, take, replicate, map, slice_index, slice_index_or, Bool}
use Rattle.k_shadow.specs.Content.{Content}
use Rattle.k_shadow.specs.Numbers.{Numbers}
use Rattle.k_shadow.specs.Stack.{Stack}
use Rattle.k_shadow.specs.declared.row.NarrowRow.{NarrowRow}
use Rattle.k_shadow.specs.declared.row.Row.{Row}

-- what is seen of a row, however many levels it has times for: its stamp, and the time of each level, 0 behind the last
pub record Seen : Type 0 where
  pub stamp : ℕ
  pub time : ℕ → ℕ

-- what is seen of a row with times for that many levels
abbrev pub seen : {levels : ℕ} → Row levels → Seen
seen row = record { stamp = row.stamp; time = λ level. slice_index row.times level }

-- what is seen of a narrow row
abbrev pub seen_narrow : {levels : ℕ} → NarrowRow levels → Seen
seen_narrow row = record { stamp = row.stamp; time = λ level. slice_index row.times level }

-- the time of a row at a level, where the level's instance has that number
abbrev pub row_time : Seen → ℕ → ℕ → ℕ
row_time row number level = if nat_le number row.stamp then row.time level else 0

-- a row that was never written, with times for that many levels
abbrev pub blank_row : (levels : ℕ) → Row levels
blank_row levels = record { stamp = 0; times = replicate levels 0 }

-- a narrow row that was never written
abbrev pub blank_narrow : (levels : ℕ) → NarrowRow levels
blank_narrow levels = record { stamp = 0; times = replicate levels 0 }

-- what is seen of a row that was never written
abbrev pub unwritten : Seen
unwritten = record { stamp = 0; time = λ _. 0 }

-- each of so many zeros is 0, and so is what stands behind them
zeros : (n level : ℕ) → ◌≡◌ {A = ℕ} (slice_index (replicate n 0) level) 0
zeros zero level = refl
zeros (suc n) zero = refl
zeros (suc n) (suc level) = zeros n level

-- a row that was never written is seen so
pub unwritten_seen : (levels : ℕ) → seen (blank_row levels) ≡ unwritten
unwritten_seen levels = λ i. record { stamp = 0; time = λ level. zeros levels level i }

-- f of each number and its place, places being counted from k on
abbrev pub with_places : {A : Type 0} → (ℕ → ℕ → A) → ℕ → List ℕ → List A
with_places f k [] = []
with_places f k (n ∷ ns) = f n k ∷ with_places f (k + 1) ns

-- the time of a row at each live level
abbrev pub times_of : Seen → List ℕ → List ℕ
times_of row live = with_places (row_time row) 0 live

-- the map of each live level, where `rows` gives the row of each location
abbrev pub levels_of : (ℕ → Seen) → List ℕ → List (ℕ → ℕ)
levels_of rows live = with_places (λ number level loc. row_time (rows loc) number level) 0 live

-- the row of each location, where rows stand in the order of locations; blank where there is none
abbrev pub row_at : {levels : ℕ} → List (Row levels) → ℕ → Seen
row_at {levels} rows loc = seen (slice_index_or rows loc (blank_row levels))

-- the content of a shadow whose locations have these rows
abbrev pub content_of : (ℕ → Seen) → Numbers → ℕ → Content
content_of rows numbers limit = record { levels = levels_of rows numbers.live; entries = numbers.given; limit = limit }

-- no row was written later than that number was given
abbrev pub WereStamped : {levels : ℕ} → ℕ → List (Row levels) → Type 0
WereStamped given [] = Unit {0}
WereStamped given (row ∷ rows) = (row.stamp ≤ given) × WereStamped given rows

-- the control stack whose current entry has these times at the front, and whose saved entries are these rows
abbrev pub stack_in : List ℕ → List (Row 32) → Numbers → Bool → Stack
stack_in current saved numbers room = record {
  current = take (length numbers.live) current;
  saved = map (λ row. times_of (seen row) numbers.live) saved;
  entries = numbers.given;
  room = room;
}

-- where it is kept, the row at that place has these times at each live level
abbrev pub IsKept : Bool → List (Row 32) → ℕ → List ℕ → List ℕ → Type 0
IsKept kept rows at live current = kept ≡ true → times_of (row_at rows at) live ≡ take (length live) current
