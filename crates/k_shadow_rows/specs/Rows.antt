-- For contracts between crates: nobody has to believe it.
-- What is seen of rows, whatever their width is and whatever their times take.
use Rattle.std.specs.Prelude.{ℕ, ◌<◌, ◌≤◌, List, length, slice_index_or}
use Rattle.k_shadow.specs.declared.row.NarrowRow.{NarrowRow}
use Rattle.k_shadow.specs.Rows.{Seen, blank_narrow, row_at, seen_narrow}
use Rattle.k_shadow_rows.specs.declared.rows.Rows.{Rows}
use Rattle.k_shadow_rows.specs.declared.rows.Rows.TheVariants.{NarrowEight, NarrowThirtyTwo, Eight, ThirtyTwo}

-- the row of each location, where narrow rows stand in the order of locations; blank where there is none
abbrev pub narrow_at : {levels : ℕ} → List (NarrowRow levels) → ℕ → Seen
narrow_at {levels} rows loc = seen_narrow (slice_index_or rows loc (blank_narrow levels))

-- the row of each location, where rows of any one kind stand in the order of locations; blank where there is none
abbrev pub rows_at : {R : Type 0} → (R → Seen) → R → List R → ℕ → Seen
rows_at seen blank rows loc = seen (slice_index_or rows loc blank)

-- the row of each location
abbrev pub row_in : Rows → ℕ → Seen
row_in (NarrowEight rows) = narrow_at rows.items
row_in (NarrowThirtyTwo rows) = narrow_at rows.items
row_in (Eight rows) = row_at rows.items
row_in (ThirtyTwo rows) = row_at rows.items

-- how many rows there are
abbrev pub size : Rows → ℕ
size (NarrowEight rows) = length rows.items
size (NarrowThirtyTwo rows) = length rows.items
size (Eight rows) = length rows.items
size (ThirtyTwo rows) = length rows.items

-- for how many levels each of them has times
abbrev pub width : Rows → ℕ
width (NarrowEight rows) = 8
width (NarrowThirtyTwo rows) = 32
width (Eight rows) = 8
width (ThirtyTwo rows) = 32

-- the greatest time that they can have
abbrev pub greatest : Rows → ℕ
greatest (NarrowEight rows) = 4294967295
greatest (NarrowThirtyTwo rows) = 4294967295
greatest (Eight rows) = 18446744073709551615
greatest (ThirtyTwo rows) = 18446744073709551615

-- the location has a row, which has times for that many levels
abbrev pub HasRow : Rows → ℕ → ℕ → Type 0
HasRow rows loc depth = (loc < size rows) × (depth ≤ width rows)
