-- For contracts between crates: nobody has to believe it.
-- Rows in pages of 256 locations, which a table names.
use Rattle.std.specs.Prelude.{◌≡◌, ◌≢◌, ℕ, ◌/◌, ◌%◌, ◌≤◌, List, length, count_by, Option, Some, None, is_some, IsSome, slice_index_or}
use Rattle.k_shadow.specs.Rows.{Seen, unwritten}
use Rattle.k_shadow_rows.specs.Rows.{row_in, size, width, greatest}
use Rattle.k_shadow_rows.specs.declared.rows.Rows.{Rows}

-- what a slab has at each key: the rows of a page, or none
abbrev pub Pages : Type 0
Pages = List (Option Rows)

-- the key of the page of that number
abbrev pub key_of : List (Option ℕ) → ℕ → Option ℕ
key_of table page = slice_index_or table page None

-- the rows of the page at a key, none where there is no key or no page
abbrev pub rows_under : Pages → Option ℕ → Option Rows
rows_under pages None = None
rows_under pages (Some key) = slice_index_or pages key None

-- the row at a place of a page
abbrev pub page_row : Option Rows → ℕ → Seen
page_row None = λ _. unwritten
page_row (Some rows) = row_in rows

-- how many rows a page has
abbrev pub page_size : Option Rows → ℕ
page_size None = 0
page_size (Some rows) = size rows

-- for how many levels the rows of a page have times
abbrev pub page_width : Option Rows → ℕ
page_width None = 0
page_width (Some rows) = width rows

-- the greatest time that the rows of a page can have
abbrev pub page_greatest : Option Rows → ℕ
page_greatest None = 0
page_greatest (Some rows) = greatest rows

-- the row of each location
abbrev pub paged_row : Pages → List (Option ℕ) → ℕ → Seen
paged_row pages table loc = page_row (rows_under pages (key_of table (loc / 256))) (loc % 256)

-- for how many levels the rows of the page of that number have times
abbrev pub paged_width : Pages → List (Option ℕ) → ℕ → ℕ
paged_width pages table page = page_width (rows_under pages (key_of table page))

-- the greatest time that the rows of the page of that number can have
abbrev pub paged_greatest : Pages → List (Option ℕ) → ℕ → ℕ
paged_greatest pages table page = page_greatest (rows_under pages (key_of table page))

-- the page of that number is there, and its rows can have times of up to `most` for that many levels
abbrev pub HasRowsFor : Pages → List (Option ℕ) → ℕ → ℕ → ℕ → Type 0
HasRowsFor pages table depth most page = IsSome (key_of table page) × (depth ≤ paged_width pages table page) × (most ≤ paged_greatest pages table page)

-- what holds of the pages and of the table that names them
pub record ArePages (pages : Pages) (table : List (Option ℕ)) : Type 0 where
  -- each page has 256 rows
  pub sizes : (page key : ℕ) → key_of table page ≡ Some key → page_size (rows_under pages (Some key)) ≡ 256
  -- no page has two numbers
  pub apart : (page other key : ℕ) → key_of table page ≡ Some key → key_of table other ≡ Some key → page ≡ other
  -- there are no others
  pub counted : count_by is_some pages ≡ count_by is_some table
  -- page numbers are below 16,384
  pub few : length table ≤ 16384

-- the two differ in the page at one key at most, which keeps its size, and whose rows can have all times that they could
pub record IsOnePage (old new : Pages) (key : ℕ) : Type 0 where
  pub others : (other : ℕ) → other ≢ key → slice_index_or new other None ≡ slice_index_or old other None
  pub size : page_size (rows_under new (Some key)) ≡ page_size (rows_under old (Some key))
  pub width : page_width (rows_under old (Some key)) ≤ page_width (rows_under new (Some key))
  pub greatest : page_greatest (rows_under old (Some key)) ≤ page_greatest (rows_under new (Some key))
  pub count : count_by is_some new ≡ count_by is_some old
