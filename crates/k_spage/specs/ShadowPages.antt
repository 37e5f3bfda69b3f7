-- For contracts between crates: nobody has to believe it.
-- Which pages a paged shadow has.
use Rattle.std.specs.Prelude.{◌≡◌, ℕ, ◌+◌, ◌-◌, ◌/◌, ◌<◌, ◌≤◌, zero, suc, Bool, length, is_some, if◌then◌else◌}
use Rattle.k_shadow.specs.Content.{Content}
use Rattle.k_shadow.specs.Rows.{content_of}
use Rattle.k_spage.specs.declared.shadow_pages.ShadowPages.{ShadowPages}
use Rattle.k_spage.specs.Pages.{key_of, paged_row, HasRowsFor}

-- the content: the rows of the pages that are there, and rows that were never written elsewhere
abbrev pub pages_content : ShadowPages → Content
pages_content s = content_of (paged_row s.pages.slots s.table.items) s.versions 4194304

-- the page of the location is there, and its rows can have times of up to `most` for each live level
abbrev pub has_room : ShadowPages → ℕ → ℕ → Type 0
has_room s loc most = HasRowsFor s.pages.slots s.table.items (length s.versions.live) most (loc / 256)

-- the page of that number is there
abbrev pub has_page : ShadowPages → ℕ → Bool
has_page s page = is_some (key_of s.table.items page)

-- how many of the numbers below n pass a test
unfoldable pub count_below : (ℕ → Bool) → ℕ → ℕ
count_below test zero = 0
count_below test (suc n) = count_below test n + (if test n then 1 else 0)

-- how many pages there are: page numbers are below 16,384
abbrev pub page_count : ShadowPages → ℕ
page_count s = count_below (has_page s) 16384

-- no page was made, and none has gone
abbrev pub HasSamePages : ShadowPages → ShadowPages → Type 0
HasSamePages old new = (page : ℕ) → has_page new page ≡ has_page old page

-- some of the `count` locations from `first` on lie in the page of that number
abbrev pub IsTouched : ℕ → ℕ → ℕ → Type 0
IsTouched first count page = (0 < count) × (first / 256 ≤ page) × (page ≤ (first + count - 1) / 256)
