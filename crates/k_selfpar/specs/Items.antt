-- For contracts between crates: nobody has to believe it.
-- Instances of one entry, counted together, and what they come to.
use Rattle.std.specs.Prelude.{ℕ, ◌+◌, ◌*◌, ◌<◌, ◌≤◌, ◌≡◌, ◌==◌, nat_lt, if◌then◌else◌, List, [], ◌∷◌, length, filter, All, Some, slice_get}
use Rattle.k_dict_entries.specs.declared.entry.Entry.{Entry}
use Rattle.k_selfpar.specs.declared.item.Item.{Item}
use Rattle.k_selfpar.specs.declared.row.Row.{Row}
use Rattle.k_selfpar.specs.declared.sums.Sums.{Sums}
use Rattle.k_selfpar.specs.Counts.{Adds}
use Rattle.k_selfpar.specs.Ratio.{IsRatio}
use Rattle.k_selfpar.specs.Rows.{HasRow}
use Rattle.k_selfpar.specs.Sums.{one, own_of, path, region_at, serial_in, work}

-- so many instances of an entry
abbrev pub item_of : List Entry → ℕ → ℕ → Item
item_of entries n count = record { region = region_at entries n; run = record { entry = n; count = count } }

-- the entries, numbered from k on, that occur, each as often as it is counted
abbrev pub occurring : List Entry → ℕ → List ℕ → List Item
occurring entries k [] = []
occurring entries k (count ∷ counts) =
    if nat_lt 0 count then item_of entries k count ∷ occurring entries (k + 1) counts else occurring entries (k + 1) counts

-- an item names an entry, with its region, and has a count of at least 1
pub record IsItem (entries : List Entry) (i : Item) : Type 0 where
  pub entry : i.run.entry < length entries
  pub region : i.region ≡ region_at entries i.run.entry
  pub count : 1 ≤ i.run.count

-- so do these items
abbrev pub AreItems : List Entry → List Item → Type 0
AreItems entries items = All (IsItem entries) items

-- these items stand in order of their regions, from a number on
abbrev pub Rise : ℕ → List Item → Type 0
Rise low [] = Unit {0}
Rise low (i ∷ items) = (low ≤ i.region) × Rise i.region items

-- these items do not begin with a region
abbrev pub BeginsElsewhere : ℕ → List Item → Type 0
BeginsElsewhere region [] = Unit {0}
BeginsElsewhere region (i ∷ items) = ¬ (i.region ≡ region)

-- what items give together, where g tells what an instance of an entry gives
abbrev pub total : (ℕ → ℕ) → List Item → ℕ
total g [] = 0
total g (i ∷ items) = i.run.count * g i.run.entry + total g items

-- these items stand for the instances of an entry's tree, in order of their regions: whatever entries give, what they give of their own
-- together is what the entry gives
pub record AreItemsOf (entries : List Entry) (root : ℕ) (items : List Item) : Type 0 where
  pub are : AreItems entries items
  pub rise : Rise 0 items
  pub gives : (own f : ℕ → ℕ) → Adds entries own f → total own items ≡ f root

-- what the instances of items come to together
abbrev pub totals : List Entry → List Item → Sums
totals entries items = record {
  instances = total (own_of one entries) items;
  work = total (own_of work entries) items;
  path = total (own_of path entries) items;
  serial = total (own_of serial_in entries) items;
}

-- the sums with the instances of one more item
abbrev pub sums_with : List Entry → Item → Sums → Sums
sums_with entries i s = record {
  instances = s.instances + i.run.count * own_of one entries i.run.entry;
  work = s.work + i.run.count * own_of work entries i.run.entry;
  path = s.path + i.run.count * own_of path entries i.run.entry;
  serial = s.serial + i.run.count * own_of serial_in entries i.run.entry;
}

-- the items of a region
abbrev pub items_in : ℕ → List Item → List Item
items_in region items = filter (λ i. i.region == region) items

-- a row tells these sums of its region
pub record IsRowOf (region : ℕ) (s : Sums) (row : Row) : Type 0 where
  pub region_is : row.region ≡ region
  pub instances : row.instances ≡ s.instances
  pub work : row.work ≡ s.work
  pub path : row.path ≡ s.path
  pub sp : IsRatio s.serial s.path row.sp.0 row.sp.1

-- the rows of items: one for each region, in order
pub record AreRowsOf (entries : List Entry) (items : List Item) (rows : List Row) : Type 0 where
  pub each : (k : ℕ) (row : Row) → slice_get rows k ≡ Some row → IsRowOf row.region (totals entries (items_in row.region items)) row
  pub occurs : (k : ℕ) (row : Row) → slice_get rows k ≡ Some row → 0 < length (items_in row.region items)
  pub whole : (region : ℕ) → 0 < length (items_in region items) → HasRow rows region
  pub order : (j k : ℕ) (one other : Row) → j < k → slice_get rows j ≡ Some one → slice_get rows k ≡ Some other → one.region < other.region
