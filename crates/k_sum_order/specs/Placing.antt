-- For contracts between crates: nobody has to believe it.
-- How entries are brought in order, level by level.
use Rattle.std.specs.Prelude.{ℕ, ◌+◌, ◌<◌, ◌≤◌, ◌≡◌, max, false, All, Contains, List, [], ◌∷◌, length, map, Some, slice_get, slice_index_or, slice_set}
use Rattle.std.specs.Cmp.Lexicographic.{slice_cmp}
use Rattle.std.specs.Ordering.{is_lt, nat_cmp}
use Rattle.k_dict_entries.specs.Entries.{NameEarlier}
use Rattle.k_dict_entries.specs.Gathering.{number_of, with_entry}
use Rattle.k_dict_entries.specs.Rules.{entry_of}
use Rattle.k_dict_entries.specs.declared.entry.Entry.{Entry}
use Rattle.k_dict_entries.specs.declared.entry.Run.{Run}
use Rattle.k_dict_saved.specs.Migration.{renumbered, renumbered_entry}
use Rattle.k_sum.specs.declared.sum.Sum.{Sum}
use Rattle.k_sum_order.specs.Order.{AreInOrder, AreOrdered, ComesBefore, key_of}
use Rattle.k_sum_order.specs.declared.batch.Ranked.{Ranked}

-- the level behind those of the entries that runs name, which is 0 where they name none
abbrev pub level_over : List ℕ → List Run → ℕ
level_over levels [] = 0
level_over levels (run ∷ runs) = max (slice_index_or levels run.entry 0 + 1) (level_over levels runs)

-- each entry has the level behind those of the entries that it names
pub record AreLevels (entries : List Entry) (levels : List ℕ) : Type 0 where
  pub count : length levels ≡ length entries
  pub each : (n : ℕ) → n < length entries → slice_index_or levels n 0 ≡ level_over levels (entry_of entries n).runs
  pub low : (n : ℕ) → slice_index_or levels n 0 ≤ n

-- the entries that are in order so far, and the numbers that those of the dictionary have among them
pub record Ordering : Type 0 where
  pub dict : List Entry
  pub numbers : List ℕ

-- the entry of a number, where those that it names have these numbers
abbrev pub entry_with : List Entry → List ℕ → ℕ → Entry
entry_with entries numbers n = renumbered_entry numbers (entry_of entries n)

-- with one more entry of the dictionary
abbrev pub placed : List Entry → Ordering → ℕ → Ordering
placed entries o n = record {
  dict = with_entry o.dict (entry_with entries o.numbers n);
  numbers = slice_set o.numbers n (number_of o.dict (entry_with entries o.numbers n));
}

-- with these entries of the dictionary
abbrev pub placed_all : List Entry → Ordering → List ℕ → Ordering
placed_all entries o [] = o
placed_all entries o (n ∷ list) = placed_all entries (placed entries o n) list

-- these are entries of a level with their keys, and all with numbers below a bound are there
pub record AreRanked (entries : List Entry) (levels numbers : List ℕ) (level high : ℕ) (items : List Ranked) : Type 0 where
  pub each : All (λ r. (r.number < high) × (slice_index_or levels r.number 0 ≡ level) × (r.key.items ≡ key_of (entry_with entries numbers r.number))) items
  pub all : (n : ℕ) → n < high → slice_index_or levels n 0 ≡ level → Contains (map (λ r. r.number) items) n

-- no key of these is lower than one before it
abbrev pub HaveRisingKeys : List Ranked → Type 0
HaveRisingKeys items = (j k : ℕ) (d : Ranked) → j ≤ k → k < length items
    → is_lt (slice_cmp nat_cmp (slice_index_or items k d).key.items (slice_index_or items j d).key.items) ≡ false

-- the entries of a level were brought in order behind those of lower ones
abbrev pub OrdersLevel : List Entry → List ℕ → ℕ → Ordering → Ordering → Type 0
OrdersLevel entries levels level old new =
    (items : List Ranked) × AreRanked entries levels old.numbers level (length entries) items × HaveRisingKeys items
    × (new ≡ placed_all entries old (map (λ r. r.number) items))

-- entries of levels below one are in order
pub record AreOrderedTo (entries : List Entry) (levels : List ℕ) (level : ℕ) (o : Ordering) : Type 0 where
  pub count : length o.numbers ≡ length entries
  pub order : AreInOrder o.dict
  pub each : (n : ℕ) → n < length entries → slice_index_or levels n 0 < level
      → slice_get o.dict (slice_index_or o.numbers n 0) ≡ Some (entry_with entries o.numbers n)
  pub no_other : (k : ℕ) (d : Entry) → slice_get o.dict k ≡ Some d
      → (n : ℕ) × (n < length entries) × (slice_index_or levels n 0 < level) × (slice_index_or o.numbers n 0 ≡ k)

-- these are the entries of a sum in order, and its roots
abbrev pub HasParts : Sum → List Entry → List Run → Type 0
HasParts sum dict roots = (numbers : List ℕ) × AreOrdered sum.dict numbers dict × (roots ≡ renumbered numbers sum.roots []) × NameEarlier sum.dict

-- the next entry comes behind this one
abbrev pub GoesOn : Entry → List Entry → Type 0
GoesOn e [] = Unit {0}
GoesOn e (next ∷ entries) = ComesBefore e next

-- each entry comes before the next one
abbrev pub AreLinked : List Entry → Type 0
AreLinked [] = Unit {0}
AreLinked (e ∷ entries) = GoesOn e entries × AreLinked entries
