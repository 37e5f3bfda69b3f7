-- Believed with the theorem on the top call.
-- The rules that the entries of a saved profile meet, and on which its numbers rest.
use Rattle.std.specs.Prelude.{ℕ, ◌+◌, ◌-◌, ◌*◌, ◌<◌, ◌≤◌, ◌≡◌, List, [], ◌∷◌, length, Some, slice_get, slice_index_or}
use Rattle.k_dict_entries.specs.Trees.{alone, height, size}
use Rattle.k_dict_entries.specs.Entries.{AreInterned, tree_at}
use Rattle.k_dict_entries.specs.declared.entry.Entry.{Entry}
use Rattle.k_dict_entries.specs.declared.entry.Run.{Run}

-- the entry where none is
abbrev pub no_entry : Entry
no_entry = record { region = 0; work = 0; path = 0; runs = [] }

-- the entry of a number
abbrev pub entry_of : List Entry → ℕ → Entry
entry_of entries n = slice_index_or entries n no_entry

-- the works of the children of these runs together
abbrev pub child_works : List Entry → List Run → ℕ
child_works entries [] = 0
child_works entries (run ∷ runs) = run.count * (entry_of entries run.entry).work + child_works entries runs

-- the critical paths of the children of these runs together
abbrev pub child_paths : List Entry → List Run → ℕ
child_paths entries [] = 0
child_paths entries (run ∷ runs) = run.count * (entry_of entries run.entry).path + child_paths entries runs

-- no child of these runs has a longer critical path than this
abbrev pub HavePathsUpTo : ℕ → List Entry → List Run → Type 0
HavePathsUpTo path entries [] = Unit {0}
HavePathsUpTo path entries (run ∷ runs) = ((entry_of entries run.entry).path ≤ path) × HavePathsUpTo path entries runs

-- an entry's work is at most 2 ^ 44 and at least that of its children together; its path is at most its work, at least each
-- child's path, and at most the children's paths and its own work together
pub record HasBoundedNumbers (entries : List Entry) (e : Entry) : Type 0 where
  pub most : e.work ≤ 17592186044416
  pub part : child_works entries e.runs ≤ e.work
  pub work : e.path ≤ e.work
  pub child : HavePathsUpTo e.path entries e.runs
  pub parts : e.path ≤ child_paths entries e.runs + (e.work - child_works entries e.runs)

-- each entry has bounded numbers
abbrev pub HaveBoundedNumbers : List Entry → Type 0
HaveBoundedNumbers entries = (n : ℕ) (e : Entry) → slice_get entries n ≡ Some e → HasBoundedNumbers entries e

-- the tree of each entry has at most 32 levels
abbrev pub HaveFewLevels : List Entry → Type 0
HaveFewLevels entries = (n : ℕ) → n < length entries → height (alone (tree_at entries n)) ≤ 32

-- the tree of each entry has at most 2 ^ 59 instances
abbrev pub HaveFewInstances : List Entry → Type 0
HaveFewInstances entries = (n : ℕ) → n < length entries → size (alone (tree_at entries n)) ≤ 576460752303423488

-- each entry names one of so many regions
abbrev pub NameRegions : ℕ → List Entry → Type 0
NameRegions count entries = (n : ℕ) (e : Entry) → slice_get entries n ≡ Some e → e.region < count

-- the entries of a profile
pub record AreProfile (entries : List Entry) : Type 0 where
  pub some : 1 ≤ length entries
  pub interned : AreInterned entries
  pub numbers : HaveBoundedNumbers entries
  pub levels : HaveFewLevels entries
  pub instances : HaveFewInstances entries
