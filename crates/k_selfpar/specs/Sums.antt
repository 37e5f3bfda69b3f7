-- Believed with the theorem on the top call.
-- Sums over the instances of a forest, and over the entries of a dictionary that they have.
use Rattle.std.specs.Prelude.{ℕ, ◌+◌, ◌-◌, ◌^◌, ◌<◌, ◌≤◌, ◌==◌, if◌then◌else◌, List, length}
use Rattle.k_selfpar.specs.declared.sums.Sums.{Sums}
use Rattle.k_dict_entries.specs.Trees.{Label, Forest, alone, bare, grown}
use Rattle.k_dict_entries.specs.Entries.{tree_at}
use Rattle.k_dict_entries.specs.declared.entry.Entry.{Entry}

-- what the instances of a forest give together, where `own` tells what one gives, by itself and those within it
abbrev pub sum_of : (Label → Forest → ℕ) → Forest → ℕ
sum_of own bare = 0
sum_of own (grown label inner later) = own label inner + (sum_of own inner + sum_of own later)

-- what the outermost instances of a forest give together
abbrev pub outer : (Label → Forest → ℕ) → Forest → ℕ
outer own bare = 0
outer own (grown label inner later) = own label inner + outer own later

-- one
abbrev pub one : Label → Forest → ℕ
one label inner = 1

-- the work of an instance
abbrev pub work : Label → Forest → ℕ
work label inner = label.work

-- its path
abbrev pub path : Label → Forest → ℕ
path label inner = label.path

-- the works of the outermost instances of a forest together
abbrev pub outer_works : Forest → ℕ
outer_works f = outer work f

-- their paths together
abbrev pub outer_paths : Forest → ℕ
outer_paths f = outer path f

-- the time that an instance would take with its children one behind the other: their paths, and its own work
abbrev pub serial_in : Label → Forest → ℕ
serial_in label inner = outer_paths inner + (label.work - outer_works inner)

-- that of an instance of a region, of another none
abbrev pub within : ℕ → (Label → Forest → ℕ) → Label → Forest → ℕ
within region own label inner = if label.region == region then own label inner else 0

-- what an instance of an entry gives
abbrev pub own_of : (Label → Forest → ℕ) → List Entry → ℕ → ℕ
own_of own entries n = own (tree_at entries n).label (tree_at entries n).inner

-- what the tree of an entry gives
abbrev pub all_of : (Label → Forest → ℕ) → List Entry → ℕ → ℕ
all_of own entries n = sum_of own (alone (tree_at entries n))

-- the path of an entry's instances
abbrev pub path_at : List Entry → ℕ → ℕ
path_at entries n = (tree_at entries n).label.path

-- their work
abbrev pub work_at : List Entry → ℕ → ℕ
work_at entries n = (tree_at entries n).label.work

-- their region
abbrev pub region_at : List Entry → ℕ → ℕ
region_at entries n = (tree_at entries n).label.region

-- the paths of an instance's children together
abbrev pub inner_paths : Label → Forest → ℕ
inner_paths label inner = outer_paths inner

-- their works together
abbrev pub inner_works : Label → Forest → ℕ
inner_works label inner = outer_works inner

-- sums are small enough
pub record AreSmall (s : Sums) : Type 0 where
  pub instances : s.instances < 2 ^ 62
  pub work : s.work < 2 ^ 62
  pub path : s.path < 2 ^ 62
  pub serial : s.serial < 2 ^ 62

-- an entry's work and its instances' children come to little enough, and their works are part of its own
pub record HasChildren (entries : List Entry) (n : ℕ) : Type 0 where
  pub own : work_at entries n < 2 ^ 62
  pub paths : own_of inner_paths entries n < 2 ^ 62
  pub works : own_of inner_works entries n < 2 ^ 62
  pub part : own_of inner_works entries n ≤ work_at entries n

-- so it is for each entry
abbrev pub HaveChildren : List Entry → Type 0
HaveChildren entries = (n : ℕ) → n < length entries → HasChildren entries n
