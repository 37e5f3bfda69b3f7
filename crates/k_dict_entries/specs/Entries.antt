-- Believed with the theorem on the top call.
-- Entries of a dictionary, and the trees that they stand for.
use Rattle.std.specs.Prelude.{ℕ, zero, suc, ◌+◌, ◌<◌, ◌≤◌, ◌≡◌, List, [], ◌∷◌, ◌++◌, length, sum_by, Some, slice_get, slice_index_or}
use Rattle.k_optab.specs.declared.node.Node.{Node}
use Rattle.k_dict_entries.specs.Trees.{Label, Forest, Tree, bare, grown, list_of}
use Rattle.k_dict_entries.specs.declared.entry.Entry.{Entry}
use Rattle.k_dict_entries.specs.declared.entry.Run.{Run}

-- what an entry tells of its instances
abbrev pub label_of : Entry → Label
label_of e = record { region = e.region; work = e.work; path = e.path }

-- so many copies of a tree, before others
abbrev pub copies : ℕ → Tree → Forest → Forest
copies zero t later = later
copies (suc n) t later = grown t.label t.inner (copies n t later)

-- the tree where none is
abbrev pub no_tree : Tree
no_tree = record { label = record { region = 0; work = 0; path = 0 }; inner = bare }

-- the children that runs stand for, in the order of the runs: these are the trees of the entries that they name
abbrev pub laid : List Tree → List Run → Forest
laid trees [] = bare
laid trees (run ∷ runs) = copies run.count (slice_index_or trees run.entry no_tree) (laid trees runs)

-- the tree of an entry, whose runs name entries of these trees
abbrev pub tree_of : List Tree → Entry → Tree
tree_of trees e = record { label = label_of e; inner = laid trees e.runs }

-- the trees of entries that stand behind those of these trees
abbrev pub trees_behind : List Tree → List Entry → List Tree
trees_behind trees [] = trees
trees_behind trees (e ∷ entries) = trees_behind (trees ++ tree_of trees e ∷ []) entries

-- the trees that entries stand for, each in its place
abbrev pub trees_of : List Entry → List Tree
trees_of entries = trees_behind [] entries

-- the tree that the entry of this number stands for
abbrev pub tree_at : List Entry → ℕ → Tree
tree_at entries n = slice_index_or (trees_of entries) n no_tree

-- the instances that the entry of this number stands for, in order of entry, with the children in the order of the runs
abbrev pub expansion : List Entry → ℕ → List Node
expansion entries root = list_of (tree_at entries root)

-- these runs name entries from one number on and below another, by rising number, each once, with counts of at least 1
abbrev pub AreRuns : ℕ → ℕ → List Run → Type 0
AreRuns low high [] = Unit {0}
AreRuns low high (run ∷ runs) = (low ≤ run.entry) × (run.entry < high) × (1 ≤ run.count) × AreRuns (run.entry + 1) high runs

-- these runs name entries below a number, with counts of at least 1
abbrev pub NameBelow : ℕ → List Run → Type 0
NameBelow high [] = Unit {0}
NameBelow high (run ∷ runs) = (run.entry < high) × (1 ≤ run.count) × NameBelow high runs

-- each entry's runs name entries before it
abbrev pub NameEarlier : List Entry → Type 0
NameEarlier entries = (n : ℕ) (e : Entry) → slice_get entries n ≡ Some e → AreRuns 0 n e.runs

-- no two entries are equal
abbrev pub AreApart : List Entry → Type 0
AreApart entries = (m n : ℕ) (e : Entry) → slice_get entries m ≡ Some e → slice_get entries n ≡ Some e → m ≡ n

-- the runs of all entries together
abbrev pub all_runs : List Entry → ℕ
all_runs entries = sum_by (λ e. length e.runs) entries

-- what holds of entries that are found by hash: each is there once, and they and their runs are within the limits
pub record AreDistinct (entries : List Entry) : Type 0 where
  pub few : length entries ≤ 1048576
  pub few_runs : all_runs entries ≤ 16777216
  pub apart : AreApart entries

-- what holds of the entries of every dictionary
pub record AreInterned (entries : List Entry) : Type 0 where
  pub few : length entries ≤ 1048576
  pub few_runs : all_runs entries ≤ 16777216
  pub earlier : NameEarlier entries
  pub apart : AreApart entries
