-- Believed with the theorem on the top call.
-- The formats of a saved file, and where their rules differ.
use Rattle.std.specs.Prelude.{ℕ, ◌+◌, ◌<◌, ◌≤◌, ◌≡◌, ◌≢◌, ◌⊎◌, List, [], ◌∷◌, length, slice_get, Some, codes}
use Rattle.k_dict_entries.specs.Dictionary.{Firsts}
use Rattle.k_dict_entries.specs.Entries.{AreRuns, NameBelow, tree_at, trees_of}
use Rattle.k_dict_entries.specs.Trees.{alone, post_order}
use Rattle.k_dict_entries.specs.declared.entry.Entry.{Entry}
use Rattle.k_dict_entries.specs.declared.entry.Run.{Run}
use Rattle.k_dict_saved.specs.declared.format.Accepts.{Accepts}
use Rattle.k_dict_saved.specs.declared.format.Accepts.TheVariants.{OneAlone, Both}
use Rattle.k_dict_saved.specs.declared.format.Format.{Format}
use Rattle.k_dict_saved.specs.declared.format.Format.TheVariants.{One, Two}

-- the first line of a file
abbrev pub first_line : Format → List ℕ
first_line One = codes "kremlin 1\n"
first_line Two = codes "kremlin 2\n"

-- files of this format are read
abbrev pub IsAccepted : Accepts → Format → Type 0
IsAccepted OneAlone One = Unit {0}
IsAccepted OneAlone Two = ⊥
IsAccepted Both format = Unit {0}

-- the run behind this one is of another entry
abbrev pub Differs : Run → List Run → Type 0
Differs run [] = Unit {0}
Differs run (next ∷ runs) = run.entry ≢ next.entry

-- neighbours are runs of different entries
abbrev pub AreMaximal : List Run → Type 0
AreMaximal [] = Unit {0}
AreMaximal (run ∷ runs) = Differs run runs × AreMaximal runs

-- the runs of an entry behind so many others. In format 1 they are the maximal runs of its children in their order, and at most
-- 1,048,576; in format 2 there is one for each entry among its children, by rising number
abbrev pub AreRunsOf : Format → ℕ → List Run → Type 0
AreRunsOf One count runs = NameBelow count runs × AreMaximal runs × (length runs ≤ 1048576)
AreRunsOf Two count runs = AreRuns 0 count runs

-- each entry has such runs
abbrev pub HaveRuns : Format → List Entry → Type 0
HaveRuns format entries = (n : ℕ) (e : Entry) → slice_get entries n ≡ Some e → AreRunsOf format n e.runs

-- one of these runs names this number
abbrev pub Names : ℕ → List Run → Type 0
Names n [] = ⊥
Names n (run ∷ runs) = (run.entry ≡ n) ⊎ Names n runs

-- a run of one of these entries names this number
abbrev pub IsNamedBy : ℕ → List Entry → Type 0
IsNamedBy n [] = ⊥
IsNamedBy n (e ∷ entries) = Names n e.runs ⊎ IsNamedBy n entries

-- each entry but the last is named by another
abbrev pub AreNamed : List Entry → Type 0
AreNamed entries = (n : ℕ) → n + 1 < length entries → IsNamedBy n entries

-- the entries stand for the trees of the last one's instances in post-order, of those that are equal the first
pub record IsPostOrder (entries : List Entry) : Type 0 where
  pub root : ℕ
  pub last : length entries ≡ root + 1
  pub firsts : Firsts ◌≡◌ [] (post_order (alone (tree_at entries root))) (trees_of entries)

-- no entry is left over, and in format 1 none is out of order
abbrev pub NoneIsLeft : Format → List Entry → Type 0
NoneIsLeft One entries = IsPostOrder entries
NoneIsLeft Two entries = AreNamed entries
