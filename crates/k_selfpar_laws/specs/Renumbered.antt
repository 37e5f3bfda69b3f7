-- Believed with a public law.
-- Entries of a dictionary with other numbers.
use Rattle.std.specs.Prelude.{ℕ, ◌+◌, ◌<◌, ◌≡◌, ◌==◌, if◌then◌else◌, List, [], ◌∷◌, length, Some, slice_get}
use Rattle.k_dict_entries.specs.Dictionary.{IsDictionary}
use Rattle.k_dict_entries.specs.Entries.{AreApart, NameEarlier, expansion}
use Rattle.k_dict_entries.specs.declared.entry.Entry.{Entry}
use Rattle.k_dict_entries.specs.declared.entry.Run.{Run}
use Rattle.k_dict_saved.specs.Formats.{AreNamed}

-- the entries of a saved profile: no two are equal, each names earlier ones, and each but the last, which is the root, is named
pub record MeetRules (entries : List Entry) (root : ℕ) : Type 0 where
  pub last : length entries ≡ root + 1
  pub earlier : NameEarlier entries
  pub apart : AreApart entries
  pub named : AreNamed entries

-- how many children of an entry these runs tell of
abbrev pub times_named : ℕ → List Run → ℕ
times_named n [] = 0
times_named n (run ∷ runs) = (if run.entry == n then run.count else 0) + times_named n runs

-- the one entry is the other, where so many entries have other numbers: its instances are alike, with as many children of each of these
pub record IsRenumbered (to : ℕ → ℕ) (count : ℕ) (one other : Entry) : Type 0 where
  pub region : other.region ≡ one.region
  pub work : other.work ≡ one.work
  pub path : other.path ≡ one.path
  pub children : (k : ℕ) → k < count → times_named (to k) other.runs ≡ times_named k one.runs

-- one list of entries is the other with other numbers: `to` and `from` are inverse to each other, and an entry is that of its other number
pub record AreRenumbered (one other : List Entry) : Type 0 where
  pub to : ℕ → ℕ
  pub from : ℕ → ℕ
  pub there : (n : ℕ) → n < length one → (to n < length other) × (from (to n) ≡ n)
  pub back : (m : ℕ) → m < length other → (from m < length one) × (to (from m) ≡ m)
  pub same : (n : ℕ) (e f : Entry) → slice_get one n ≡ Some e → slice_get other (to n) ≡ Some f → IsRenumbered to (length one) e f

-- the dictionary of what entries expand to has these entries, up to their numbers
abbrev pub EntriesAreGatheredAgain : Type 0
EntriesAreGatheredAgain = (entries : List Entry) (root : ℕ) (other : List Entry) → MeetRules entries root
    → IsDictionary (expansion entries root) other → AreRenumbered entries other
