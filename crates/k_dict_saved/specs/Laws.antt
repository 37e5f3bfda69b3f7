-- Believed with a public law.
-- What holds of the files of saved profiles: the statements of the laws.
use Rattle.std.specs.Prelude.{ℕ, ◌+◌, ◌≡◌, length, Result, Ok, Err}
use Rattle.k_dict_entries.specs.Entries.{expansion}
use Rattle.k_dict_entries.specs.Laws.{AreAlike}
use Rattle.k_dict_saved.specs.declared.fault.SavedFault.{SavedFault}
use Rattle.k_dict_saved.specs.declared.fault.SavedFault.TheVariants.{NotSaved, Memory}
use Rattle.k_dict_saved.specs.Profile.{IsMigrated, IsOld, IsSaved, Reads, ReadsOld}
use Rattle.k_dict_saved.specs.SavedText.{old_text, saved_text}
use Rattle.k_dict_saved.specs.declared.saved.Old.{Old}
use Rattle.k_dict_saved.specs.declared.saved.Saved.{Saved}

-- two profiles with one file are one
abbrev pub FileIsOfOne : Type 0
FileIsOfOne = (v w : Saved) → IsSaved v → IsSaved w → saved_text v ≡ saved_text w → v ≡ w

-- two profiles of format 1 with one file are one
abbrev pub OldFileIsOfOne : Type 0
OldFileIsOfOne = (v w : Old) → IsOld v → IsOld w → old_text v ≡ old_text w → v ≡ w

-- this profile was read, unless memory ran out
abbrev pub ReadsSaved : Saved → Result Saved SavedFault → Type 0
ReadsSaved v (Ok w) = w ≡ v
ReadsSaved v (Err (NotSaved place)) = ⊥
ReadsSaved v (Err Memory) = Unit {0}

-- what `read` may answer to the file of a profile is that profile
abbrev pub ReadOfWrite : Type 0
ReadOfWrite = (v : Saved) (result : Result Saved SavedFault) → IsSaved v → Reads (saved_text v) result → ReadsSaved v result

-- this profile of format 1 was read, unless memory ran out
abbrev pub ReadsOldOne : Old → Result Old SavedFault → Type 0
ReadsOldOne old (Ok read) = read ≡ old
ReadsOldOne old (Err (NotSaved place)) = ⊥
ReadsOldOne old (Err Memory) = Unit {0}

-- what it becomes was read, unless memory ran out
abbrev pub ReadsMigrated : Old → Result Saved SavedFault → Type 0
ReadsMigrated old (Ok saved) = IsMigrated old saved
ReadsMigrated old (Err (NotSaved place)) = ⊥
ReadsMigrated old (Err Memory) = Unit {0}

-- what `read_old` may answer to the file of a profile of format 1 is that profile
abbrev pub OldOfItsText : Type 0
OldOfItsText = (old : Old) (result : Result Old SavedFault) → IsOld old → ReadsOld (old_text old) result → ReadsOldOne old result

-- what `read` may answer to it is what it becomes
abbrev pub MigratedOfItsText : Type 0
MigratedOfItsText = (old : Old) (result : Result Saved SavedFault) → IsOld old → Reads (old_text old) result → ReadsMigrated old result

-- a profile of format 1 becomes one profile
abbrev pub MigrationIsOne : Type 0
MigrationIsOne = (old : Old) (one other : Saved) → IsMigrated old one → IsMigrated old other → one ≡ other

-- the last entry of that profile stands for the tree of the old one, up to the order of siblings
abbrev pub MigrationExpands : Type 0
MigrationExpands = (old : Old) (saved : Saved) (is : IsMigrated old saved)
    → (root : ℕ) × (length saved.dict ≡ root + 1) × AreAlike (expansion saved.dict root) (expansion old.entries is.root)
