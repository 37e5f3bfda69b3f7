-- Believed with the theorem on the top call.
-- The rules of a saved profile.
use Rattle.std.specs.Prelude.{ℕ, ◌+◌, ◌≤◌, ◌≡◌, ◌⊎◌, List, length, FitsSigned, Result, Ok, Err}
use Rattle.std.specs.Int.{w32}
use Rattle.k_dict_entries.specs.Dictionary.{IsDictionaryOf}
use Rattle.k_dict_entries.specs.Entries.{tree_at}
use Rattle.k_dict_entries.specs.Rules.{AreProfile, NameRegions}
use Rattle.k_dict_saved.specs.Files.{AreRegions, IsFile}
use Rattle.k_dict_saved.specs.Formats.{AreNamed}
use Rattle.k_dict_saved.specs.Lines.{EndsInMain, IsFirstWrong}
use Rattle.k_dict_saved.specs.declared.fault.SavedFault.{SavedFault}
use Rattle.k_dict_saved.specs.declared.fault.SavedFault.TheVariants.{NotSaved, Memory}
use Rattle.k_dict_saved.specs.declared.format.Accepts.TheVariants.{OneAlone, Both}
use Rattle.k_dict_saved.specs.SavedText.{file_of_old, old_text, saved_text}
use Rattle.k_dict_saved.specs.declared.saved.Old.{Old}
use Rattle.k_dict_saved.specs.declared.saved.Saved.{Saved}

-- a profile that can be saved
pub record IsSaved (saved : Saved) : Type 0 where
  pub exit : FitsSigned w32 saved.exit
  pub ops : saved.ops ≤ 1000000000
  pub regions : AreRegions saved.regions
  pub profile : AreProfile saved.dict
  pub in_list : NameRegions (length saved.regions) saved.dict
  pub main : EndsInMain saved.regions saved.dict
  pub named : AreNamed saved.dict

-- a profile of format 1
abbrev pub IsOld : Old → Type 0
IsOld old = IsFile (file_of_old old)

-- a profile of format 1 as one of format 2: its run and its regions, and the dictionary of its tree
pub record IsMigrated (old : Old) (saved : Saved) : Type 0 where
  pub exit : saved.exit ≡ old.exit
  pub ops : saved.ops ≡ old.ops
  pub regions : saved.regions ≡ old.regions
  pub root : ℕ
  pub last : length old.entries ≡ root + 1
  pub dict : IsDictionaryOf (tree_at old.entries root) saved.dict

-- what `read_old` answers: the profile that the bytes spell in format 1, or the place of their first wrong line
abbrev pub ReadsOld : List ℕ → Result Old SavedFault → Type 0
ReadsOld bytes (Ok old) = IsOld old × (bytes ≡ old_text old)
ReadsOld bytes (Err (NotSaved place)) = IsFirstWrong OneAlone bytes place
ReadsOld bytes (Err Memory) = Unit {0}

-- the bytes spell this profile, or one of format 1 that it is made of
abbrev pub Spells : List ℕ → Saved → Type 0
Spells bytes saved = (bytes ≡ saved_text saved) ⊎ ((old : Old) × IsOld old × (bytes ≡ old_text old) × IsMigrated old saved)

-- what `read` answers: the profile that the bytes spell in either format, or the place of their first wrong line
abbrev pub Reads : List ℕ → Result Saved SavedFault → Type 0
Reads bytes (Ok saved) = IsSaved saved × Spells bytes saved
Reads bytes (Err (NotSaved place)) = IsFirstWrong Both bytes place
Reads bytes (Err Memory) = Unit {0}
