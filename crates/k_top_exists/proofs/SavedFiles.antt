-- The bytes of a saved file spell a profile, in either format, or they have a first wrong line.
use Rattle.std.proofs.Common.{◌≡◌, inl, inr, List, ℕ, refl, sym, ap, subst}
use Rattle.k_dict_saved.specs.FileText.{file_text}
use Rattle.k_dict_saved.specs.Files.{IsFile}
use Rattle.k_dict_saved.specs.declared.file.File.{File}
use Rattle.k_dict_saved.specs.declared.format.Accepts.TheVariants.{Both}
use Rattle.k_dict_saved.specs.declared.format.Format.{Format}
use Rattle.k_dict_saved.specs.declared.format.Format.TheVariants.{One, Two}
use Rattle.k_dict_saved.specs.Profile.{IsSaved, Spells}
use Rattle.k_dict_saved.specs.SavedText.{file_of_old}
use Rattle.k_dict_saved.specs.declared.saved.Old.{Old}
use Rattle.k_dict_saved.specs.declared.saved.Saved.{Saved}
use Rattle.k_dict_saved.proofs.Profiles.{two_saved}
use Rattle.k_top_exists.specs.Files.{SavedFileIsAnswered}
use Rattle.k_top_exists.proofs.Migrations.{old_is_migrated}
use Rattle.k_top_exists.proofs.SavedLines.{file_or_wrong}

-- a profile that the text of a file spells
abbrev HasProfile : File → Type 0
HasProfile file = (saved : Saved) × IsSaved saved × Spells (file_text file) saved

-- a file in format 2 is one
profile_of_two : (file : File) → file.format ≡ Two → IsFile file → HasProfile file
profile_of_two file two is =
    let saved : Saved = record { exit = file.exit; ops = file.ops; regions = file.regions; dict = file.entries } in
    let both = two_saved file saved two is refl in (saved, both.0, both.1)

-- a file in format 1 becomes one
profile_of_one : (file : File) → file.format ≡ One → IsFile file → HasProfile file
profile_of_one file one is =
    let old : Old = record { exit = file.exit; ops = file.ops; regions = file.regions; entries = file.entries } in
    let same : file ≡ file_of_old old = λ i. record file { format = one i } in
    let P : File → Type 0 = IsFile in
    let is_old : IsFile (file_of_old old) = subst P same is in
    let migrated = old_is_migrated old is_old in
    (migrated.0, migrated.1, inr (old, is_old, ap file_text same, migrated.2))

-- a file in either format has a profile
profile_of : (file : File) → IsFile file → HasProfile file
profile_of file is = by file.format refl
  where
    by : (format : Format) → file.format ≡ format → HasProfile file
    by One one = profile_of_one file one is
    by Two two = profile_of_two file two is

-- any bytes spell a profile, or have a first wrong line
pub saved_file_is_answered : SavedFileIsAnswered
saved_file_is_answered bytes = elim (file_or_wrong Both bytes) [
  | inl file ↦ (let P : List ℕ → Type 0 = λ l. (saved : Saved) × IsSaved saved × Spells l saved in
      let made = subst P (sym file.3) (profile_of file.0 file.2) in inl (made.0, (made.1, made.2)))
  | inr wrong ↦ inr wrong
]
