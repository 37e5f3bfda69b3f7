-- Believed with the theorem on the top call.
-- The rules of a file, and what reading one answers.
use Rattle.std.specs.Prelude.{ℕ, ◌≤◌, ◌≡◌, List, [], ◌∷◌, length, Option, Some, None, slice_get, FitsSigned, Result, Ok, Err}
use Rattle.std.specs.Int.{w32}
use Rattle.k_optab.specs.declared.region.Region.{Region}
use Rattle.k_dict_entries.specs.Entries.{AreDistinct}
use Rattle.k_dict_entries.specs.Rules.{HaveBoundedNumbers, HaveFewInstances, HaveFewLevels, NameRegions}
use Rattle.k_dict_entries.specs.declared.entry.Entry.{Entry}
use Rattle.k_dict_saved.specs.FileText.{file_text}
use Rattle.k_dict_saved.specs.Formats.{HaveRuns, IsAccepted, NoneIsLeft}
use Rattle.k_dict_saved.specs.Lines.{EndsInMain, IsClosed, IsFirstWrong, IsRegion, MayStand}
use Rattle.k_dict_saved.specs.declared.fault.SavedFault.{SavedFault}
use Rattle.k_dict_saved.specs.declared.fault.SavedFault.TheVariants.{NotSaved, Memory}
use Rattle.k_dict_saved.specs.declared.file.File.{File}
use Rattle.k_dict_saved.specs.declared.format.Accepts.{Accepts}
use Rattle.k_dict_saved.specs.declared.format.Format.{Format}

-- behind this region each loop of the list is followed by its body, no other body stands, and no body is missing at the end
abbrev pub ArePaired : Option Region → List Region → Type 0
ArePaired last [] = IsClosed last
ArePaired last (r ∷ regions) = MayStand last r × ArePaired (Some r) regions

-- the regions of a profile
pub record AreRegions (regions : List Region) : Type 0 where
  pub some : 1 ≤ length regions
  pub few : length regions ≤ 524288
  pub each : (n : ℕ) (r : Region) → slice_get regions n ≡ Some r → IsRegion r
  pub paired : ArePaired None regions

-- the entries of a file
pub record AreFileEntries (format : Format) (entries : List Entry) : Type 0 where
  pub some : 1 ≤ length entries
  pub distinct : AreDistinct entries
  pub runs : HaveRuns format entries
  pub numbers : HaveBoundedNumbers entries
  pub levels : HaveFewLevels entries
  pub instances : HaveFewInstances entries

-- a file that keeps the rules of its format
pub record IsFile (file : File) : Type 0 where
  pub exit : FitsSigned w32 file.exit
  pub ops : file.ops ≤ 1000000000
  pub regions : AreRegions file.regions
  pub entries : AreFileEntries file.format file.entries
  pub in_list : NameRegions (length file.regions) file.entries
  pub main : EndsInMain file.regions file.entries
  pub none_left : NoneIsLeft file.format file.entries

-- what reading a file answers, where files of these formats are read: what the bytes spell, or the place of their first wrong line
abbrev pub ReadsFile : Accepts → List ℕ → Result File SavedFault → Type 0
ReadsFile accepts bytes (Ok file) = IsAccepted accepts file.format × IsFile file × (bytes ≡ file_text file)
ReadsFile accepts bytes (Err (NotSaved place)) = IsFirstWrong accepts bytes place
ReadsFile accepts bytes (Err Memory) = Unit {0}
