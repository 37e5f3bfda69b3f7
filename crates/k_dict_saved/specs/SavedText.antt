-- Believed with the theorem on the top call.
-- The text of a saved profile.
use Rattle.std.specs.Prelude.{ℕ, List}
use Rattle.k_dict_saved.specs.FileText.{file_text}
use Rattle.k_dict_saved.specs.declared.file.File.{File}
use Rattle.k_dict_saved.specs.declared.format.Format.TheVariants.{One, Two}
use Rattle.k_dict_saved.specs.declared.saved.Old.{Old}
use Rattle.k_dict_saved.specs.declared.saved.Saved.{Saved}

-- a profile as a file in format 2
abbrev pub file_of_saved : Saved → File
file_of_saved saved = record { format = Two; exit = saved.exit; ops = saved.ops; regions = saved.regions; entries = saved.dict }

-- a profile of format 1 as a file
abbrev pub file_of_old : Old → File
file_of_old old = record { format = One; exit = old.exit; ops = old.ops; regions = old.regions; entries = old.entries }

-- the file of a saved profile
abbrev pub saved_text : Saved → List ℕ
saved_text saved = file_text (file_of_saved saved)

-- the file of a profile of format 1
abbrev pub old_text : Old → List ℕ
old_text old = file_text (file_of_old old)
