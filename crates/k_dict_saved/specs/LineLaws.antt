-- Believed with a public law.
-- What holds of files: the statements of the laws.
use Rattle.std.specs.Prelude.{ℕ, ◌≡◌, List}
use Rattle.k_dict_saved.specs.FileText.{file_text}
use Rattle.k_dict_saved.specs.Files.{IsFile}
use Rattle.k_dict_saved.specs.Formats.{IsAccepted}
use Rattle.k_dict_saved.specs.Lines.{IsFirstWrong}
use Rattle.k_dict_saved.specs.declared.file.File.{File}
use Rattle.k_dict_saved.specs.declared.format.Accepts.{Accepts}

-- a text has at most one first wrong line, whichever formats are read
abbrev pub FirstWrongIsOne : Type 0
FirstWrongIsOne = (accepts : Accepts) (bytes : List ℕ) (one other : ℕ) → IsFirstWrong accepts bytes one → IsFirstWrong accepts bytes other → one ≡ other

-- a file that keeps the rules of its format has no wrong line where that format is read
abbrev pub NoFileIsWrong : Type 0
NoFileIsWrong = (accepts : Accepts) (v : File) (place : ℕ) → IsAccepted accepts v.format → IsFile v → IsFirstWrong accepts (file_text v) place → ⊥

-- two files with one text are one
abbrev pub TextIsOfOne : Type 0
TextIsOfOne = (v w : File) → IsFile v → IsFile w → file_text v ≡ file_text w → v ≡ w
