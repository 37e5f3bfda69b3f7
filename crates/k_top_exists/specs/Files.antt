-- Believed with a public law.
-- Each file and each list of words has an answer: the statements of the laws.
use Rattle.std.specs.Prelude.{ℕ, ◌≡◌, ◌≢◌, ◌⊎◌, List, ◌++◌, Result, Ok, Err}
use Rattle.k_optab.specs.declared.toml_table.TableFault.{TableFault}
use Rattle.k_optab.specs.declared.toml_table.TableFault.TheVariants as table
use Rattle.k_optab.specs.TomlTable.{IsRefused, IsTold}
use Rattle.k_dict_saved.specs.FileText.{file_text}
use Rattle.k_dict_saved.specs.Files.{IsFile}
use Rattle.k_dict_saved.specs.Formats.{IsAccepted, first_line}
use Rattle.k_dict_saved.specs.Lines.{IsFirstWrong}
use Rattle.k_dict_saved.specs.declared.file.File.{File}
use Rattle.k_dict_saved.specs.declared.format.Accepts.{Accepts}
use Rattle.k_dict_saved.specs.declared.format.Format.{Format}
use Rattle.k_dict_saved.specs.declared.fault.SavedFault.TheVariants.{NotSaved}
use Rattle.k_dict_saved.specs.Profile.{Reads}
use Rattle.k_dict_saved.specs.declared.saved.Saved.{Saved}
use Rattle.k_sum.specs.declared.sum.Sum.{Sum}
use Rattle.k_sum_read.specs.AnyFile.{BeginsSum}
use Rattle.k_sum_read.specs.SumFile.{ReadsSum}
use Rattle.k_words.specs.declared.job.Form.{Form}
use Rattle.k_words.specs.declared.job.Job.{Job}
use Rattle.k_words.specs.declared.usage.Usage.{Usage}
use Rattle.k_words.specs.declared.usage.Usage.TheVariants as usage
use Rattle.k_words.specs.Words.{IsAnswer}
use Rattle.k_top_answers.specs.declared.failure.Failure.TheVariants as why
use Rattle.k_top_answers.specs.Answers.{AnswersShown, refusal}

-- the bytes tell latencies, or are refused for a fault that is no want of memory
abbrev pub TellsOrRefuses : List ℕ → Type 0
TellsOrRefuses bytes =
    ((latencies : List ℕ) × IsTold bytes (Ok latencies)) ⊎ ((fault : TableFault) × (fault ≢ table.Memory) × IsRefused bytes fault)

-- any bytes do
abbrev pub TableIsAnswered : Type 0
TableIsAnswered = (bytes : List ℕ) → TellsOrRefuses bytes

-- any words have an answer that is no want of memory
abbrev pub WordsAreAnswered : Type 0
WordsAreAnswered = (words : List (List ℕ)) → (answer : Result Job Usage) × IsAnswer words answer × (answer ≢ Err usage.Memory)

-- the bytes spell a file of one of these formats, or have a first wrong line
abbrev pub SpellsOrIsWrong : Accepts → List ℕ → Type 0
SpellsOrIsWrong accepts bytes =
    ((file : File) × IsAccepted accepts file.format × IsFile file × (bytes ≡ file_text file)) ⊎ ((place : ℕ) × IsFirstWrong accepts bytes place)

-- any bytes do, whichever formats are read
abbrev pub FileIsAnswered : Type 0
FileIsAnswered = (accepts : Accepts) (bytes : List ℕ) → SpellsOrIsWrong accepts bytes

-- the bytes spell a profile, in either format, or have a first wrong line
abbrev pub SpellsProfileOrIsWrong : List ℕ → Type 0
SpellsProfileOrIsWrong bytes = ((saved : Saved) × Reads bytes (Ok saved)) ⊎ ((place : ℕ) × Reads bytes (Err (NotSaved place)))

-- any bytes do
abbrev pub SavedFileIsAnswered : Type 0
SavedFileIsAnswered = (bytes : List ℕ) → SpellsProfileOrIsWrong bytes

-- the bytes spell a sum, in the third format of saved files, or have a first wrong line by its rules
abbrev pub SpellsSumOrIsWrong : List ℕ → Type 0
SpellsSumOrIsWrong bytes = ((sum : Sum) × ReadsSum bytes (Ok sum)) ⊎ ((place : ℕ) × ReadsSum bytes (Err (NotSaved place)))

-- any bytes do where their first line is that of a sum, and all others spell a profile, in either format, or have a first wrong line by the rules of these
abbrev pub FileOfThreeIsAnswered : Type 0
FileOfThreeIsAnswered = (bytes : List ℕ) → (BeginsSum bytes × SpellsSumOrIsWrong bytes) ⊎ ((¬ BeginsSum bytes) × SpellsProfileOrIsWrong bytes)

-- bytes whose first line is that of none of the three formats are refused at byte 0 where they are to be shown
abbrev pub OtherFileIsRefused : Type 0
OtherFileIsRefused =
    (form : Form) (bytes : List ℕ) → ¬ BeginsSum bytes → ((format : Format) (rest : List ℕ) → bytes ≢ first_line format ++ rest)
    → AnswersShown form (refusal (why.Saved 0)) bytes
