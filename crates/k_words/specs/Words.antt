-- Believed with the theorem on the top call.
-- *Words*: what the words of the command line ask for, and the first of them that is wrong.
use Rattle.std.specs.Prelude.{ℕ, zero, suc, ◌+◌, ◌≡◌, ◌||◌, Bool, true, if◌then◌else◌, List, [], ◌∷◌, codes, nat_eq, nat_lt, slice_get, Option, Some, None, is_some, unwrap_or, option_map, option_and_then, Result, Ok, Err}
use Rattle.std.specs.List.{starts_with}
use Rattle.std.specs.Cmp.Lexicographic.{pointwise}
use Rattle.k_words.specs.declared.job.Job.{Job}
use Rattle.k_words.specs.declared.job.Job.TheVariants as job
use Rattle.k_words.specs.declared.job.Form.{Form}
use Rattle.k_words.specs.declared.job.Form.TheVariants as form
use Rattle.k_words.specs.declared.option.Command.{Command}
use Rattle.k_words.specs.declared.option.Command.TheVariants.{Run, Graph, Carried, Replay, Page, Annotate, Show, Merge, Check, Demo}
use Rattle.k_words.specs.declared.usage.Usage.{Usage}
use Rattle.k_words.specs.declared.usage.Usage.TheVariants.{NoCommand, UnknownWord, BadNumber, Twice, NoFile, Memory}
use Rattle.k_words.specs.Number.{number_within}
use Rattle.k_words.specs.Parts.{parts_of}
use Rattle.k_words.specs.Setting.{standard_depth, standard_seed, standard_steps, standard_workers}
use Rattle.k_words.specs.Settings.{Given, IsFirst, given, settings_fault}

-- the word can't name a file: it is empty or begins with --
abbrev pub is_no_file : List ℕ → Bool
is_no_file [] = true
is_no_file (byte ∷ bytes) = starts_with nat_eq (byte ∷ bytes) (codes "--")

-- what is wrong with argument k of a command that reads a file, which is the word of index k + 1
abbrev pub file_fault : Command → List (List ℕ) → ℕ → Option Usage
file_fault command [] zero = Some NoFile
file_fault command [] (suc k) = None
file_fault command (file ∷ words) zero = if is_no_file file then Some NoFile else None
file_fault command (file ∷ words) (suc k) = settings_fault command words k

-- the number that `demo` makes a program from
abbrev pub demo_number : List ℕ → Option ℕ
demo_number word = number_within 0 18446744073709551615 word

-- the number of its loops
abbrev pub demo_loops : List ℕ → Option ℕ
demo_loops word = number_within 1 2000 word

-- the word of this index is one too many, where there is one
abbrev pub one_too_many : Option (List ℕ) → ℕ → Option Usage
one_too_many None index = None
one_too_many (Some word) index = Some (UnknownWord index)

-- what is wrong with argument k + 1 of `demo`
abbrev pub loops_fault : List (List ℕ) → ℕ → Option Usage
loops_fault [] zero = Some NoFile
loops_fault [] (suc k) = None
loops_fault (loops ∷ words) zero = if is_some (demo_loops loops) then None else Some (BadNumber 2)
loops_fault (loops ∷ words) (suc k) = one_too_many (slice_get words k) (k + 3)

-- what is wrong with argument k of `demo`
abbrev pub demo_fault : List (List ℕ) → ℕ → Option Usage
demo_fault [] zero = Some NoFile
demo_fault [] (suc k) = None
demo_fault (number ∷ words) zero = if is_some (demo_number number) then None else Some (BadNumber 1)
demo_fault (number ∷ words) (suc k) = loops_fault words k

-- how many files `merge` puts together at most
abbrev pub most_merged : ℕ
most_merged = 4096

-- what is wrong with argument k of `merge`, which may be missing: the file that is saved and the first two that are put together have to be
-- there, and behind them stand other files up to the last one that may be
abbrev pub merged_fault : Option (List ℕ) → ℕ → Option Usage
merged_fault None k = if nat_lt k 3 then Some NoFile else None
merged_fault (Some word) k =
    if nat_lt k 3 then (if is_no_file word then Some NoFile else None)
    else (if is_no_file word || nat_lt most_merged k then Some (UnknownWord (k + 1)) else None)

-- what is wrong with argument k of `merge`, which is the word of index k + 1
abbrev pub merge_fault : List (List ℕ) → ℕ → Option Usage
merge_fault words k = merged_fault (slice_get words k) k

-- the word is this text
abbrev pub is : List ℕ → List ℕ → Bool
is word text = pointwise nat_eq word text

-- the command of this name
unfoldable pub command_of : List ℕ → Option Command
command_of word =
    if is word (codes "run") then Some Run else if is word (codes "graph") then Some Graph
    else if is word (codes "carried") then Some Carried else if is word (codes "replay") then Some Replay
    else if is word (codes "page") then Some Page
    else if is word (codes "annotate") then Some Annotate else if is word (codes "show") then Some Show
    else if is word (codes "merge") then Some Merge
    else if is word (codes "check") then Some Check else if is word (codes "demo") then Some Demo else None

-- what is wrong with the command
abbrev pub command_fault : Option Command → Option Usage
command_fault None = Some (UnknownWord 0)
command_fault (Some command) = None

-- what is wrong with argument k of a command
abbrev pub argument_fault : Command → List (List ℕ) → ℕ → Option Usage
argument_fault Run words k = file_fault Run words k
argument_fault Graph words k = file_fault Graph words k
argument_fault Carried words k = file_fault Carried words k
argument_fault Replay words k = file_fault Replay words k
argument_fault Page words k = file_fault Page words k
argument_fault Annotate words k = file_fault Annotate words k
argument_fault Show words k = file_fault Show words k
argument_fault Merge words k = merge_fault words k
argument_fault Check words k = file_fault Check words k
argument_fault Demo words k = demo_fault words k

-- the same where the command may be none, which is what is wrong then
abbrev pub fault_behind : Option Command → List (List ℕ) → ℕ → Option Usage
fault_behind None words k = None
fault_behind (Some command) words k = argument_fault command words k

-- what is wrong with the word of this index
abbrev pub fault_at : List (List ℕ) → ℕ → Option Usage
fault_at [] zero = Some NoCommand
fault_at [] (suc k) = None
fault_at (command ∷ words) zero = command_fault (command_of command)
fault_at (command ∷ words) (suc k) = fault_behind (command_of command) words k

-- what `run` with this file and these options asks for
abbrev pub run_of : List ℕ → Given → Job
run_of file g = job.Run file (unwrap_or g.steps standard_steps) (unwrap_or g.depth standard_depth) g.latency g.dict g.save

-- what `graph` with this file and these options asks for
abbrev pub graph_of : List ℕ → Given → Job
graph_of file g = job.Graph file (unwrap_or g.steps 200000) (unwrap_or g.depth standard_depth) g.latency

-- what `carried` with this file and these options asks for
abbrev pub carried_of : List ℕ → Given → Job
carried_of file g = job.Carried file (unwrap_or g.steps standard_steps) (unwrap_or g.depth standard_depth) g.latency g.storage

-- what `replay` with this file and these options asks for
abbrev pub replay_of : List ℕ → Given → Job
replay_of file g =
    job.Replay file (unwrap_or g.steps 200000) (unwrap_or g.depth standard_depth) g.latency (unwrap_or g.workers standard_workers) (unwrap_or g.seed standard_seed)

-- what `page` with this file and these options asks for
abbrev pub page_of : List ℕ → Given → Job
page_of file g = job.Page file (unwrap_or g.steps standard_steps) (unwrap_or g.depth standard_depth) g.latency g.dict

-- what `annotate` with this file and these options asks for
abbrev pub annotate_of : List ℕ → Given → Job
annotate_of file g = job.Annotate file (unwrap_or g.steps standard_steps) (unwrap_or g.depth standard_depth) g.latency g.strict

-- how `show` with these options shows a profile
abbrev pub form_of : Given → Form
form_of g = if g.csv then form.Csv else if g.json then form.Json g.dict else form.Report g.dict

-- what is asked for where a file is to be shown in a form
abbrev pub shown_as : List ℕ → Form → Job
shown_as file (form.Report dict) = job.Show file dict
shown_as file (form.Json dict) = job.ShowJson file dict
shown_as file form.Csv = job.ShowCsv file

-- what `show` with this file and these options asks for
abbrev pub show_of : List ℕ → Given → Job
show_of file g = shown_as file (form_of g)

-- what `run` with these arguments asks for
abbrev pub run_job : List (List ℕ) → Option Job
run_job [] = None
run_job (file ∷ words) = Some (run_of file (given Run words))

-- what `graph` with these arguments asks for
abbrev pub graph_job : List (List ℕ) → Option Job
graph_job [] = None
graph_job (file ∷ words) = Some (graph_of file (given Graph words))

-- what `carried` with these arguments asks for
abbrev pub carried_job : List (List ℕ) → Option Job
carried_job [] = None
carried_job (file ∷ words) = Some (carried_of file (given Carried words))

-- what `replay` with these arguments asks for
abbrev pub replay_job : List (List ℕ) → Option Job
replay_job [] = None
replay_job (file ∷ words) = Some (replay_of file (given Replay words))

-- what `page` with these arguments asks for
abbrev pub page_job : List (List ℕ) → Option Job
page_job [] = None
page_job (file ∷ words) = Some (page_of file (given Page words))

-- what `annotate` with these arguments asks for
abbrev pub annotate_job : List (List ℕ) → Option Job
annotate_job [] = None
annotate_job (file ∷ words) = Some (annotate_of file (given Annotate words))

-- what `show` with these arguments asks for
abbrev pub show_job : List (List ℕ) → Option Job
show_job [] = None
show_job (file ∷ words) = Some (show_of file (given Show words))

-- what `merge` with these arguments asks for: the first is the file that is saved, and the runs of the others are put together
abbrev pub merge_job : List (List ℕ) → Option Job
merge_job [] = None
merge_job (save ∷ files) = Some (job.Merge save (parts_of [] files))

-- what `check` with these arguments asks for
abbrev pub check_job : List (List ℕ) → Option Job
check_job [] = None
check_job (file ∷ words) = Some (job.Check file)

-- what `demo` with these arguments asks for
abbrev pub demo_job : List (List ℕ) → Option Job
demo_job [] = None
demo_job (number ∷ []) = None
demo_job (number ∷ loops ∷ words) = option_and_then (λ n. option_map (λ l. job.Demo n l) (demo_loops loops)) (demo_number number)

-- what a command with these arguments asks for
abbrev pub job_with : List (List ℕ) → Command → Option Job
job_with words Run = run_job words
job_with words Graph = graph_job words
job_with words Carried = carried_job words
job_with words Replay = replay_job words
job_with words Page = page_job words
job_with words Annotate = annotate_job words
job_with words Show = show_job words
job_with words Merge = merge_job words
job_with words Check = check_job words
job_with words Demo = demo_job words

-- what the words ask for, where none of them is wrong
abbrev pub job_of : List (List ℕ) → Option Job
job_of [] = None
job_of (command ∷ words) = option_and_then (job_with words) (command_of command)

-- no word is wrong
abbrev pub AreRight : (ℕ → Option Usage) → Type 0
AreRight faults = (k : ℕ) → faults k ≡ None

-- a job is answered where no word is wrong, and else the fault of the first wrong word
abbrev pub Answers : (ℕ → Option Usage) → Option Job → Result Job Usage → Type 0
Answers faults asked (Ok j) = AreRight faults × (asked ≡ Some j)
Answers faults asked (Err NoCommand) = IsFirst faults NoCommand
Answers faults asked (Err (UnknownWord index)) = IsFirst faults (UnknownWord index)
Answers faults asked (Err (BadNumber index)) = IsFirst faults (BadNumber index)
Answers faults asked (Err (Twice index)) = IsFirst faults (Twice index)
Answers faults asked (Err NoFile) = IsFirst faults NoFile
Answers faults asked (Err Memory) = Unit {0}

-- the answer to the words
abbrev pub IsAnswer : List (List ℕ) → Result Job Usage → Type 0
IsAnswer words answer = Answers (fault_at words) (job_of words) answer

-- the arguments are right, and this is their file and what they give
pub record ReadsFile (command : Command) (arguments : List (List ℕ)) (file : List ℕ) (g : Given) : Type 0 where
  pub right : AreRight (file_fault command arguments)
  pub words : List (List ℕ)
  pub split : arguments ≡ file ∷ words
  pub all : g ≡ given command words
