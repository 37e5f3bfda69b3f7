-- Believed with the theorem on the top call.
-- Which files are asked for: those that the words have loaded, in order, and then the one that the answer saves.
use Rattle.std.specs.Prelude.{ℕ, ◌≡◌, ◌≢◌, ◌⊎◌, if◌then◌else◌, nat_eq, List, [], ◌∷◌, ◌++◌, Option, Some, None, Ok, Err}
use Rattle.std.specs.Cmp.Lexicographic.{pointwise}
use Rattle.k_edge.specs.declared.request.Request.{Request}
use Rattle.k_edge.specs.declared.request.Request.TheVariants.{Load, Save}
use Rattle.k_words.specs.Words as words
use Rattle.k_words.specs.declared.job.Job.{Job}
use Rattle.k_words.specs.declared.job.Job.TheVariants as job
use Rattle.k_words.specs.declared.merging.Part.{Part}
use Rattle.k_words.specs.declared.usage.Usage.{Usage}
use Rattle.k_words.specs.declared.usage.Usage.TheVariants as usage
use Rattle.k_top_answers.specs.declared.answer.SavedFile.{SavedFile}
use Rattle.k_top_answers.specs.declared.failure.Failure.{Failure}
use Rattle.k_top_answers.specs.declared.failure.Failure.TheVariants as why

-- the table to load behind a source: the one that is named, where that is another file
abbrev pub table_of : List ℕ → Option (List ℕ) → List Request
table_of file None = []
table_of file (Some name) = if pointwise nat_eq name file then [] else Load name ∷ []

-- the files to load for a program: its source, and then its table
abbrev pub files_of : List ℕ → Option (List ℕ) → List Request
files_of file latency = Load file ∷ table_of file latency

-- the files to load to put their runs together: each once, however often it is named
abbrev pub parts_to_load : List Part → List Request
parts_to_load [] = []
parts_to_load (part ∷ parts) = Load part.file ∷ parts_to_load parts

-- THE FILES TO LOAD for a job, in order
abbrev pub loads_of : Job → List Request
loads_of (job.Run file steps depth latency dict save) = files_of file latency
loads_of (job.Graph file steps depth latency) = files_of file latency
loads_of (job.Carried file steps depth latency storage) = files_of file latency
loads_of (job.Replay file steps depth latency workers seed) = files_of file latency
loads_of (job.Page file steps depth latency dict) = files_of file latency
loads_of (job.Annotate file steps depth latency strict) = files_of file latency
loads_of (job.Show file dict) = Load file ∷ []
loads_of (job.ShowJson file dict) = Load file ∷ []
loads_of (job.ShowCsv file) = Load file ∷ []
loads_of (job.Merge save parts) = parts_to_load parts
loads_of (job.Check file) = Load file ∷ []
loads_of (job.Demo number loops) = []

-- these are the files to load for the words: those of the job that they ask for, and none where a word is wrong
abbrev pub AreToLoad : List (List ℕ) → List Request → Type 0
AreToLoad list loads =
    ((asked : Job) × words.IsAnswer list (Ok asked) × (loads ≡ loads_of asked))
    ⊎ ((fault : Usage) × (fault ≢ usage.Memory) × words.IsAnswer list (Err fault) × (loads ≡ []))

-- THE FILE TO SAVE of an answer, where it has one
abbrev pub saves_of : Option SavedFile → List Request
saves_of None = []
saves_of (Some file) = Save file.name ∷ []

-- some requests are a front of others
abbrev pub IsFront : List Request → List Request → Type 0
IsFront made all = (rest : List Request) × (all ≡ made ++ rest)

-- the last of these requests is to load this file
abbrev pub EndsWith : List ℕ → List Request → Type 0
EndsWith file made = (before : List Request) × (made ≡ before ++ Load file ∷ [])

-- the last of these requests is to load the file that a failure names
abbrev pub EndsAt : Option Failure → List Request → Type 0
EndsAt (Some (why.Absent file)) made = EndsWith file made
EndsAt (Some (why.FileLong file)) made = EndsWith file made
EndsAt failure made = ⊥

-- how far the requests of an answer go where nothing goes wrong outside: through all loads and the save; but where a file is refused whose runs are to be
-- put to others, it is the last one
abbrev pub AreMade : Option Failure → List Request → List Request → Type 0
AreMade (Some (why.SavedIn file place)) all made = IsFront made all × EndsWith file made
AreMade (Some (why.OtherProgram file)) all made = IsFront made all × EndsWith file made
AreMade (Some (why.SumLarge file)) all made = IsFront made all × EndsWith file made
AreMade failure all made = made ≡ all
