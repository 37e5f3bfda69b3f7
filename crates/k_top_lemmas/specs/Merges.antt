-- For contracts between crates: nobody has to believe it.
-- What the parts of `merge` come to, and what was seen of its files. The theorem on `kremlin` speaks of none of this.
use Rattle.std.specs.Prelude.{ℕ, ◌≡◌, ◌≢◌, ◌⊎◌, List, [], ◌∷◌, Result, Ok, Err, Vec}
use Rattle.std.specs.declared.alloc.Global.{Global}
use Rattle.k_dict_entries.specs.declared.dict.DictFault.TheVariants as dict_fault
use Rattle.k_dict_saved.specs.declared.fault.SavedFault.TheVariants.{NotSaved}
use Rattle.k_edge.specs.FilesWords.{FilesState, Loads, after}
use Rattle.k_edge.specs.declared.request.Request.{Request}
use Rattle.k_edge.specs.declared.request.Request.TheVariants.{Load}
use Rattle.k_sum.specs.SumText.{sum_text}
use Rattle.k_sum.specs.Sums.{both}
use Rattle.k_sum.specs.declared.sum.Sum.{Sum}
use Rattle.k_sum.specs.declared.sum.SumFault.{SumFault}
use Rattle.k_sum.specs.declared.sum.SumFault.TheVariants as sum_fault
use Rattle.k_sum_read.specs.AnyFile.{ReadsAny}
use Rattle.k_words.specs.declared.merging.Part.{Part}
use Rattle.k_top_answers.specs.declared.answer.Answer.{Answer}
use Rattle.k_top_answers.specs.declared.failure.Failure.{Failure}
use Rattle.k_top_answers.specs.declared.failure.Failure.TheVariants as why
use Rattle.k_top_answers.specs.Merges.{AnswersAdded, AnswersFinished, AnswersFirst, AnswersOthers, AnswersSum, PassesLimit, saving}
use Rattle.k_top_answers.specs.Requests.{parts_to_load}
use Rattle.k_top_answers.specs.Steps.{profile_limit}
use Rattle.k_top_lemmas.specs.Parts.{IfRefusal, LoadsFile}
use Rattle.k_top_lemmas.specs.Phases.{AreTold, Everywhere, FilesAfter, LoadsStop, Seen, Stops, of_files}

-- a failure names a file, or no memory was found for the name
abbrev pub IsOrShort : Failure → Failure → Type 0
IsOrShort named failure = (failure ≡ named) ⊎ (failure ≡ why.NoMemory)

-- what reading the bytes of a file comes to: the sum of its runs, or why it is refused
abbrev pub ReadsRuns : Result Sum Failure → List ℕ → List ℕ → Type 0
ReadsRuns (Ok sum) file bytes = ReadsAny bytes (Ok sum)
ReadsRuns (Err failure) file bytes = (failure ≡ why.NoMemory) ⊎ ((place : ℕ) × ReadsAny bytes (Err (NotSaved place)) × (failure ≡ why.SavedIn file place))

-- what putting the runs of a sum to those of another comes to, once
abbrev pub AddsOnce : Result (Unit {0}) SumFault → Sum → Sum → Sum → Type 0
AddsOnce (Ok x) sum other new = (sum.regions ≡ other.regions) × (¬ PassesLimit sum other) × (new ≡ both sum other)
AddsOnce (Err sum_fault.Other) sum other new = sum.regions ≢ other.regions
AddsOnce (Err sum_fault.Large) sum other new = (sum.regions ≡ other.regions) × PassesLimit sum other
AddsOnce (Err (sum_fault.Dict (dict_fault.Full which))) sum other new = (sum.regions ≡ other.regions) × PassesLimit sum other
AddsOnce (Err (sum_fault.Dict dict_fault.Memory)) sum other new = Unit {0}

-- the same, so many times, where the other sum is that of this file
abbrev pub AddsTimes : Result (Unit {0}) Failure → ℕ → List ℕ → Sum → Sum → Sum → Type 0
AddsTimes (Ok x) times file sum other new = AnswersAdded (λ failure. ⊥) file (λ all. all ≡ new) times sum other
AddsTimes (Err failure) times file sum other new =
    (failure ≡ why.NoMemory) ⊎ AnswersAdded (λ named. named ≡ failure) file (λ all. ⊥) times sum other

-- what so many times lead to, they lead to from here, where so many are left
pub record AddsFromHere (file : List ℕ) (times left : ℕ) (sum here other : Sum) : Type 0 where
  pub ok : (all : Sum) → AnswersAdded (λ failure. ⊥) file (λ new. new ≡ all) left here other → AnswersAdded (λ failure. ⊥) file (λ new. new ≡ all) times sum other
  pub err : (failure : Failure) → AnswersAdded (λ named. named ≡ failure) file (λ new. ⊥) left here other
      → AnswersAdded (λ named. named ≡ failure) file (λ new. ⊥) times sum other

-- what bringing the sum of all in the order of its own file comes to, where this is the last file
abbrev pub FinishesSum : Result Sum Failure → List ℕ → Sum → Type 0
FinishesSum (Ok ordered) file sum = AnswersFinished (λ failure. ⊥) (λ all. all ≡ ordered) file sum
FinishesSum (Err failure) file sum = (failure ≡ why.NoMemory) ⊎ AnswersFinished (λ named. named ≡ failure) (λ all. ⊥) file sum

-- a failure behind a file whose bytes were loaded, where this is done with the sum of its runs
abbrev pub StopsBehind : ((Failure → Type 0) → (Sum → Type 0) → Sum → Type 0) → Failure → List ℕ → List ℕ → Type 0
StopsBehind does failure file bytes =
    ReadsRuns (Err failure) file bytes ⊎ ((read : Sum) × ReadsAny bytes (Ok read) × does (λ named. named ≡ failure) (λ all. ⊥) read)

-- what reading the bytes of a file comes to, with whose sum of runs this is done
abbrev pub GivesRuns : ((Failure → Type 0) → (Sum → Type 0) → Sum → Type 0) → Result Sum Failure → List ℕ → List ℕ → Type 0
GivesRuns does (Ok sum) file bytes = (read : Sum) × ReadsAny bytes (Ok read) × does (λ failure. ⊥) (λ all. all ≡ sum) read
GivesRuns does (Err failure) file bytes = StopsBehind does failure file bytes

-- what loading and reading a file comes to, with whose sum of runs this is done
abbrev pub LoadsRuns : ((Failure → Type 0) → (Sum → Type 0) → Sum → Type 0) → Result Sum Failure → List ℕ → FilesState → FilesState → Type 0
LoadsRuns does (Ok sum) file old new =
    (bytes : Vec ℕ Global) × Loads (Ok bytes) file profile_limit old new × GivesRuns does (Ok sum) file bytes.items
LoadsRuns does (Err failure) file old new =
    ((bytes : Vec ℕ Global) × Loads (Ok bytes) file profile_limit old new × StopsBehind does failure file bytes.items)
    ⊎ LoadsFile (Err failure) file profile_limit old new ⊎ ((failure ≡ why.NoMemory) × (new ≡ old))

-- the runs of the first file, as often as it is named
abbrev pub first_runs_of : Part → (Failure → Type 0) → (Sum → Type 0) → Sum → Type 0
first_runs_of part failed next read = AnswersFirst failed part.file next part.times read

-- those of another one, put to a sum
abbrev pub added_to : Sum → Part → (Failure → Type 0) → (Sum → Type 0) → Sum → Type 0
added_to sum part failed next read = AnswersAdded failed part.file next part.times sum read

-- what was seen are the first of these files
abbrev pub AreOfParts : List Seen → List Part → Type 0
AreOfParts [] parts = Unit {0}
AreOfParts (s ∷ files) [] = ⊥
AreOfParts (s ∷ files) (part ∷ parts) = (s.name ≡ part.file) × AreOfParts files parts

-- what a failure leaves of files, behind this one that was loaded, where these were to be loaded
abbrev pub LoadsBehind : Failure → List ℕ → List Request → FilesState → FilesState → Type 0
LoadsBehind failure file loads old new = (made : List Request) × Stops failure (Load file ∷ loads) (Load file ∷ made) × FilesAfter failure made old new

-- what putting the runs of files to those of others comes to, of which the last is this, where this was seen of the files
abbrev pub OthersSeen : Result Sum Failure → List Seen → List Part → List ℕ → Sum → FilesState → FilesState → Type 0
OthersSeen (Ok all) files parts file sum old new =
    (new ≡ after (parts_to_load parts) old)
    × Everywhere (of_files files) (λ outside. AnswersOthers (λ failure. ⊥) outside (λ found. found ≡ all) parts file sum)
OthersSeen (Err failure) files parts file sum old new =
    LoadsBehind failure file (parts_to_load parts) old new
    × IfRefusal failure (Everywhere (of_files files) (λ outside. AnswersOthers (λ other. other ≡ failure) outside (λ found. ⊥) parts file sum))

-- what putting the runs of files to those of others comes to
abbrev pub FindsOthers : Result Sum Failure → List Part → List ℕ → Sum → FilesState → FilesState → Type 0
FindsOthers result parts file sum old new =
    (files : List Seen) × AreTold old.held files × AreOfParts files parts × OthersSeen result files parts file sum old new

-- what the files that are left lead to, all of them do, where the last file so far is this
abbrev pub OthersFromHere : List Part → List Part → List ℕ → List ℕ → Sum → Sum → FilesState → FilesState → Type 0
OthersFromHere parts left first last sum here old mid =
    (result : Result Sum Failure) (new : FilesState) → FindsOthers result left last here mid new → FindsOthers result parts first sum old new

-- what putting the runs of all files together comes to, where this was seen of them
abbrev pub SumSeen : Result Sum Failure → List Seen → List Part → FilesState → FilesState → Type 0
SumSeen (Ok all) files parts old new =
    (new ≡ after (parts_to_load parts) old) × Everywhere (of_files files) (λ outside. AnswersSum (λ failure. ⊥) outside (λ found. found ≡ all) parts)
SumSeen (Err failure) files parts old new =
    LoadsStop failure (parts_to_load parts) old new
    × IfRefusal failure (Everywhere (of_files files) (λ outside. AnswersSum (λ other. other ≡ failure) outside (λ found. ⊥) parts))

-- what putting the runs of all files together comes to
abbrev pub FindsSum : Result Sum Failure → List Part → FilesState → FilesState → Type 0
FindsSum result parts old new = (files : List Seen) × AreTold old.held files × SumSeen result files parts old new

-- what finding the answer of `merge` comes to
abbrev pub MergesFiles : Result Answer Failure → List ℕ → List Part → FilesState → FilesState → Type 0
MergesFiles (Ok answer) save parts old new = (all : Sum) × FindsSum (Ok all) parts old new × (answer ≡ saving save (sum_text all))
MergesFiles (Err failure) save parts old new =
    FindsSum (Err failure) parts old new ⊎ ((failure ≡ why.NoMemory) × ((all : Sum) × FindsSum (Ok all) parts old new))
