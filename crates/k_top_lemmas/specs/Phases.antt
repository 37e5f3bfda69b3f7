-- For contracts between crates: nobody has to believe it.
-- What was seen of the outside while the answer was found, and what holds wherever that is so. The theorem on `kremlin` speaks of none of this.
use Rattle.std.specs.Prelude.{ℕ, ◌≡◌, ◌≢◌, ◌+◌, ◌≤◌, ◌⊎◌, List, [], ◌∷◌, ◌++◌, Option, Some, None, Result, Ok, Err, Vec}
use Rattle.std.specs.declared.alloc.Global.{Global}
use Rattle.k_edge.specs.Fault.{Rose}
use Rattle.k_edge.specs.FilesWords.{FilesState, Has, after}
use Rattle.k_edge.specs.declared.request.Request.{Request}
use Rattle.k_edge.specs.ReadAll.{DrawsTooMany, DrawsWithin, ReadsAll}
use Rattle.k_edge.specs.SourceWords.{SourceState}
use Rattle.k_words.specs.declared.job.Job.{Job}
use Rattle.k_words.specs.declared.job.Job.TheVariants as job
use Rattle.k_top_answers.specs.declared.answer.Answer.{Answer}
use Rattle.k_top_answers.specs.declared.failure.Failure.{Failure}
use Rattle.k_top_answers.specs.declared.failure.Failure.TheVariants as why
use Rattle.k_top_lemmas.specs.declared.program.Program.{Program}
use Rattle.k_top_lemmas.specs.declared.running.Ready.{Ready}
use Rattle.k_top_answers.specs.Answers.{AnswersJob, CallsForFiles, CallsForInput, FilesCall, IsAnswer, JobCalls, JobLoads, refusal}
use Rattle.k_top_answers.specs.Clauses.{MayGive}
use Rattle.k_top_answers.specs.Failures.{status_of}
use Rattle.k_top_lemmas.specs.Parts.{IfRefusal, running_of}
use Rattle.k_top_answers.specs.Requests.{AreToLoad, EndsWith, IsFront, files_of, loads_of}
use Rattle.k_top_answers.specs.Steps.{AnswersProgram, AnswersRunning, Outside, input_limit}

-- what was seen of a file: its name, and its content, where it has some
pub record Seen : Type 0 where
  pub name : List ℕ
  pub content : Option (List ℕ)

-- what was seen outside: files, and the input, where it was read
pub record View : Type 0 where
  pub files : List Seen
  pub input : Option (List ℕ)

-- the files hold what was seen of them
abbrev pub Hold : (List ℕ → Option (List ℕ)) → List Seen → Type 0
Hold held [] = Unit {0}
Hold held (s ∷ files) = (held s.name ≡ s.content) × Hold held files

-- the outside holds what was seen
pub record Shows (outside : Outside) (view : View) : Type 0 where
  pub files : Hold outside.files view.files
  pub input : MayGive view.input outside.input

-- what is known of files and input
pub record Around : Type 0 where
  pub files : FilesState
  pub input : SourceState

-- the name is that of none of these
abbrev pub IsNew : List ℕ → List Seen → Type 0
IsNew name [] = Unit {0}
IsNew name (s ∷ files) = (s.name ≢ name) × IsNew name files

-- what was seen agrees with what files tell, and has each name once
abbrev pub AreTold : Option (List ℕ → Option (List ℕ)) → List Seen → Type 0
AreTold held [] = Unit {0}
AreTold held (s ∷ files) = Has held s.name s.content × IsNew s.name files × AreTold held files

-- the input that was seen is what the input tells
abbrev pub IsToldInput : Option (List ℕ) → Option (List ℕ) → Type 0
IsToldInput None seen = Unit {0}
IsToldInput (Some told) None = Unit {0}
IsToldInput (Some told) (Some seen) = told ≡ seen

-- what was seen agrees with what the outside tells
pub record IsView (view : View) (old : Around) : Type 0 where
  pub files : AreTold old.files.held view.files
  pub input : IsToldInput old.input.left view.input

-- this is so in every outside that holds what was seen
abbrev pub Everywhere : View → (Outside → Type 0) → Type 0
Everywhere view is = (outside : Outside) → Shows outside view → is outside

-- nothing was seen
abbrev pub no_view : View
no_view = record { files = []; input = None }

-- only files were seen
abbrev pub of_files : List Seen → View
of_files files = record { files = files; input = None }

-- what a failure leaves of the files, where they were only read by these requests
abbrev pub FilesAfter : Failure → List Request → FilesState → FilesState → Type 0
FilesAfter (why.Absent file) made old new =
    Rose old.counts.misses new.counts.misses
    × (new ≡ record old { counts = record old.counts { misses = new.counts.misses }; requests = old.requests ++ made })
FilesAfter (why.FileLong file) made old new =
    Rose old.counts.longs new.counts.longs
    × (new ≡ record old { counts = record old.counts { longs = new.counts.longs }; requests = old.requests ++ made })
FilesAfter why.ReadFault made old new =
    Rose old.counts.load_faults new.counts.load_faults
    × (new ≡ record old { counts = record old.counts { load_faults = new.counts.load_faults }; requests = old.requests ++ made })
FilesAfter why.InputLong made old new = ⊥
FilesAfter why.WriteFault made old new = ⊥
FilesAfter (why.Trapped trap place) made old new = ⊥
FilesAfter (why.OutOfSteps steps) made old new = ⊥
FilesAfter failure made old new = new ≡ after made old

-- of the files to load, a failure comes behind these requests
abbrev pub Stops : Failure → List Request → List Request → Type 0
Stops (why.Absent file) loads made = IsFront made loads × EndsWith file made
Stops (why.FileLong file) loads made = IsFront made loads × EndsWith file made
Stops (why.SavedIn file place) loads made = IsFront made loads × EndsWith file made
Stops (why.OtherProgram file) loads made = IsFront made loads × EndsWith file made
Stops (why.SumLarge file) loads made = IsFront made loads × EndsWith file made
Stops why.ReadFault loads made = IsFront made loads × (made ≢ [])
Stops why.NoMemory loads made = IsFront made loads
Stops failure loads made = made ≡ loads

-- what a failure leaves of the files, of which these were to be loaded
abbrev pub LoadsStop : Failure → List Request → FilesState → FilesState → Type 0
LoadsStop failure loads old new = (made : List Request) × Stops failure loads made × FilesAfter failure made old new

-- what reading the two files of a program comes to, where this was seen of them
abbrev pub ProgramSeen : Result Program Failure → List Seen → List ℕ → Option (List ℕ) → FilesState → FilesState → Type 0
ProgramSeen (Ok p) files file latency old new =
    (new ≡ after (files_of file latency) old) × Everywhere (of_files files)
    (λ outside. AnswersProgram (λ failure. ⊥) outside file latency (λ latencies typed. (latencies ≡ p.latencies) × (typed ≡ p.typed)))
    × Everywhere (of_files files) (λ outside. outside.files file ≡ Some p.source)
ProgramSeen (Err failure) files file latency old new =
    LoadsStop failure (files_of file latency) old new × IfRefusal failure (Everywhere (of_files files)
    (λ outside. AnswersProgram (λ other. other ≡ failure) outside file latency (λ latencies typed. ⊥)))

-- what reading the two files of a program comes to
abbrev pub ReadsProgram : Result Program Failure → List ℕ → Option (List ℕ) → FilesState → FilesState → Type 0
ReadsProgram result file latency old new = (files : List Seen) × AreTold old.held files × ProgramSeen result files file latency old new

-- what a failure leaves of the input that was being read: its end was not told, or once where memory was wanting behind it
abbrev pub InputAfter : Failure → SourceState → SourceState → Type 0
InputAfter why.ReadFault old new = DrawsWithin input_limit old new × Rose old.faults new.faults × (new.ended ≡ old.ended)
InputAfter why.InputLong old new = DrawsTooMany input_limit old new × (new.faults ≡ old.faults) × (new.ended ≡ old.ended)
InputAfter why.NoMemory old new = DrawsWithin input_limit old new × (new.faults ≡ old.faults) × (new.ended ≤ old.ended + 1)
InputAfter failure old new = ⊥

-- the failure asks nothing of the outside
abbrev pub IsQuiet : Failure → Type 0
IsQuiet (why.Lex fault) = Unit {0}
IsQuiet (why.Parse fault) = Unit {0}
IsQuiet (why.Types fault) = Unit {0}
IsQuiet (why.Usage fault) = Unit {0}
IsQuiet why.NoMemory = Unit {0}
IsQuiet failure = ⊥

-- all files were loaded that are to be
abbrev pub LoadsAll : (List Request → Type 0) → FilesState → FilesState → Type 0
LoadsAll named old new = (loads : List Request) × named loads × (new ≡ after loads old)

-- WHAT A FAILURE LEAVES of files and input before anything is put: files were read, as `loads` says, of those that are `named`; or all of them were, and
-- then the input, which is asked for in every outside that holds what was seen; or nothing was asked of the outside
abbrev pub FailsBefore : Failure → Type 0 → (List Request → Type 0) → (Outside → Type 0) → View → Around → Around → Type 0
FailsBefore failure loads named calls view old new =
    (loads × ((all : List Request) × named all × LoadsStop failure all old.files new.files) × (new.input ≡ old.input))
    ⊎ (Everywhere view calls × LoadsAll named old.files new.files × InputAfter failure old.input new.input)
    ⊎ (IsQuiet failure × IfRefusal failure (named []) × (new ≡ old))

-- the input was read to its end, where it is asked for, and is else as it was
abbrev pub InputDone : (Outside → Type 0) → View → SourceState → SourceState → Type 0
InputDone calls view old new =
    ((new ≡ old) × Everywhere view (λ outside. ¬ calls outside))
    ⊎ ((bytes : Vec ℕ Global) × (view.input ≡ Some bytes.items) × Everywhere view calls × ReadsAll (Ok bytes) input_limit old new)

-- what making a program ready to run comes to, where this was seen
abbrev pub ReadySeen : Result Ready Failure → View → List ℕ → Option (List ℕ) → ℕ → Around → Around → Type 0
ReadySeen (Ok r) view file latency steps old new =
    (new.files ≡ after (files_of file latency) old.files) × InputDone (λ outside. FilesCall outside file latency) view old.input new.input
    × Everywhere view (λ outside. AnswersRunning (λ failure. ⊥) outside file latency steps (λ running. running ≡ running_of r))
    × Everywhere view (λ outside. outside.files file ≡ Some r.program.source)
ReadySeen (Err failure) view file latency steps old new =
    FailsBefore failure (Unit {0}) (λ loads. loads ≡ files_of file latency) (λ outside. FilesCall outside file latency) view old new
    × IfRefusal failure (Everywhere view (λ outside. AnswersRunning (λ other. other ≡ failure) outside file latency steps (λ running. ⊥)))

-- what making a program ready to run comes to
abbrev pub MakesReady : Result Ready Failure → List ℕ → Option (List ℕ) → ℕ → Around → Around → Type 0
MakesReady result file latency steps old new = (view : View) × IsView view old × ReadySeen result view file latency steps old new

-- the status of the answer is that of something that was done, of a run's end or of a source that was checked; and it saves nothing where it failed
pub record IsEnd (answer : Answer) : Type 0 where
  pub low : status_of answer.failure ≤ 3
  pub saves : (answer.failure ≡ None) ⊎ (answer.saved ≡ None)

-- what finding an answer comes to, where this was seen: an answer that is no refusal, or a failure before anything was put
abbrev pub AnswerSeen : Result Answer Failure → Type 0 → (List Request → Type 0) → (Outside → Type 0) → (Outside → Answer → Type 0)
    → View → Around → Around → Type 0
AnswerSeen (Ok answer) loads named calls answers view old new =
    LoadsAll named old.files new.files × InputDone calls view old.input new.input × IsEnd answer × Everywhere view (λ outside. answers outside answer)
AnswerSeen (Err failure) loads named calls answers view old new =
    FailsBefore failure loads named calls view old new × IfRefusal failure (Everywhere view (λ outside. answers outside (refusal failure)))

-- what finding the answer to a job comes to
abbrev pub FindsJob : Result Answer Failure → Job → Around → Around → Type 0
FindsJob result asked old new =
    (view : View) × IsView view old
    × AnswerSeen result (JobLoads asked) (λ loads. loads ≡ loads_of asked) (λ outside. JobCalls outside asked) (λ outside answer. AnswersJob outside answer asked) view old new

-- what finding the answer to the words comes to
abbrev pub FindsAnswer : Result Answer Failure → List (List ℕ) → Around → Around → Type 0
FindsAnswer result words old new =
    (view : View) × IsView view old × AnswerSeen result (CallsForFiles words) (AreToLoad words) (CallsForInput words) (IsAnswer words) view old new

-- what the answer of `demo` comes to: it asks nothing of the outside
abbrev pub MakesDemo : Result Answer Failure → ℕ → ℕ → Type 0
MakesDemo (Ok answer) number loops = IsEnd answer × ((outside : Outside) → AnswersJob outside answer (job.Demo number loops))
MakesDemo (Err failure) number loops = IsQuiet failure × IfRefusal failure ((outside : Outside) → AnswersJob outside (refusal failure) (job.Demo number loops))
