-- Believed with the theorem on the top call.
-- THE THEOREM on `kremlin`: each clause is one sentence.
use Rattle.std.specs.Prelude.{ℕ, ◌≡◌, ◌≢◌, ◌+◌, ◌≤◌, ◌⊎◌, ◌||◌, ◌==◌, Bool, false, IsSome, List, [], ◌++◌, Option, Some, None}
use Rattle.std.specs.Io.KnownBytes.{IsAtEnd}
use Rattle.k_edge.specs.Fault.{Rose}
use Rattle.k_edge.specs.FilesWords.{Counts, FilesState, Has, KeepsOthers}
use Rattle.k_edge.specs.declared.request.Request.{Request}
use Rattle.k_edge.specs.ReadAll.{Draws, DrawsTooMany, DrawsWithin}
use Rattle.k_edge.specs.SinkWords.{SinkState, Grows, GrowsInPart}
use Rattle.k_edge.specs.SourceWords.{SourceState, one_more}
use Rattle.k_top_answers.specs.declared.answer.Answer.{Answer}
use Rattle.k_top_answers.specs.declared.answer.SavedFile.{SavedFile}
use Rattle.k_top_answers.specs.declared.failure.Failure.{Failure}
use Rattle.k_top_answers.specs.declared.failure.Failure.TheVariants as why
use Rattle.k_top_answers.specs.Answers.{CallsForFiles, CallsForInput, IsAnswer}
use Rattle.k_top_answers.specs.Failures.{err_text, failure_line, status_of}
use Rattle.k_top_answers.specs.Requests.{AreMade, AreToLoad, EndsAt, IsFront, saves_of}
use Rattle.k_top_answers.specs.Steps.{Outside, input_limit}

-- what is known of all that lies outside the call
pub record World : Type 0 where
  pub files : FilesState
  pub input : SourceState
  pub out : SinkState
  pub err : SinkState

-- the files hold what they tell, and anything where they don't tell
abbrev pub MayHold : Option (List ℕ → Option (List ℕ)) → (List ℕ → Option (List ℕ)) → Type 0
MayHold None held = Unit {0}
MayHold (Some told) held = told ≡ held

-- the input holds what it tells, and anything where it doesn't tell
abbrev pub MayGive : Option (List ℕ) → List ℕ → Type 0
MayGive None bytes = Unit {0}
MayGive (Some told) bytes = told ≡ bytes

-- this is what the outside may hold before the call
pub record Fits (outside : Outside) (old : World) : Type 0 where
  pub files : MayHold old.files.held outside.files
  pub input : MayGive old.input.left outside.input

-- how often each thing went wrong outside, but for err
pub record Faults : Type 0 where
  pub files : Counts
  pub reads : ℕ
  pub puts : ℕ

-- these counts
abbrev pub faults_of : World → Faults
faults_of w = record { files = w.files.counts; reads = w.input.faults; puts = w.out.faults }

-- what may go wrong outside
pub data Cause : Type 0 where
  nothing : Cause
  miss : Cause
  long : Cause
  load_fault : Cause
  read_fault : Cause
  put_fault : Cause
  save_fault : Cause

-- the count of the cause rose, and every other one is as before
abbrev pub RoseAlone : Cause → Faults → Faults → Type 0
RoseAlone nothing old new = new ≡ old
RoseAlone miss old new =
    Rose old.files.misses new.files.misses × (new ≡ record old { files = record old.files { misses = new.files.misses } })
RoseAlone long old new =
    Rose old.files.longs new.files.longs × (new ≡ record old { files = record old.files { longs = new.files.longs } })
RoseAlone load_fault old new =
    Rose old.files.load_faults new.files.load_faults × (new ≡ record old { files = record old.files { load_faults = new.files.load_faults } })
RoseAlone read_fault old new = Rose old.reads new.reads × (new ≡ record old { reads = new.reads })
RoseAlone put_fault old new = Rose old.puts new.puts × (new ≡ record old { puts = new.puts })
RoseAlone save_fault old new =
    Rose old.files.save_faults new.files.save_faults × (new ≡ record old { files = record old.files { save_faults = new.files.save_faults } })

-- the status is one that blames the outside
abbrev pub is_blame : ℕ → Bool
is_blame status = (status == 5) || ((status == 6) || ((status == 7) || (status == 12)))

-- the status is this one, or that of want of memory
abbrev pub IsOr8 : ℕ → ℕ → Type 0
IsOr8 given status = (status ≡ given) ⊎ (status ≡ 8)

-- the status blames this cause: it is the cause's, or that of want of memory
abbrev pub BlamedBy : Cause → ℕ → Type 0
BlamedBy nothing status = is_blame status ≡ false
BlamedBy miss status = IsOr8 5 status
BlamedBy long status = IsOr8 12 status
BlamedBy load_fault status = IsOr8 6 status
BlamedBy read_fault status = IsOr8 6 status
BlamedBy put_fault status = IsOr8 7 status
BlamedBy save_fault status = IsOr8 7 status

-- BLAMES. At most one count rose, and the status blames that one; where none rose it blames none
pub record Blames (cause : Cause) (status : ℕ) (old new : Faults) : Type 0 where
  pub rose : RoseAlone cause old new
  pub blamed : BlamedBy cause status

-- ASKED. What went wrong had been asked for: a name that is not held, or too long, decides the answer; a load that failed was one of a job that
-- reads files; a put that failed was of an answer that has bytes, and a save that failed of one that saves a file
abbrev pub WasAskedFor : Cause → List (List ℕ) → (Answer → Type 0) → Type 0
WasAskedFor nothing words answers = Unit {0}
WasAskedFor miss words answers = (answer : Answer) → answers answer → status_of answer.failure ≡ 5
WasAskedFor long words answers = (answer : Answer) → answers answer → status_of answer.failure ≡ 12
WasAskedFor load_fault words answers = CallsForFiles words
WasAskedFor read_fault words answers = Unit {0}
WasAskedFor put_fault words answers = (answer : Answer) → answers answer → answer.out ≢ []
WasAskedFor save_fault words answers = (answer : Answer) → answers answer → IsSome answer.saved

-- err has grown by a prefix of a text, and by the whole text where its count of faults did not rise
pub record Told (text : List ℕ) (old new : SinkState) : Type 0 where
  pub part : GrowsInPart old.written text new.written
  pub whole : (Rose old.faults new.faults → ⊥) → Grows old.written text new.written

-- nothing was told on err, or the line of a failure, and behind it what more is told of that: `check` alone tells more of a source than its line
abbrev pub TellsEnd : Option Failure → Option (List ℕ) → SinkState → SinkState → Type 0
TellsEnd None more old new = new ≡ old
TellsEnd (Some failure) more old new = Told (err_text failure more) old new

-- the files are as before, or one of them has new content
abbrev pub HoldsAfter : Option SavedFile → FilesState → FilesState → Type 0
HoldsAfter None old new = new.held ≡ old.held
HoldsAfter (Some file) old new = KeepsOthers old.held file.name new.held × Has new.held file.name (Some file.bytes)

-- the status is that of an answer, out has grown by its bytes, its failure was told on err, and the files are those after it
pub record IsGiven (answers : Answer → Type 0) (status : ℕ) (old new : World) : Type 0 where
  pub answer : Answer
  pub is_answer : answers answer
  pub status_is : status ≡ status_of answer.failure
  pub grows : Grows old.out.written answer.out new.out.written
  pub told : TellsEnd answer.failure answer.more old.err new.err
  pub files : HoldsAfter answer.saved old.files new.files

-- ANSWERED. On every status but 6, 7 and 8 the whole answer was given
abbrev pub IsAnswered : (Answer → Type 0) → ℕ → World → World → Type 0
IsAnswered answers status old new = (status ≡ 6) ⊎ (status ≡ 7) ⊎ (status ≡ 8) ⊎ IsGiven answers status old new

-- PART. What was put on out is a prefix of the answer's bytes: all of them where the save failed, and nothing where what failed came before
abbrev pub PutsPart : Cause → (Answer → Type 0) → SinkState → SinkState → Type 0
PutsPart nothing answers old new = (answer : Answer) → answers answer → GrowsInPart old.written answer.out new.written
PutsPart miss answers old new = new.written ≡ old.written
PutsPart long answers old new = new.written ≡ old.written
PutsPart load_fault answers old new = new.written ≡ old.written
PutsPart read_fault answers old new = new.written ≡ old.written
PutsPart put_fault answers old new = (answer : Answer) → answers answer → GrowsInPart old.written answer.out new.written
PutsPart save_fault answers old new = (answer : Answer) → answers answer → Grows old.written answer.out new.written

-- FILES. No file changes but on status 0: where a save failed, its file is as it was
abbrev pub KeepsFiles : ℕ → FilesState → FilesState → Type 0
KeepsFiles status old new = (status ≡ 0) ⊎ (new.held ≡ old.held)

-- how far the requests went: as far as those of the answer, unless no memory was found; to a file that is missing or too long, or to a load that
-- failed; through the loads where the input was not read or the output not put; and through the save where that failed
abbrev pub GoesFar : Cause → ℕ → (Answer → Type 0) → List Request → List Request → Type 0
GoesFar nothing status answers loads made =
    (answer : Answer) → answers answer → IsFront made (loads ++ saves_of answer.saved)
    × (status ≢ 8 → AreMade answer.failure (loads ++ saves_of answer.saved) made)
GoesFar miss status answers loads made = IsFront made loads × ((answer : Answer) → answers answer → EndsAt answer.failure made)
GoesFar long status answers loads made = IsFront made loads × ((answer : Answer) → answers answer → EndsAt answer.failure made)
GoesFar load_fault status answers loads made = IsFront made loads × (made ≢ [])
GoesFar read_fault status answers loads made = made ≡ loads
GoesFar put_fault status answers loads made = made ≡ loads
GoesFar save_fault status answers loads made = (answer : Answer) → answers answer → made ≡ loads ++ saves_of answer.saved

-- REQUESTS. The call asked the files for a front of what the words have loaded and the answer saves, in order and each once: for all of it, unless
-- something went wrong outside, no memory was found, or a file was refused whose runs were to be put to others
pub record AsksFiles (words : List (List ℕ)) (cause : Cause) (status : ℕ) (answers : Answer → Type 0) (old new : FilesState) : Type 0 where
  -- what the words have loaded
  pub loads : List Request
  pub named : AreToLoad words loads
  -- what the call asked for
  pub made : List Request
  pub asked : new.requests ≡ old.requests ++ made
  pub far : GoesFar cause status answers loads made

-- the run came to its end, and its output was put, in whole or in part
abbrev pub HasRun : ℕ → Type 0
HasRun status = (status ≡ 0) ⊎ (status ≡ 1) ⊎ (status ≡ 2) ⊎ (status ≡ 7)

-- how far the input was read where it was asked for: to its end where the program ran, which was told once, and never further than one byte
-- beyond the limit, which is taken exactly where the input is answered to be too long; there the end was not told, and never was it told twice
pub record ReadsFar (bytes : List ℕ) (status : ℕ) (old new : SourceState) : Type 0 where
  pub within : DrawsWithin (input_limit + 1) old new
  pub whole : HasRun status → Draws bytes old new × IsAtEnd new.left × (new.ended ≡ one_more old.ended)
  pub cut : status ≡ 9 → DrawsTooMany input_limit old new × (new.ended ≡ old.ended)
  pub once : new.ended ≤ old.ended + 1
  pub too_long : new.taken ≡ old.taken + (input_limit + 1) → IsOr8 9 status

-- INPUT. It is as before, unless the words run an accepted program that calls `getchar`; there it was read
pub record ReadsInput (words : List (List ℕ)) (outside : Outside) (status : ℕ) (old new : SourceState) : Type 0 where
  pub untouched : (new ≡ old) ⊎ CallsForInput words outside
  pub read : CallsForInput words outside → ReadsFar outside.input status old new

-- TOLD. With status 6 and 7 the line of that fault was told on err, with 8 a prefix of the line of want of memory
pub record TellsFault (status : ℕ) (old new : SinkState) : Type 0 where
  pub read_fault : status ≡ 6 → Told (failure_line why.ReadFault) old new
  pub write_fault : status ≡ 7 → Told (failure_line why.WriteFault) old new
  pub no_memory : status ≡ 8 → GrowsInPart old.written (failure_line why.NoMemory) new.written

-- THE THEOREM. There is something that the outside may hold, and something that went wrong there, if anything did, of which all clauses speak.
pub record Keeps (words : List (List ℕ)) (status : ℕ) (old new : World) : Type 0 where
  pub outside : Outside
  pub cause : Cause
  pub fits : Fits outside old
  pub blames : Blames cause status (faults_of old) (faults_of new)
  pub asked : WasAskedFor cause words (IsAnswer words outside)
  pub answered : IsAnswered (IsAnswer words outside) status old new
  pub part : PutsPart cause (IsAnswer words outside) old.out new.out
  pub files : KeepsFiles status old.files new.files
  pub requests : AsksFiles words cause status (IsAnswer words outside) old.files new.files
  pub input : ReadsInput words outside status old.input new.input
  pub told : TellsFault status old.err new.err
