-- For contracts between crates: nobody has to believe it.
-- What finding an answer comes to where its first bytes are put while it is found. The theorem on `kremlin` speaks of none of this.
use Rattle.std.specs.Prelude.{ℕ, ⊤, ◌≡◌, ◌⊎◌, [], ◌++◌, Bool, List, Option, Result, Ok, Err}
use Rattle.k_edge.specs.Fault.{Rose}
use Rattle.k_edge.specs.FilesWords.{FilesState}
use Rattle.k_edge.specs.SinkWords.{SinkState}
use Rattle.k_edge.specs.declared.request.Request.{Request}
use Rattle.k_edge.specs.declared.sink.PutFault.{PutFault}
use Rattle.k_edge.specs.declared.sink.PutFault.TheVariants as put
use Rattle.k_words.specs.declared.job.Job.{Job}
use Rattle.k_top_answers.specs.declared.answer.Answer.{Answer}
use Rattle.k_top_answers.specs.declared.failure.Failure.{Failure}
use Rattle.k_top_answers.specs.Answers.{AnswersJob, AnswersRun, CallsForInput, IsAnswer, JobCalls}
use Rattle.k_top_answers.specs.Failures.{failure_of_put}
use Rattle.k_top_answers.specs.Requests.{AreToLoad, loads_of}
use Rattle.k_top_answers.specs.Steps.{Outside, Running, run_of}
use Rattle.k_top_lemmas.specs.declared.ending.Ending.{Ending}
use Rattle.k_top_lemmas.specs.Parts.{Delivers, EndsAs, PutsAll, failed}
use Rattle.k_top_lemmas.specs.Phases.{Around, Everywhere, FindsAnswer, FindsJob, InputDone, IsView, LoadsAll, View}

-- the answer that puts these bytes before those of another
abbrev pub behind : List ℕ → Answer → Answer
behind first answer = record answer { out = first ++ answer.out }

-- some output was put, and the rest is held: its last byte is in the rest
pub record IsSplit (first rest output : List ℕ) : Type 0 where
  pub whole : first ++ rest ≡ output
  pub last : rest ≡ [] → first ≡ []

-- what a put that was given up leaves of the count of faults
abbrev pub IsCounted : PutFault → SinkState → SinkState → Type 0
IsCounted put.Failed old new = Rose old.faults new.faults
IsCounted put.Memory old new = new.faults ≡ old.faults

-- A RUN IS GIVEN UP while its output is put: its files were loaded, its input was done with, and the output was put as far as any answer's bytes
-- would have been
abbrev pub GivesUp : Failure → (List Request → Type 0) → (Outside → Type 0) → (Outside → Answer → Type 0) → View → Around → Around → SinkState → SinkState → Type 0
GivesUp failure named calls answers view old new out out' =
    (fault : PutFault) × (failure ≡ failure_of_put fault) × IsCounted fault out out' × LoadsAll named old.files new.files
    × InputDone calls view old.input new.input × Everywhere view (λ outside. (answer : Answer) → answers outside answer → PutsAll (Err fault) answer.out out out')

-- what finding the rest of the answer of `run` comes to, where the run puts its output
abbrev pub StreamsRun : Result Answer Failure → ℕ → Bool → Option (List ℕ) → Running → SinkState → SinkState → Type 0
StreamsRun (Ok answer) depth dict save r out out' =
    (first : List ℕ) × PutsAll (Ok tt) first out out' × AnswersRun depth dict save (behind first answer) r (run_of r).end
StreamsRun (Err failure) depth dict save r out out' = (fault : PutFault) × (failure ≡ failure_of_put fault) × PutsAll (Err fault) (run_of r).output out out'

-- what finding the rest of the answer to a job comes to
abbrev pub StreamsJob : Result Answer Failure → Job → Around → Around → SinkState → SinkState → Type 0
StreamsJob (Ok answer) asked old new out out' = (first : List ℕ) × PutsAll (Ok tt) first out out' × FindsJob (Ok (behind first answer)) asked old new
StreamsJob (Err failure) asked old new out out' =
    (FindsJob (Err failure) asked old new × (out' ≡ out))
    ⊎ ((view : View) × IsView view old × GivesUp failure (λ loads. loads ≡ loads_of asked) (λ outside. JobCalls outside asked)
    (λ outside answer. AnswersJob outside answer asked) view old new out out')

-- what finding the rest of the answer to the words comes to
abbrev pub StreamsAnswer : Result Answer Failure → List (List ℕ) → Around → Around → SinkState → SinkState → Type 0
StreamsAnswer (Ok answer) words old new out out' = (first : List ℕ) × PutsAll (Ok tt) first out out' × FindsAnswer (Ok (behind first answer)) words old new
StreamsAnswer (Err failure) words old new out out' =
    (FindsAnswer (Err failure) words old new × (out' ≡ out))
    ⊎ ((view : View) × IsView view old × GivesUp failure (AreToLoad words) (CallsForInput words) (IsAnswer words) view old new out out')

-- what the whole call comes to, but for err: an answer is found and its rest delivered, or none is found
abbrev pub Performs : Ending → List (List ℕ) → Around → Around → SinkState → SinkState → Type 0
Performs ending words old new out out' =
    ((failure : Failure) × (ending ≡ failed failure) × StreamsAnswer (Err failure) words old new out out')
    ⊎ ((answer : Answer) × (delivered : Result ⊤ Failure) × (mid : FilesState) × (out_mid : SinkState)
    × StreamsAnswer (Ok answer) words old (record { files = mid; input = new.input }) out out_mid
    × Delivers delivered answer mid new.files out_mid out' × EndsAs ending delivered answer)
