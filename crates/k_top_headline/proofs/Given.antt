-- Where nothing failed outside, and memory sufficed, the whole answer was given, which is the answer to the job that the words ask for.
use Rattle.std.proofs.Common.{ℕ, ◌≡◌, ◌≢◌, false, refl, ap, sym, subst, List, [], ◌∷◌, Option, Some, None, option_and_then, Result, Ok, Err, inl, inr}
use Rattle.std.proofs.lemmas.Bool.{true≢false}
use Rattle.std.proofs.lemmas.Option.{none-some}
use Rattle.k_words.proofs.OneAnswer.{answer_is_unique}
use Rattle.k_words.specs.About.{asked_for}
use Rattle.k_words.specs.Words as words
use Rattle.k_words.specs.declared.about.Asked.{Asked}
use Rattle.k_words.specs.declared.job.Job.{Job}
use Rattle.k_words.specs.declared.option.Command.{Command}
use Rattle.k_words.specs.declared.option.Command.TheVariants as command
use Rattle.k_words.specs.declared.usage.Usage.{Usage}
use Rattle.k_words.specs.declared.usage.Usage.TheVariants as usage
use Rattle.k_top_answers.specs.declared.answer.Answer.{Answer}
use Rattle.k_top_answers.specs.Answers.{AnswersAsked, AnswersJob, AnswersWords, IsAnswer}
use Rattle.k_top_answers.specs.Clauses.{Blames, BlamedBy, Cause, IsAnswered, IsGiven, Keeps, RoseAlone, World, faults_of, is_blame}
use Rattle.k_top_answers.specs.Clauses as cause
use Rattle.k_top_answers.specs.Steps.{Outside}
use Rattle.k_top_headline.specs.Headline.{NothingFailed, WentWell}

-- the status blames nothing
blames_nothing : (status : ℕ) (old new : World) → NothingFailed old new → (c : Cause) → RoseAlone c (faults_of old) (faults_of new) → BlamedBy c status → is_blame status ≡ false
blames_nothing status old new well cause.nothing rose blamed = blamed
blames_nothing status old new well cause.miss rose blamed = absurd (well.misses rose.0)
blames_nothing status old new well cause.long rose blamed = absurd (well.longs rose.0)
blames_nothing status old new well cause.load_fault rose blamed = absurd (well.loads rose.0)
blames_nothing status old new well cause.read_fault rose blamed = absurd (well.reads rose.0)
blames_nothing status old new well cause.put_fault rose blamed = absurd (well.puts rose.0)
blames_nothing status old new well cause.save_fault rose blamed = absurd (well.saves rose.0)

-- all counts of faults are as before
pub faults_stay : (old new : World) → NothingFailed old new → (c : Cause) → RoseAlone c (faults_of old) (faults_of new) → faults_of new ≡ faults_of old
faults_stay old new well cause.nothing rose = rose
faults_stay old new well cause.miss rose = absurd (well.misses rose.0)
faults_stay old new well cause.long rose = absurd (well.longs rose.0)
faults_stay old new well cause.load_fault rose = absurd (well.loads rose.0)
faults_stay old new well cause.read_fault rose = absurd (well.reads rose.0)
faults_stay old new well cause.put_fault rose = absurd (well.puts rose.0)
faults_stay old new well cause.save_fault rose = absurd (well.saves rose.0)

-- so the whole answer was given
given : (answers : Answer → Type 0) (status : ℕ) (old new : World) → is_blame status ≡ false → status ≢ 8 → IsAnswered answers status old new → IsGiven answers status old new
given answers status old new blameless memory (inl is) = absurd (true≢false (subst (λ (s : ℕ). is_blame s ≡ false) is blameless))
given answers status old new blameless memory (inr (inl is)) = absurd (true≢false (subst (λ (s : ℕ). is_blame s ≡ false) is blameless))
given answers status old new blameless memory (inr (inr (inl is))) = absurd (memory is)
given answers status old new blameless memory (inr (inr (inr is))) = is

whole_given : (answers : Answer → Type 0) (c : Cause) (status : ℕ) (old new : World) → Blames c status (faults_of old) (faults_of new) → NothingFailed old new → status ≢ 8
    → IsAnswered answers status old new → IsGiven answers status old new
whole_given answers c status old new blames well memory is =
    given answers status old new (blames_nothing status old new well c blames.rose blames.blamed) memory is

-- one word asks for no job
one_word : (c : Option Command) (j : Job) → option_and_then (words.job_with []) c ≡ Some j → ⊥
one_word None j is = none-some j is
one_word (Some command.Run) j is = none-some j is
one_word (Some command.Graph) j is = none-some j is
one_word (Some command.Carried) j is = none-some j is
one_word (Some command.Replay) j is = none-some j is
one_word (Some command.Page) j is = none-some j is
one_word (Some command.Annotate) j is = none-some j is
one_word (Some command.Show) j is = none-some j is
one_word (Some command.Merge) j is = none-some j is
one_word (Some command.Check) j is = none-some j is
one_word (Some command.Demo) j is = none-some j is

-- so words that ask for a job ask for no text on the program itself
asks_for_none : (list : List (List ℕ)) (j : Job) → words.IsAnswer list (Ok j) → asked_for list ≡ None
asks_for_none [] j is = refl
asks_for_none (word ∷ []) j is = absurd (one_word (words.command_of word) j is.1)
asks_for_none (word ∷ more ∷ list) j is = refl

-- an answer is of no want of memory
not_memory : (outside : Outside) (answer : Answer) (x : Result Job Usage) → AnswersWords outside answer x → x ≡ Err usage.Memory → ⊥
not_memory outside answer x holds is = subst (λ (r : Result Job Usage). AnswersWords outside answer r) is holds

-- a result is given
abbrev IsGood : Result Job Usage → Type 0
IsGood (Ok j) = Unit {0}
IsGood (Err fault) = ⊥

not_refused : (j : Job) → Ok j ≡ Err usage.Memory → ⊥
not_refused j is = subst IsGood is tt

-- a job, or this one where there is none
abbrev job_or : Job → Result Job Usage → Job
job_or other (Ok j) = j
job_or other (Err fault) = other

-- words ask for one job
pub one_job : (list : List (List ℕ)) (j k : Job) → words.IsAnswer list (Ok j) → words.IsAnswer list (Ok k) → j ≡ k
one_job list j k one other = ap (job_or j) (answer_is_unique list (Ok j) (Ok k) one other (not_refused j) (not_refused k))

by_words : (outside : Outside) (list : List (List ℕ)) (answer : Answer) (j : Job) → words.IsAnswer list (Ok j) → AnswersAsked list outside answer None → AnswersJob outside answer j
by_words outside list answer j is (read, reads, holds) =
    let same : read ≡ Ok j = answer_is_unique list read (Ok j) reads is (not_memory outside answer read holds) (not_refused j) in
    subst (λ (r : Result Job Usage). AnswersWords outside answer r) same holds

-- the answer to words that ask for a job is that to the job
job_answered : (outside : Outside) (list : List (List ℕ)) (answer : Answer) (j : Job) → words.IsAnswer list (Ok j) → IsAnswer list outside answer → AnswersJob outside answer j
job_answered outside list answer j is holds = by_words outside list answer j is (subst (λ (t : Option Asked). AnswersAsked list outside answer t) (asks_for_none list j is) holds)

-- and an answer to that job is one to the words
pub words_answered : (outside : Outside) (list : List (List ℕ)) (answer : Answer) (j : Job) → words.IsAnswer list (Ok j) → AnswersJob outside answer j → IsAnswer list outside answer
words_answered outside list answer j is holds =
    subst (λ (t : Option Asked). AnswersAsked list outside answer t) (sym (asks_for_none list j is)) (Ok j, is, holds)

-- THE ANSWER to the job was given
pub job_given : (words_are : List (List ℕ)) (j : Job) (status : ℕ) (old new : World) (keeps : Keeps words_are status old new) → WentWell words_are j status old new
    → IsGiven (λ (answer : Answer). AnswersJob keeps.outside answer j) status old new
job_given words_are j status old new keeps is =
    let whole : IsGiven (IsAnswer words_are keeps.outside) status old new =
    whole_given (IsAnswer words_are keeps.outside) keeps.cause status old new keeps.blames is.well is.memory keeps.answered in
    record {
      answer = whole.answer;
      is_answer = job_answered keeps.outside words_are whole.answer j is.asked whole.is_answer;
      status_is = whole.status_is;
      grows = whole.grows;
      told = whole.told;
      files = whole.files;
    }
