-- What holds of each answer: nothing is put on out with status 3 or a higher one, and `check` alone tells more on err than a line.
use Rattle.std.proofs.Common.{ℕ, zero, suc, ◌≡◌, ◌≤◌, ◌⊎◌, refl, ap, arith, subst, ◌∙◌, Bool, List, [], ◌∷◌, Option, Some, None, Result, Ok, Err, inl, inr}
use Rattle.k_ending.specs.declared.ending.End.{End}
use Rattle.k_ending.specs.declared.ending.End.TheVariants as end
use Rattle.k_sum.specs.Sums.{both}
use Rattle.k_sum.specs.declared.sum.Sum.{Sum}
use Rattle.k_types_meaning.specs.declared.tree.unit.TUnit.{TUnit}
use Rattle.k_dict_saved.specs.declared.saved.Saved.{Saved}
use Rattle.k_words.specs.About.{asked_for}
use Rattle.k_words.specs.Words as words
use Rattle.k_words.specs.declared.about.Asked.{Asked}
use Rattle.k_words.specs.declared.about.Asked.TheVariants.{Help, Version}
use Rattle.k_words.specs.declared.job.Form.{Form}
use Rattle.k_words.specs.declared.job.Form.TheVariants as as_form
use Rattle.k_words.specs.declared.job.Job.{Job}
use Rattle.k_words.specs.declared.job.Job.TheVariants as job
use Rattle.k_words.specs.declared.merging.Part.{Part}
use Rattle.k_words.specs.declared.usage.Usage.{Usage}
use Rattle.k_words.specs.declared.usage.Usage.TheVariants as usage
use Rattle.k_top_answers.specs.declared.answer.Answer.{Answer}
use Rattle.k_top_answers.specs.declared.failure.Failure.{Failure}
use Rattle.k_top_answers.specs.Answers.{AnswersAnnotated, AnswersAsked, AnswersCarried, AnswersChecked, AnswersJob, AnswersMade, AnswersPage, AnswersProfile, AnswersReplayed, AnswersRun, AnswersShown, AnswersShownFile, AnswersSumShown, AnswersWords, IsAnnotated, IsListed, IsPaged, checked, done, ended, made_running, refusal}
use Rattle.k_top_answers.specs.Checks.{told}
use Rattle.k_top_answers.specs.Failures.{failure_of_end, status_of}
use Rattle.k_top_answers.specs.Laws.{OthersTellTheirLine, RefusalsPutNothing}
use Rattle.k_top_answers.specs.Merges.{AnswersAdded, AnswersFinished, AnswersFirst, AnswersOthers, AnswersSum, AnswersSumFile, AnswersSumRead, IsMerge}
use Rattle.k_top_answers.specs.Steps.{AnswersFile, AnswersRunning, AnswersSource, Outside, Running, file_limit, profile_limit, run_of}
use Rattle.k_gen.specs.Text.{program}
use Rattle.k_top_lemmas.proofs.Agreeing.{Agree, file_agrees, running_agrees, source_agrees}

-- with status 3 or a higher one nothing is put on out
abbrev PutsNothing : Answer → Type 0
PutsNothing answer = 3 ≤ status_of answer.failure → answer.out ≡ []

-- so it is, and no more than a line is told
record IsPlain (answer : Answer) : Type 0 where
  pub nothing : PutsNothing answer
  pub alone : answer.more ≡ None

-- a run ends with a lower status
low_end : (steps : ℕ) (how : End) → 3 ≤ status_of (failure_of_end steps how) → ⊥
low_end steps (end.Returned exit) low = omega (arith, low)
low_end steps (end.Trapped trap place) low = omega (arith, low)
low_end steps end.OutOfSteps low = omega (arith, low)

module _ (answer : Answer) where
  abbrev fails : Failure → Type 0
  fails failure = answer ≡ refusal failure

  -- a refusal, and an answer that is none
  refused : (failure : Failure) → fails failure → IsPlain answer
  refused failure is = record { nothing = λ low. ap (λ (a : Answer). a.out) is; alone = ap (λ (a : Answer). a.more) is }

  known : (other : Answer) → answer ≡ other → (3 ≤ status_of other.failure → ⊥) → other.more ≡ None → IsPlain answer
  known other is low alone = record {
    nothing = λ three. absurd (low (subst (λ (a : Answer). 3 ≤ status_of a.failure) is three));
    alone = ap (λ (a : Answer). a.more) is ∙ alone;
  }

  is_done : (text : List ℕ) → answer ≡ done text → IsPlain answer
  is_done text is = known (done text) is (λ low. omega (arith, low)) refl

  -- the steps of the call
  by_running : (P : Running → Type 0) → ((r : Running) → P r → IsPlain answer) → (outside : Outside) (file : List ℕ) (latency : Option (List ℕ)) (steps : ℕ)
      → AnswersRunning fails outside file latency steps P → IsPlain answer
  by_running P next outside file latency steps holds = by (running_agrees fails fails P P outside steps file latency holds holds)
    where
      by : Agree {A = Running} fails fails P P → IsPlain answer
      by (inl (failure, is, again)) = refused failure is
      by (inr (r, is, again)) = next r is

  by_file : (P : List ℕ → Type 0) → ((bytes : List ℕ) → P bytes → IsPlain answer) → (outside : Outside) (limit : ℕ) (file : List ℕ)
      → AnswersFile fails outside limit file P → IsPlain answer
  by_file P next outside limit file holds = by (file_agrees fails fails P P outside limit file holds holds)
    where
      by : Agree {A = List ℕ} fails fails P P → IsPlain answer
      by (inl (failure, is, again)) = refused failure is
      by (inr (bytes, is, again)) = next bytes is

  by_source : (P : TUnit → Type 0) → ((typed : TUnit) → P typed → IsPlain answer) → (bytes : List ℕ) → AnswersSource fails P bytes → IsPlain answer
  by_source P next bytes holds = by (source_agrees fails fails P P bytes holds holds)
    where
      by : Agree {A = TUnit} fails fails P P → IsPlain answer
      by (inl (failure, is, again)) = refused failure is
      by (inr (typed, is, again)) = next typed is

  -- the commands that run a program, by how it ended
  ran : (depth : ℕ) (dict : Bool) (save : Option (List ℕ)) (r : Running) (how : End) → AnswersRun depth dict save answer r how → IsPlain answer
  ran depth dict save r (end.Returned exit) is = known _ is.is (λ low. omega (arith, low)) refl
  ran depth dict save r (end.Trapped trap place) is = known _ is (λ low. omega (arith, low)) refl
  ran depth dict save r end.OutOfSteps is = known _ is (λ low. omega (arith, low)) refl

  carried : (depth : ℕ) (storage : Bool) (r : Running) (how : End) → AnswersCarried depth storage answer r how → IsPlain answer
  carried depth storage r (end.Returned exit) is = known _ is.is (λ low. omega (arith, low)) refl
  carried depth storage r (end.Trapped trap place) is = known _ is (λ low. omega (arith, low)) refl
  carried depth storage r end.OutOfSteps is = known _ is (λ low. omega (arith, low)) refl

  replayed : (workers seed : ℕ) (r : Running) (how : End) → AnswersReplayed workers seed answer r how → IsPlain answer
  replayed workers seed r (end.Returned exit) (text, told, is) = is_done text is
  replayed workers seed r (end.Trapped trap place) is = known _ is (λ low. omega (arith, low)) refl
  replayed workers seed r end.OutOfSteps is = known _ is (λ low. omega (arith, low)) refl

  paged : (file source : List ℕ) (depth : ℕ) (dict : Bool) (r : Running) (how : End) → AnswersPage file source depth dict answer r how → IsPlain answer
  paged file source depth dict r (end.Returned exit) (text, page, is) = is_done text is
  paged file source depth dict r (end.Trapped trap place) is = known _ is (λ low. omega (arith, low)) refl
  paged file source depth dict r end.OutOfSteps is = known _ is (λ low. omega (arith, low)) refl

  annotated : (source : List ℕ) (depth : ℕ) (strict : Bool) (r : Running) (how : End) → AnswersAnnotated source depth strict answer r how → IsPlain answer
  annotated source depth strict r (end.Returned exit) is = known _ is.is (λ low. omega (arith, low)) refl
  annotated source depth strict r (end.Trapped trap place) is = known _ is (λ low. omega (arith, low)) refl
  annotated source depth strict r end.OutOfSteps is = known _ is (λ low. omega (arith, low)) refl

  made : (number loops : ℕ) (r : Running) (how : End) → AnswersMade number loops answer r how → IsPlain answer
  made number loops r (end.Returned exit) (text, summary, is) = is_done text is
  made number loops r (end.Trapped trap place) is = known _ is (λ low. omega (arith, low)) refl
  made number loops r end.OutOfSteps is = known _ is (λ low. omega (arith, low)) refl

  -- SHOW
  shown : (form : Form) (bytes : List ℕ) → AnswersShown form answer bytes → IsPlain answer
  shown form bytes (inl (begins, (Ok sum, (reads, (text, told, is))))) = is_done text is
  shown form bytes (inl (begins, (Err place, (reads, is)))) = refused _ is
  shown form bytes (inr (begins_not, (Ok profile, (reads, (text, told, is))))) = is_done text is
  shown form bytes (inr (begins_not, (Err place, (reads, is)))) = refused _ is

  shown_file : (form : Form) (outside : Outside) (file : List ℕ) → AnswersShownFile outside file form answer → IsPlain answer
  shown_file form outside file holds = by_file (AnswersShown form answer) (shown form) outside profile_limit file holds

  -- MERGE
  module _ (save : List ℕ) (outside : Outside) where
    finished : (file : List ℕ) (sum : Sum) → AnswersFinished fails (IsMerge save answer) file sum → IsPlain answer
    finished file sum (inl (not_main, is)) = refused _ is
    finished file sum (inr (inl (main, past, is))) = refused _ is
    finished file sum (inr (inr (main, fits, (ordered, is_ordered, is)))) = known _ is (λ low. omega (arith, low)) refl

    added : (P : Sum → Type 0) → ((sum : Sum) → P sum → IsPlain answer) → (file : List ℕ) (times : ℕ) (sum other : Sum) → AnswersAdded fails file P times sum other → IsPlain answer
    added P next file zero sum other holds = next sum holds
    added P next file (suc times) sum other (inl (differ, is)) = refused _ is
    added P next file (suc times) sum other (inr (inl (same, passes, is))) = refused _ is
    added P next file (suc times) sum other (inr (inr (same, fits, holds))) = added P next file times (both sum other) other holds

    read : (P : Sum → Type 0) → ((sum : Sum) → P sum → IsPlain answer) → (file bytes : List ℕ) (found : Result Sum ℕ) → AnswersSumRead fails file P bytes found → IsPlain answer
    read P next file bytes (Ok sum) (reads, holds) = next sum holds
    read P next file bytes (Err place) (reads, is) = refused _ is

    loaded : (P : Sum → Type 0) → ((sum : Sum) → P sum → IsPlain answer) → (file : List ℕ) → AnswersSumFile fails outside file P → IsPlain answer
    loaded P next file holds =
        by_file (λ bytes. (found : Result Sum ℕ) × AnswersSumRead fails file P bytes found) (λ bytes is. read P next file bytes is.0 is.1) outside profile_limit file holds

    others : (parts : List Part) (file : List ℕ) (sum : Sum) → AnswersOthers fails outside (IsMerge save answer) parts file sum → IsPlain answer
    others [] file sum holds = finished file sum holds
    others (part ∷ parts) file sum holds =
        loaded (AnswersAdded fails part.file (AnswersOthers fails outside (IsMerge save answer) parts part.file) part.times sum)
        (λ more. added (AnswersOthers fails outside (IsMerge save answer) parts part.file) (λ all. others parts part.file all) part.file part.times sum more) part.file holds

    first : (P : Sum → Type 0) → ((sum : Sum) → P sum → IsPlain answer) → (file : List ℕ) (times : ℕ) (sum : Sum) → AnswersFirst fails file P times sum → IsPlain answer
    first P next file zero sum holds = next sum holds
    first P next file (suc times) sum holds = added P next file times sum sum holds

    merged : (parts : List Part) → AnswersSum fails outside (IsMerge save answer) parts → IsPlain answer
    merged [] is = refused _ is
    merged (part ∷ parts) holds =
        loaded (AnswersFirst fails part.file (AnswersOthers fails outside (IsMerge save answer) parts part.file) part.times)
        (λ sum. first (AnswersOthers fails outside (IsMerge save answer) parts part.file) (λ all. others parts part.file all) part.file part.times sum) part.file holds

  -- CHECK puts nothing, whatever the source
  abbrev tells : List ℕ → List ℕ → Failure → Type 0
  tells file bytes failure = answer ≡ checked (told file bytes failure) failure

  checks : (file bytes : List ℕ) → AnswersChecked file answer bytes → answer.out ≡ []
  checks file bytes holds =
      by (source_agrees (tells file bytes) (tells file bytes) (λ typed. answer ≡ done []) (λ typed. answer ≡ done []) bytes holds holds)
    where
      by : Agree {A = TUnit} (tells file bytes) (tells file bytes) (λ typed. answer ≡ done []) (λ typed. answer ≡ done []) → answer.out ≡ []
      by (inl (failure, is, again)) = ap (λ (a : Answer). a.out) is
      by (inr (typed, is, again)) = ap (λ (a : Answer). a.out) is

  loads_checked : (outside : Outside) (file : List ℕ) → AnswersFile fails outside file_limit file (AnswersChecked file answer) → answer.out ≡ []
  loads_checked outside file holds = by (file_agrees fails fails (AnswersChecked file answer) (AnswersChecked file answer) outside file_limit file holds holds)
    where
      by : Agree {A = List ℕ} fails fails (AnswersChecked file answer) (AnswersChecked file answer) → answer.out ≡ []
      by (inl (failure, is, again)) = ap (λ (a : Answer). a.out) is
      by (inr (bytes, is, again)) = checks file bytes is

  -- the answer to a job is plain, or one of `check`, which puts nothing
  abbrev IsRight : Job → Type 0
  IsRight asked = IsPlain answer ⊎ (((file : List ℕ) × (asked ≡ job.Check file)) × (answer.out ≡ []))

  right : (outside : Outside) (asked : Job) → AnswersJob outside answer asked → IsRight asked
  right outside (job.Run file steps depth latency dict save) holds =
      inl (by_running (λ r. AnswersRun depth dict save answer r (run_of r).end) (λ r is. ran depth dict save r (run_of r).end is) outside file latency steps holds)
  right outside (job.Graph file steps depth latency) holds =
      inl (by_running (IsListed depth answer) (λ (r : Running) (is : IsListed depth answer r). known (ended is.text r.steps (run_of r).end) is.is (low_end r.steps (run_of r).end) refl)
      outside file latency steps holds)
  right outside (job.Carried file steps depth latency storage) holds =
      inl (by_running (λ r. AnswersCarried depth storage answer r (run_of r).end) (λ r is. carried depth storage r (run_of r).end is) outside file latency steps holds)
  right outside (job.Replay file steps depth latency workers seed) holds =
      inl (by_running (λ r. AnswersReplayed workers seed answer r (run_of r).end) (λ r is. replayed workers seed r (run_of r).end is) outside file latency steps holds)
  right outside (job.Page file steps depth latency dict) holds =
      inl (by_running (IsPaged outside file depth dict answer) (λ r is. paged file is.0 depth dict r (run_of r).end is.2) outside file latency steps holds)
  right outside (job.Annotate file steps depth latency strict) holds =
      inl (by_running (IsAnnotated outside file depth strict answer) (λ r is. annotated is.0 depth strict r (run_of r).end is.2) outside file latency steps holds)
  right outside (job.Show file dict) holds = inl (shown_file (as_form.Report dict) outside file holds)
  right outside (job.ShowJson file dict) holds = inl (shown_file (as_form.Json dict) outside file holds)
  right outside (job.ShowCsv file) holds = inl (shown_file as_form.Csv outside file holds)
  right outside (job.Merge save parts) holds = inl (merged save outside parts holds)
  right outside (job.Check file) holds = inr ((file, refl), loads_checked outside file holds)
  right outside (job.Demo number loops) holds =
      inl (by_source (λ typed. AnswersMade number loops answer (made_running typed) (run_of (made_running typed)).end) (λ typed is. made number loops (made_running typed) (run_of (made_running typed)).end is) (program number loops) holds)

  -- the answer to words that are read
  right_words : (outside : Outside) (list : List (List ℕ)) (found : Result Job Usage) → words.IsAnswer list found → AnswersWords outside answer found
      → IsPlain answer ⊎ (((file : List ℕ) × words.IsAnswer list (Ok (job.Check file))) × (answer.out ≡ []))
  right_words outside list (Ok asked) reads holds = elim (right outside asked holds) [
    | inl plain ↦ inl plain
    | inr is ↦ inr ((is.0.0, subst (λ (j : Job). words.IsAnswer list (Ok j)) is.0.1 reads), is.1)
  ]
  right_words outside list (Err usage.Memory) reads holds = absurd holds
  right_words outside list (Err usage.NoCommand) reads holds = inl (refused _ holds)
  right_words outside list (Err (usage.UnknownWord index)) reads holds = inl (refused _ holds)
  right_words outside list (Err (usage.BadNumber index)) reads holds = inl (refused _ holds)
  right_words outside list (Err (usage.Twice index)) reads holds = inl (refused _ holds)
  right_words outside list (Err usage.NoFile) reads holds = inl (refused _ holds)

  right_asked : (outside : Outside) (list : List (List ℕ)) (text : Option Asked) → AnswersAsked list outside answer text
      → IsPlain answer ⊎ (((file : List ℕ) × words.IsAnswer list (Ok (job.Check file))) × (answer.out ≡ []))
  right_asked outside list (Some Help) is = inl (is_done _ is)
  right_asked outside list (Some Version) is = inl (is_done _ is)
  right_asked outside list None (found, reads, holds) = right_words outside list found reads holds

pub refusals_put_nothing : RefusalsPutNothing
refusals_put_nothing list outside answer is three = elim (right_asked answer outside list (asked_for list) is) [
  | inl plain ↦ plain.nothing three
  | inr check ↦ check.1
]

pub others_tell_their_line : OthersTellTheirLine
others_tell_their_line list outside answer is not_check = elim (right_asked answer outside list (asked_for list) is) [
  | inl plain ↦ plain.alone
  | inr check ↦ absurd (not_check check.0.0 check.0.1)
]
