-- What is put while an answer is found, and what is put behind it, are together the answer's bytes.
use Rattle.std.proofs.Common.{ℕ, ℤ, ◌≡◌, ap, sym, subst, ◌∙◌, refl, Bool, List, [], ◌∷◌, ◌++◌, cond, Option, None, true, false, Result, Ok, Err, inl, inr}
use Rattle.std.specs.Prelude.{⊤}
use Rattle.std.proofs.lemmas.List.{append-nil, append_assoc}
use Rattle.k_edge.specs.FilesWords.{FilesState}
use Rattle.k_edge.specs.SinkWords.{SinkState}
use Rattle.k_edge.specs.declared.sink.PutFault.{PutFault}
use Rattle.k_edge.specs.declared.sink.PutFault.TheVariants as put
use Rattle.k_ending.specs.declared.ending.End.{End}
use Rattle.k_ending.specs.declared.ending.End.TheVariants as end
use Rattle.k_hcpa.specs.declared.profile.Profile.{Profile}
use Rattle.k_words.specs.About.{asked_for}
use Rattle.k_words.specs.Words as words
use Rattle.k_words.proofs.OneAnswer.{answer_is_unique}
use Rattle.k_words.specs.declared.job.Job.{Job}
use Rattle.k_words.specs.declared.job.Job.TheVariants as job
use Rattle.k_words.specs.declared.usage.Usage.{Usage}
use Rattle.k_words.specs.declared.usage.Usage.TheVariants as usage
use Rattle.k_top_answers.specs.declared.answer.Answer.{Answer}
use Rattle.k_top_answers.specs.declared.failure.Failure.{Failure}
use Rattle.k_top_answers.specs.declared.failure.Failure.TheVariants as why
use Rattle.k_top_answers.specs.Answers.{AnswersAsked, AnswersJob, AnswersRun, AnswersWords, IsAnswer, IsReported, ended, refusal}
use Rattle.k_top_answers.specs.Requests.{loads_of}
use Rattle.k_top_answers.specs.Steps.{Outside, Running, run_of}
use Rattle.k_top_answers.specs.Texts.{ends_line, with_report}
use Rattle.k_top_lemmas.specs.declared.ending.Ending.{Ending}
use Rattle.k_top_lemmas.specs.declared.running.Ready.{Ready}
use Rattle.k_top_lemmas.specs.Parts.{Delivers, EndsAs, IsProfileOfRun, PutsAll, running_of}
use Rattle.k_top_lemmas.specs.Phases.{Around, FindsAnswer, FindsJob, MakesReady}
use Rattle.k_top_lemmas.specs.Streams.{IsSplit, Performs, StreamsAnswer, StreamsJob, StreamsRun, behind}
use Rattle.k_top_lemmas.proofs.Agreeing.{Agree, running_agrees}
use Rattle.k_top_lemmas.proofs.AskedLemmas.{input_for, job_found, named_for, run_found}
use Rattle.k_top_lemmas.proofs.Growing.{grows_nothing}
use Rattle.k_top_lemmas.proofs.Machine.{IsBroken}
use Rattle.k_top_lemmas.proofs.Putting.{both_put, counted, cut_behind, more_cut, second_cut}

-- AN ANSWER of which the first bytes are put, and the rest is delivered
pub delivered_behind : (first : List ℕ) (answer : Answer) (done : Result ⊤ Failure) (files files' : FilesState) (out mid out' : SinkState) → PutsAll (Ok tt) first out mid
    → Delivers done answer files files' mid out' → Delivers done (behind first answer) files files' out out'
delivered_behind first answer (Ok ok) files files' out mid out' puts (rest, saves) = (both_put first answer.out out mid out' puts rest, saves)
delivered_behind first answer (Err failure) files files' out mid out' puts (inl (fault, is, rest, same)) =
    inl (fault, is, second_cut first answer.out out mid out' fault puts rest, same)
delivered_behind first answer (Err failure) files files' out mid out' puts (inr (rest, saves)) = inr (both_put first answer.out out mid out' puts rest, saves)

pub ends_behind : (first : List ℕ) (answer : Answer) (ending : Ending) (done : Result ⊤ Failure) → EndsAs ending done answer → EndsAs ending done (behind first answer)
ends_behind first answer ending (Ok ok) ends = ends
ends_behind first answer ending (Err failure) ends = ends

-- NOTHING IS PUT while the answer of another command is found
pub nothing_first : (result : Result Answer Failure) (asked : Job) (old new : Around) (out out' : SinkState) → out' ≡ out → FindsJob result asked old new
    → StreamsJob result asked old new out out'
nothing_first (Ok answer) asked old new out out' same found =
    ([], subst (λ (o : SinkState). PutsAll (Ok tt) [] out o) (sym same) (grows_nothing out.written, refl), found)
nothing_first (Err failure) asked old new out out' same found = inl (found, same)

pub nothing_first_of : (result : Result Answer Failure) (list : List (List ℕ)) (old new : Around) (out out' : SinkState) → out' ≡ out → FindsAnswer result list old new
    → StreamsAnswer result list old new out out'
nothing_first_of (Ok answer) list old new out out' same found =
    ([], subst (λ (o : SinkState). PutsAll (Ok tt) [] out o) (sym same) (grows_nothing out.written, refl), found)
nothing_first_of (Err failure) list old new out out' same found = inl (found, same)

-- THE WORDS ask for a job
module _ (list : List (List ℕ)) (asked : Job) (none : asked_for list ≡ None) (is_words : words.IsAnswer list (Ok asked)) where
  not_memory : (outside : Outside) (answer : Answer) (x : Result Job Usage) → AnswersWords outside answer x → x ≡ Err usage.Memory → ⊥
  not_memory outside answer x holds is = subst (λ r. AnswersWords outside answer r) is holds

  job_of : (outside : Outside) (answer : Answer) → IsAnswer list outside answer → AnswersJob outside answer asked
  job_of outside answer is = by_reading (subst (λ a. AnswersAsked list outside answer a) none is)
    where
      by_reading : AnswersAsked list outside answer None → AnswersJob outside answer asked
      by_reading (read, reads, holds) =
          subst (λ r. AnswersWords outside answer r)
          (answer_is_unique list read (Ok asked) reads is_words (not_memory outside answer read holds) (λ e. cc)) holds

  pub job_streamed : (result : Result Answer Failure) (old new : Around) (out out' : SinkState) → StreamsJob result asked old new out out'
      → StreamsAnswer result list old new out out'
  job_streamed (Ok answer) old new out out' (first, puts, found) =
      (first, puts, job_found list asked none is_words old new (Ok (behind first answer)) found)
  job_streamed (Err failure) old new out out' (inl (found, same)) = inl (job_found list asked none is_words old new (Err failure) found, same)
  job_streamed (Err failure) old new out out' (inr (view, is_view, (fault, is, counts, (all, named, same), input, puts))) =
      inr (
        view,
        is_view,
        (
          fault,
          is,
          counts,
          (all, named_for list asked none is_words old new all named, same),
          input_for list asked none is_words old new view input,
          λ outside shows answer is_answer. puts outside shows answer (job_of outside answer is_answer),
        ),
      )

-- A REPORT behind what is held stands behind the whole output
ends_by_rest : (first : List ℕ) (byte : ℕ) (rest : List ℕ) → ends_line (first ++ byte ∷ rest) ≡ ends_line (byte ∷ rest)
ends_by_rest [] byte rest = refl
ends_by_rest (x ∷ []) byte rest = refl
ends_by_rest (x ∷ y ∷ first) byte rest = ends_by_rest (y ∷ first) byte rest

ends_by_held : (first rest : List ℕ) → (rest ≡ [] → first ≡ []) → ends_line (first ++ rest) ≡ ends_line rest
ends_by_held first [] last = ap ends_line (append-nil first ∙ last refl)
ends_by_held first (byte ∷ rest) last = ends_by_rest first byte rest

report_held : (b : Bool) (first rest report : List ℕ)
    → first ++ cond b (rest ++ report) (rest ++ 10 ∷ report) ≡ cond b ((first ++ rest) ++ report) ((first ++ rest) ++ 10 ∷ report)
report_held true first rest report = sym (append_assoc first rest report)
report_held false first rest report = sym (append_assoc first rest (10 ∷ report))

pub held_report : (first rest output report : List ℕ) → IsSplit first rest output → first ++ with_report rest report ≡ with_report output report
held_report first rest output report held =
    report_held (ends_line rest) first rest report
    ∙ ap (λ (b : Bool). cond b ((first ++ rest) ++ report) ((first ++ rest) ++ 10 ∷ report)) (sym (ends_by_held first rest held.last))
    ∙ ap (λ (o : List ℕ). with_report o report) held.whole

-- RUN, behind a run of this profile
module _ (r : Running) (depth : ℕ) (dict : Bool) (save : Option (List ℕ)) (first : List ℕ) (p : Profile) (is : IsProfileOfRun r depth first p) where
  pub held : IsSplit first p.rest (run_of r).output
  held = record { whole = is.output; last = is.held }

  pub returned_streamed : (exit : ℤ) → p.end ≡ end.Returned exit → (answer : Answer) → IsReported r exit depth dict save (behind first answer)
      → AnswersRun depth dict save (behind first answer) r (run_of r).end
  returned_streamed exit same answer reported = subst (λ (e : End). AnswersRun depth dict save (behind first answer) r e) (sym same ∙ is.end) reported

  -- the rest of the output, and nothing more
  abbrev rest_of : Answer → End → Type 0
  rest_of answer how = answer ≡ ended p.rest r.steps how

  whole_of : (answer : Answer) (how : End) → rest_of answer how → behind first answer ≡ ended (run_of r).output r.steps how
  whole_of answer how same = λ i. record {
    out = (ap (λ (a : Answer). first ++ a.out) same ∙ is.output) i;
    failure = (same i).failure;
    more = (same i).more;
    saved = (same i).saved;
  }

  pub ended_streamed : (how : End) → p.end ≡ how → IsBroken how → (answer : Answer) → rest_of answer how
      → AnswersRun depth dict save (behind first answer) r (run_of r).end
  ended_streamed (end.Returned exit) same broken answer rest = absurd broken
  ended_streamed (end.Trapped trap place) same broken answer rest =
      subst (λ (e : End). AnswersRun depth dict save (behind first answer) r e) (sym same ∙ is.end) (whole_of answer (end.Trapped trap place) rest)
  ended_streamed end.OutOfSteps same broken answer rest =
      subst (λ (e : End). AnswersRun depth dict save (behind first answer) r e) (sym same ∙ is.end) (whole_of answer end.OutOfSteps rest)

  -- no memory was found for what comes behind what is put
  pub report_short : (out out' : SinkState) → PutsAll (Ok tt) first out out' → StreamsRun (Err why.NoMemory) depth dict save r out out'
  report_short out out' puts =
      (put.Memory, refl, subst (λ (output : List ℕ). PutsAll (Err put.Memory) output out out') is.output (cut_behind first p.rest out out' puts))

-- THE OUTPUT IS A FRONT of each answer's bytes
report_behind : (b : Bool) (output report : List ℕ) → (more : List ℕ) × (cond b (output ++ report) (output ++ 10 ∷ report) ≡ output ++ more)
report_behind true output report = (report, refl)
report_behind false output report = (10 ∷ report, refl)

output_first : (depth : ℕ) (dict : Bool) (save : Option (List ℕ)) (answer : Answer) (r : Running) (how : End) → AnswersRun depth dict save answer r how
    → (more : List ℕ) × (answer.out ≡ (run_of r).output ++ more)
output_first depth dict save answer r (end.Returned exit) is =
    let told = report_behind (ends_line (run_of r).output) (run_of r).output is.report in
    (told.0, ap (λ (a : Answer). a.out) is.is ∙ told.1)
output_first depth dict save answer r (end.Trapped trap place) is = ([], ap (λ (a : Answer). a.out) is ∙ sym (append-nil (run_of r).output))
output_first depth dict save answer r end.OutOfSteps is = ([], ap (λ (a : Answer). a.out) is ∙ sym (append-nil (run_of r).output))

module _ (file : List ℕ) (latency : Option (List ℕ)) (steps depth : ℕ) (dict : Bool) (save : Option (List ℕ)) (old new : Around) (ready : Ready)
    (is_ready : MakesReady (Ok ready) file latency steps old new) where
  -- what was put in part of the output was put in part of the answer's bytes
  module _ (out out' : SinkState) (fault : PutFault) (puts : PutsAll (Err fault) (run_of (running_of ready)).output out out') where
    cut_answer : (answer : Answer) → AnswersRun depth dict save answer (running_of ready) (run_of (running_of ready)).end → PutsAll (Err fault) answer.out out out'
    cut_answer answer is =
        let (more, same) = output_first depth dict save answer (running_of ready) (run_of (running_of ready)).end is in
        subst (λ bytes. PutsAll (Err fault) bytes out out') (sym same) (more_cut (run_of (running_of ready)).output more out out' fault puts)

    by_running : (answer : Answer)
        → Agree {A = Running} (λ failure. ⊥) (λ failure. answer ≡ refusal failure) (λ r. r ≡ running_of ready) (λ r. AnswersRun depth dict save answer r (run_of r).end)
        → PutsAll (Err fault) answer.out out out'
    by_running answer (inl (failure, none, is)) = absurd none
    by_running answer (inr (r, same, is)) = cut_answer answer (subst (λ (q : Running). AnswersRun depth dict save answer q (run_of q).end) same is)

  pub run_streamed : (result : Result Answer Failure) (out out' : SinkState) → StreamsRun result depth dict save (running_of ready) out out'
      → StreamsJob result (job.Run file steps depth latency dict save) old new out out'
  run_streamed (Ok answer) out out' (first, puts, is) =
      (first, puts, run_found file latency steps depth old new dict save ready (behind first answer) is_ready is)
  run_streamed (Err failure) out out' (fault, is, puts) =
      let (view, is_view, (same, input, runs, holds)) = is_ready in
      inr (
        view,
        is_view,
        (
          fault,
          is,
          counted (run_of (running_of ready)).output out out' fault puts,
          (loads_of (job.Run file steps depth latency dict save), refl, same),
          input,
          λ outside shows answer is_answer.
              by_running out out' fault puts answer
              (running_agrees (λ failure. ⊥) (λ failure. answer ≡ refusal failure) (λ r. r ≡ running_of ready) (λ r. AnswersRun depth dict save answer r (run_of r).end)
              outside steps file latency (runs outside shows) is_answer),
        ),
      )

-- AN ANSWER that was found, and whose rest was then delivered
pub found_delivered : (list : List (List ℕ)) (answer : Answer) (delivered : Result ⊤ Failure) (ending : Ending) (old mid : Around) (files : FilesState) (out out_mid out' : SinkState)
    → StreamsAnswer (Ok answer) list old mid out out_mid → Delivers delivered answer mid.files files out_mid out' → EndsAs ending delivered answer
    → Performs ending list old (record { files = files; input = mid.input }) out out'
found_delivered list answer delivered ending old mid files out out_mid out' found delivers ends =
    inr (answer, delivered, mid.files, out_mid, found, delivers, ends)
