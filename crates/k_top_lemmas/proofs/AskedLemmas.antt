-- What finding the answer to the words comes to.
use Rattle.std.proofs.Common.{ℕ, ◌≡◌, ◌≢◌, Bool, true, false, ◌||◌, MatchBool, if◌then◌else◌, nat_eq, is_some, codes, ap, refl, sym, subst, ◌∙◌, List, [], ◌∷◌, Option, Some, None, Result, Ok, Err, inl, inr}
use Rattle.std.proofs.lemmas.Slice.Eq.{slice_eq-Decides}
use Rattle.std.specs.Cmp.{unsigned_Decides}
use Rattle.std.specs.Cmp.Lexicographic.{pointwise}
use Rattle.k_edge.specs.FilesWords.{after}
use Rattle.k_edge.specs.declared.request.Request.{Request}
use Rattle.k_ending.specs.declared.ending.End.{End}
use Rattle.k_ending.specs.declared.ending.End.TheVariants as end
use Rattle.k_types_calls.specs.Getchar.{calls_getchar}
use Rattle.k_words.proofs.OneAnswer.{answer_exists, answer_is_unique}
use Rattle.k_words.specs.About.{asked_for, is}
use Rattle.k_words.specs.Words as words
use Rattle.k_words.specs.Words.{command_fault, command_of}
use Rattle.k_words.specs.declared.about.Asked.{Asked}
use Rattle.k_words.specs.declared.about.Asked.TheVariants.{Help, Version}
use Rattle.k_words.specs.declared.job.Job.{Job}
use Rattle.k_words.specs.declared.job.Job.TheVariants as job
use Rattle.k_words.specs.declared.usage.Usage.{Usage}
use Rattle.k_words.specs.declared.usage.Usage.TheVariants as usage
use Rattle.k_top_answers.specs.declared.answer.Answer.{Answer}
use Rattle.k_top_answers.specs.declared.failure.Failure.{Failure}
use Rattle.k_top_answers.specs.declared.failure.Failure.TheVariants as why
use Rattle.k_top_lemmas.specs.declared.running.Ready.{Ready}
use Rattle.k_top_answers.specs.Answers.{AnswersAnnotated, AnswersAsked, AnswersCarried, AnswersJob, AnswersPage, AnswersRun, AnswersWords, CallsForFiles, CallsForInput, IsAnnotated, IsAnswer, IsListed, IsPaged, JobCalls, JobLoads, done, refusal}
use Rattle.k_top_answers.specs.Failures.{failure_of_usage}
use Rattle.k_top_answers.specs.Requests.{AreToLoad, loads_of}
use Rattle.k_top_lemmas.specs.Parts.{GivesText, running_of}
use Rattle.k_top_lemmas.specs.Phases.{Around, FailsBefore, FindsAnswer, FindsJob, InputDone, IsEnd, IsView, MakesDemo, MakesReady, View, no_view}
use Rattle.k_top_answers.specs.Steps.{AnswersInput, AnswersRead, AnswersRunning, Outside, Running, run_of}
use Rattle.k_top_lemmas.proofs.ReadyLemmas.{not_seen, refusal_maps, told_once}
use Rattle.k_top_lemmas.proofs.Requesting.{after_none, front_same}
use Rattle.k_top_lemmas.proofs.Statuses.{done_low, ended_low}
use Rattle.k_top_lemmas.proofs.StepLemmas.{program_maps}

-- what a program that is ready to run answers is carried over
module _ (F G : Failure → Type 0) (on_failure : (failure : Failure) → F failure → G failure) where
  read_maps : (P Q : List ℕ → Type 0) → ((input : List ℕ) → P input → Q input) → (bytes : List ℕ) → AnswersRead F P bytes → AnswersRead G Q bytes
  read_maps P Q on_input bytes (inl (long, holds)) = inl (long, on_failure why.InputLong holds)
  read_maps P Q on_input bytes (inr (fits, holds)) = inr (fits, on_input bytes holds)

  pub input_maps : (P Q : List ℕ → Type 0) → ((input : List ℕ) → P input → Q input) → (b : Bool) (bytes : List ℕ)
      → MatchBool b (AnswersRead F P bytes) (P []) → MatchBool b (AnswersRead G Q bytes) (Q [])
  input_maps P Q on_input true bytes holds = read_maps P Q on_input bytes holds
  input_maps P Q on_input false bytes holds = on_input [] holds

  pub running_maps : (P Q : Running → Type 0) → ((r : Running) → P r → Q r) → (outside : Outside) (file : List ℕ) (latency : Option (List ℕ)) (steps : ℕ)
      → AnswersRunning F outside file latency steps P → AnswersRunning G outside file latency steps Q
  running_maps P Q on_running outside file latency steps holds =
      program_maps F G
      (λ latencies typed. AnswersInput F outside typed (λ input. P (record { typed = typed; latencies = latencies; input = input; steps = steps })))
      (λ latencies typed. AnswersInput G outside typed (λ input. Q (record { typed = typed; latencies = latencies; input = input; steps = steps })))
      on_failure
      (λ latencies typed. input_maps (λ input. P (record { typed = typed; latencies = latencies; input = input; steps = steps }))
      (λ input. Q (record { typed = typed; latencies = latencies; input = input; steps = steps }))
      (λ input. on_running (record { typed = typed; latencies = latencies; input = input; steps = steps })) (calls_getchar typed) outside.input)
      outside latency file holds

-- no memory was found behind the input
pub behind_input : (loads : Type 0) (all : List Request) (calls : Outside → Type 0) (view : View) (old new : Around) → loads → new.files ≡ after all old.files
    → InputDone calls view old.input new.input → FailsBefore why.NoMemory loads (λ named. named ≡ all) calls view old new
behind_input loads all calls view old new loaded same (inl (input, calls_not)) =
    inl (loaded, (all, refl, (all, front_same all all refl, same)), input)
behind_input loads all calls view old new loaded same (inr (bytes, is, called, reads)) =
    inr (inl (called, (all, refl, same), ((bytes.items, reads.0, reads.1), reads.3, told_once old.input new.input bytes reads)))

module _ (file : List ℕ) (latency : Option (List ℕ)) (steps depth : ℕ) (old new : Around) where
  -- RUN
  run_ends : (dict : Bool) (save : Option (List ℕ)) (answer : Answer) (r : Running) (how : End) → AnswersRun depth dict save answer r how → IsEnd answer
  run_ends dict save answer r (end.Returned exit) is = record {
    low = done_low answer.failure (ap (λ (a : Answer). a.failure) is.is);
    saves = inl (ap (λ (a : Answer). a.failure) is.is);
  }
  run_ends dict save answer r (end.Trapped trap place) is = record {
    low = ended_low r.steps (end.Trapped trap place) answer.failure (ap (λ (a : Answer). a.failure) is);
    saves = inr (ap (λ (a : Answer). a.saved) is);
  }
  run_ends dict save answer r end.OutOfSteps is = record {
    low = ended_low r.steps end.OutOfSteps answer.failure (ap (λ (a : Answer). a.failure) is);
    saves = inr (ap (λ (a : Answer). a.saved) is);
  }

  pub run_found : (dict : Bool) (save : Option (List ℕ)) (r : Ready) (answer : Answer) → MakesReady (Ok r) file latency steps old new
      → AnswersRun depth dict save answer (running_of r) (run_of (running_of r)).end → FindsJob (Ok answer) (job.Run file steps depth latency dict save) old new
  run_found dict save r answer (view, is_view, (same, input, runs, holds)) is = (
    view,
    is_view,
    (
      (loads_of (job.Run file steps depth latency dict save), refl, same),
      input,
      run_ends dict save answer (running_of r) (run_of (running_of r)).end is,
      λ outside shows.
          running_maps (λ failure. ⊥) (λ failure. answer ≡ refusal failure) (λ failure e. absurd e) (λ q. q ≡ running_of r)
          (λ q. AnswersRun depth dict save answer q (run_of q).end)
          (λ q e. subst (λ (q : Running). AnswersRun depth dict save answer q (run_of q).end) (sym e) is) outside file latency steps (runs outside shows),
    ),
  )

  pub run_failed : (dict : Bool) (save : Option (List ℕ)) (failure : Failure) → MakesReady (Err failure) file latency steps old new
      → FindsJob (Err failure) (job.Run file steps depth latency dict save) old new
  run_failed dict save failure (view, is_view, (before, refuses)) = (
    view,
    is_view,
    (
      before,
      refusal_maps _ _ failure (λ fails outside shows.
          running_maps (λ other. other ≡ failure) (λ other. refusal failure ≡ refusal other) (λ other e. ap refusal (sym e)) (λ running. ⊥)
          (λ q. AnswersRun depth dict save (refusal failure) q (run_of q).end) (λ q e. absurd e) outside file latency steps (fails outside shows)) refuses,
    ),
  )

  -- GRAPH
  graph_ends : (answer : Answer) (r : Running) → IsListed depth answer r → IsEnd answer
  graph_ends answer r is = record {
    low = ended_low r.steps (run_of r).end answer.failure (ap (λ (a : Answer). a.failure) is.is);
    saves = inr (ap (λ (a : Answer). a.saved) is.is);
  }

  pub graph_found : (r : Ready) (answer : Answer) → MakesReady (Ok r) file latency steps old new → IsListed depth answer (running_of r)
      → FindsJob (Ok answer) (job.Graph file steps depth latency) old new
  graph_found r answer (view, is_view, (same, input, runs, holds)) is = (
    view,
    is_view,
    (
      (loads_of (job.Graph file steps depth latency), refl, same),
      input,
      graph_ends answer (running_of r) is,
      λ outside shows.
          running_maps (λ failure. ⊥) (λ failure. answer ≡ refusal failure) (λ failure e. absurd e) (λ q. q ≡ running_of r) (IsListed depth answer)
          (λ q e. subst (IsListed depth answer) (sym e) is) outside file latency steps (runs outside shows),
    ),
  )

  pub graph_failed : (failure : Failure) → MakesReady (Err failure) file latency steps old new → FindsJob (Err failure) (job.Graph file steps depth latency) old new
  graph_failed failure (view, is_view, (before, refuses)) = (
    view,
    is_view,
    (
      before,
      refusal_maps _ _ failure (λ fails outside shows.
          running_maps (λ other. other ≡ failure) (λ other. refusal failure ≡ refusal other) (λ other e. ap refusal (sym e)) (λ running. ⊥)
          (IsListed depth (refusal failure)) (λ q e. absurd e) outside file latency steps (fails outside shows)) refuses,
    ),
  )

  pub graph_short : (r : Ready) → MakesReady (Ok r) file latency steps old new → FindsJob (Err why.NoMemory) (job.Graph file steps depth latency) old new
  graph_short r (view, is_view, (same, input, runs, holds)) = (view, is_view, (behind_input _ _ _ view old new tt same input, tt))

  -- PAGE
  page_ends : (source : List ℕ) (dict : Bool) (answer : Answer) (r : Running) (how : End) → AnswersPage file source depth dict answer r how → IsEnd answer
  page_ends source dict answer r (end.Returned exit) (text, is_page, is) = record {
    low = done_low answer.failure (ap (λ (a : Answer). a.failure) is);
    saves = inl (ap (λ (a : Answer). a.failure) is);
  }
  page_ends source dict answer r (end.Trapped trap place) is = record {
    low = ended_low r.steps (end.Trapped trap place) answer.failure (ap (λ (a : Answer). a.failure) is);
    saves = inr (ap (λ (a : Answer). a.saved) is);
  }
  page_ends source dict answer r end.OutOfSteps is = record {
    low = ended_low r.steps end.OutOfSteps answer.failure (ap (λ (a : Answer). a.failure) is);
    saves = inr (ap (λ (a : Answer). a.saved) is);
  }

  pub page_found : (dict : Bool) (r : Ready) (answer : Answer) → MakesReady (Ok r) file latency steps old new
      → AnswersPage file r.program.source depth dict answer (running_of r) (run_of (running_of r)).end
      → FindsJob (Ok answer) (job.Page file steps depth latency dict) old new
  page_found dict r answer (view, is_view, (same, input, runs, holds)) is = (
    view,
    is_view,
    (
      (loads_of (job.Page file steps depth latency dict), refl, same),
      input,
      page_ends r.program.source dict answer (running_of r) (run_of (running_of r)).end is,
      λ outside shows.
          running_maps (λ failure. ⊥) (λ failure. answer ≡ refusal failure) (λ failure e. absurd e) (λ q. q ≡ running_of r) (IsPaged outside file depth dict answer)
          (λ q e. (
            r.program.source,
            holds outside shows,
            subst (λ (q : Running). AnswersPage file r.program.source depth dict answer q (run_of q).end) (sym e) is,
          )) outside file latency steps (runs outside shows),
    ),
  )

  pub page_failed : (dict : Bool) (failure : Failure) → MakesReady (Err failure) file latency steps old new
      → FindsJob (Err failure) (job.Page file steps depth latency dict) old new
  page_failed dict failure (view, is_view, (before, refuses)) = (
    view,
    is_view,
    (
      before,
      refusal_maps _ _ failure (λ fails outside shows.
          running_maps (λ other. other ≡ failure) (λ other. refusal failure ≡ refusal other) (λ other e. ap refusal (sym e)) (λ running. ⊥)
          (IsPaged outside file depth dict (refusal failure)) (λ q e. absurd e) outside file latency steps (fails outside shows)) refuses,
    ),
  )

  pub page_short : (dict : Bool) (r : Ready) → MakesReady (Ok r) file latency steps old new
      → FindsJob (Err why.NoMemory) (job.Page file steps depth latency dict) old new
  page_short dict r (view, is_view, (same, input, runs, holds)) = (view, is_view, (behind_input _ _ _ view old new tt same input, tt))

  -- ANNOTATE
  annotated_ends : (strict : Bool) (source : List ℕ) (answer : Answer) (r : Running) (how : End) → AnswersAnnotated source depth strict answer r how → IsEnd answer
  annotated_ends strict source answer r (end.Returned exit) is = record {
    low = done_low answer.failure (ap (λ (a : Answer). a.failure) is.is);
    saves = inl (ap (λ (a : Answer). a.failure) is.is);
  }
  annotated_ends strict source answer r (end.Trapped trap place) is = record {
    low = ended_low r.steps (end.Trapped trap place) answer.failure (ap (λ (a : Answer). a.failure) is);
    saves = inr (ap (λ (a : Answer). a.saved) is);
  }
  annotated_ends strict source answer r end.OutOfSteps is = record {
    low = ended_low r.steps end.OutOfSteps answer.failure (ap (λ (a : Answer). a.failure) is);
    saves = inr (ap (λ (a : Answer). a.saved) is);
  }

  pub annotated_found : (strict : Bool) (r : Ready) (answer : Answer) → MakesReady (Ok r) file latency steps old new
      → AnswersAnnotated r.program.source depth strict answer (running_of r) (run_of (running_of r)).end
      → FindsJob (Ok answer) (job.Annotate file steps depth latency strict) old new
  annotated_found strict r answer (view, is_view, (same, input, runs, holds)) is = (
    view,
    is_view,
    (
      (loads_of (job.Annotate file steps depth latency strict), refl, same),
      input,
      annotated_ends strict r.program.source answer (running_of r) (run_of (running_of r)).end is,
      λ outside shows.
          running_maps (λ failure. ⊥) (λ failure. answer ≡ refusal failure) (λ failure e. absurd e) (λ q. q ≡ running_of r) (IsAnnotated outside file depth strict answer)
          (λ q e. (
            r.program.source,
            holds outside shows,
            subst (λ (q : Running). AnswersAnnotated r.program.source depth strict answer q (run_of q).end) (sym e) is,
          )) outside file latency steps (runs outside shows),
    ),
  )

  pub annotated_failed : (strict : Bool) (failure : Failure) → MakesReady (Err failure) file latency steps old new
      → FindsJob (Err failure) (job.Annotate file steps depth latency strict) old new
  annotated_failed strict failure (view, is_view, (before, refuses)) = (
    view,
    is_view,
    (
      before,
      refusal_maps _ _ failure (λ fails outside shows.
          running_maps (λ other. other ≡ failure) (λ other. refusal failure ≡ refusal other) (λ other e. ap refusal (sym e)) (λ running. ⊥)
          (IsAnnotated outside file depth strict (refusal failure)) (λ q e. absurd e) outside file latency steps (fails outside shows)) refuses,
    ),
  )

  pub annotated_short : (strict : Bool) (r : Ready) → MakesReady (Ok r) file latency steps old new
      → FindsJob (Err why.NoMemory) (job.Annotate file steps depth latency strict) old new
  annotated_short strict r (view, is_view, (same, input, runs, holds)) = (view, is_view, (behind_input _ _ _ view old new tt same input, tt))

  -- CARRIED
  carried_ends : (storage : Bool) (answer : Answer) (r : Running) (how : End) → AnswersCarried depth storage answer r how → IsEnd answer
  carried_ends storage answer r (end.Returned exit) is = record {
    low = done_low answer.failure (ap (λ (a : Answer). a.failure) is.is);
    saves = inl (ap (λ (a : Answer). a.failure) is.is);
  }
  carried_ends storage answer r (end.Trapped trap place) is = record {
    low = ended_low r.steps (end.Trapped trap place) answer.failure (ap (λ (a : Answer). a.failure) is);
    saves = inr (ap (λ (a : Answer). a.saved) is);
  }
  carried_ends storage answer r end.OutOfSteps is = record {
    low = ended_low r.steps end.OutOfSteps answer.failure (ap (λ (a : Answer). a.failure) is);
    saves = inr (ap (λ (a : Answer). a.saved) is);
  }

  pub carried_found : (storage : Bool) (r : Ready) (answer : Answer) → MakesReady (Ok r) file latency steps old new
      → AnswersCarried depth storage answer (running_of r) (run_of (running_of r)).end → FindsJob (Ok answer) (job.Carried file steps depth latency storage) old new
  carried_found storage r answer (view, is_view, (same, input, runs, holds)) is = (
    view,
    is_view,
    (
      (loads_of (job.Carried file steps depth latency storage), refl, same),
      input,
      carried_ends storage answer (running_of r) (run_of (running_of r)).end is,
      λ outside shows.
          running_maps (λ failure. ⊥) (λ failure. answer ≡ refusal failure) (λ failure e. absurd e) (λ q. q ≡ running_of r)
          (λ q. AnswersCarried depth storage answer q (run_of q).end)
          (λ q e. subst (λ (q : Running). AnswersCarried depth storage answer q (run_of q).end) (sym e) is) outside file latency steps (runs outside shows),
    ),
  )

  pub carried_failed : (storage : Bool) (failure : Failure) → MakesReady (Err failure) file latency steps old new → FindsJob (Err failure) (job.Carried file steps depth latency storage) old new
  carried_failed storage failure (view, is_view, (before, refuses)) = (
    view,
    is_view,
    (
      before,
      refusal_maps _ _ failure (λ fails outside shows.
          running_maps (λ other. other ≡ failure) (λ other. refusal failure ≡ refusal other) (λ other e. ap refusal (sym e)) (λ running. ⊥)
          (λ q. AnswersCarried depth storage (refusal failure) q (run_of q).end) (λ q e. absurd e) outside file latency steps (fails outside shows)) refuses,
    ),
  )

  pub carried_short : (storage : Bool) (r : Ready) → MakesReady (Ok r) file latency steps old new → FindsJob (Err why.NoMemory) (job.Carried file steps depth latency storage) old new
  carried_short storage r (view, is_view, (same, input, runs, holds)) = (view, is_view, (behind_input _ _ _ view old new tt same input, tt))

-- nothing was seen
nothing_seen : (old : Around) → IsView no_view old
nothing_seen old = record { files = tt; input = not_seen old.input.left }

-- no memory was found before anything was asked of the outside
pub unasked : (asked : Job) (old : Around) → FindsJob (Err why.NoMemory) asked old old
unasked asked old = (no_view, nothing_seen old, (inr (inr (tt, tt, refl)), tt))

-- DEMO: it asks nothing of the outside
pub demo_found : (result : Result Answer Failure) (number loops : ℕ) (old new : Around) → new ≡ old → MakesDemo result number loops
    → FindsJob result (job.Demo number loops) old new
demo_found (Ok answer) number loops old new same (is_end, answers) = (
  no_view,
  nothing_seen old,
  (
    ([], refl, ap (λ (a : Around). a.files) same ∙ after_none old.files),
    inl (ap (λ (a : Around). a.input) same, λ outside shows calls. calls),
    is_end,
    λ outside shows. answers outside,
  ),
)
demo_found (Err failure) number loops old new same (silent, refuses) =
    (no_view, nothing_seen old, (inr (inr (silent, refusal_maps _ _ failure (λ answers. refl) refuses, same)), refusal_maps _ _ failure (λ answers outside shows. answers outside) refuses))

-- a job, or something in its place
abbrev job_in : Job → Result Job Usage → Job
job_in other (Ok asked) = asked
job_in other (Err fault) = other

-- THE WORDS ask for a job
module _ (list : List (List ℕ)) (asked : Job) (none : asked_for list ≡ None) (is_words : words.IsAnswer list (Ok asked)) (old new : Around) where
  job_answers : (outside : Outside) (answer : Answer) → AnswersJob outside answer asked → IsAnswer list outside answer
  job_answers outside answer holds = subst (λ a. AnswersAsked list outside answer a) (sym none) (Ok asked, is_words, holds)

  -- they ask for no other
  same_job : (other : Job) → words.IsAnswer list (Ok other) → other ≡ asked
  same_job other is = ap (job_in other) (answer_is_unique list (Ok other) (Ok asked) is is_words (λ e. cc) (λ e. cc))

  calls_for : (outside : Outside) → CallsForInput list outside → JobCalls outside asked
  calls_for outside (other, is, calls) = subst (λ j. JobCalls outside j) (same_job other is) calls

  pub input_for : (view : View) → InputDone (λ outside. JobCalls outside asked) view old.input new.input → InputDone (CallsForInput list) view old.input new.input
  input_for view (inl (same, calls_not)) = inl (same, λ outside shows calls. calls_not outside shows (calls_for outside calls))
  input_for view (inr (bytes, is, calls, reads)) = inr (bytes, is, (λ outside shows. (asked, is_words, calls outside shows)), reads)

  pub named_for : (loads : List Request) → loads ≡ loads_of asked → AreToLoad list loads
  named_for loads is = inl (asked, is_words, is)

  before_for : (failure : Failure) (view : View)
      → FailsBefore failure (JobLoads asked) (λ loads. loads ≡ loads_of asked) (λ outside. JobCalls outside asked) view old new
      → FailsBefore failure (CallsForFiles list) (AreToLoad list) (CallsForInput list) view old new
  before_for failure view (inl (loads, (all, is, stops), input)) = inl ((asked, is_words, loads), (all, named_for all is, stops), input)
  before_for failure view (inr (inl (calls, (all, is, same), rest))) =
      inr (inl ((λ outside shows. (asked, is_words, calls outside shows)), (all, named_for all is, same), rest))
  before_for failure view (inr (inr (silent, none, same))) = inr (inr (silent, refusal_maps _ _ failure (named_for []) none, same))

  pub job_found : (result : Result Answer Failure) → FindsJob result asked old new → FindsAnswer result list old new
  job_found (Ok answer) (view, is_view, ((all, is, same), input, is_end, answers)) =
      (view, is_view, ((all, named_for all is, same), input_for view input, is_end, λ outside shows. job_answers outside answer (answers outside shows)))
  job_found (Err failure) (view, is_view, (before, refuses)) =
      (view, is_view, (before_for failure view before, refusal_maps _ _ failure (λ everywhere outside shows. job_answers outside (refusal failure) (everywhere outside shows)) refuses))

-- WORDS THAT ARE WRONG ask nothing of the outside
module _ (list : List (List ℕ)) (none : asked_for list ≡ None) (old new : Around) (same : new ≡ old) where
  refused_words : (fault : Usage) → fault ≢ usage.Memory → words.IsAnswer list (Err fault) → ((outside : Outside) → AnswersWords outside (refusal (why.Usage fault)) (Err fault))
      → FindsAnswer (Err (why.Usage fault)) list old new
  refused_words fault other is answers = (
    no_view,
    nothing_seen old,
    (
      inr (inr (tt, inr (fault, other, is, refl), same)),
      λ outside shows.
          subst (λ a. AnswersAsked list outside (refusal (why.Usage fault)) a) (sym none) (Err fault, is, answers outside),
    ),
  )

  pub usage_found : (fault : Usage) → words.IsAnswer list (Err fault) → FindsAnswer (Err (failure_of_usage fault)) list old new
  usage_found usage.Memory is = (no_view, nothing_seen old, (inr (inr (tt, tt, same)), tt))
  usage_found usage.NoCommand is = refused_words usage.NoCommand (λ e. cc) is (λ outside. refl)
  usage_found (usage.UnknownWord index) is = refused_words (usage.UnknownWord index) (λ e. cc) is (λ outside. refl)
  usage_found (usage.BadNumber index) is = refused_words (usage.BadNumber index) (λ e. cc) is (λ outside. refl)
  usage_found (usage.Twice index) is = refused_words (usage.Twice index) (λ e. cc) is (λ outside. refl)
  usage_found usage.NoFile is = refused_words usage.NoFile (λ e. cc) is (λ outside. refl)

-- a word that is one of the texts that ask for a text is no command
same_text : (word text : List ℕ) → pointwise nat_eq word text ≡ true → command_of text ≡ None → command_of word ≡ None
same_text word text is none =
    let same : word ≡ text = (slice_eq-Decides unsigned_Decides word text (pointwise nat_eq word text) refl).0 is in
    subst (λ w. command_of w ≡ None) (sym same) none

no_help : command_of (codes "--help") ≡ None
unfolding command_of
no_help = refl

no_h : command_of (codes "-h") ≡ None
unfolding command_of
no_h = refl

no_version : command_of (codes "--version") ≡ None
unfolding command_of
no_version = refl

no_v : command_of (codes "-V") ≡ None
unfolding command_of
no_v = refl

by_tests : (word : List ℕ) (x : Asked) (a b c d : Bool) → is word (codes "--help") ≡ a → is word (codes "-h") ≡ b → is word (codes "--version") ≡ c
    → is word (codes "-V") ≡ d → (if a || b then Some Help else if c || d then Some Version else None) ≡ Some x → command_of word ≡ None
by_tests word x true b c d ea eb ec ed same = same_text word (codes "--help") ea no_help
by_tests word x false true c d ea eb ec ed same = same_text word (codes "-h") eb no_h
by_tests word x false false true d ea eb ec ed same = same_text word (codes "--version") ec no_version
by_tests word x false false false true ea eb ec ed same = same_text word (codes "-V") ed no_v
by_tests word x false false false false ea eb ec ed same = absurd (let wrong : false ≡ true = ap is_some same in cc)

-- words that ask for a text ask for no job
no_job : (list : List (List ℕ)) (x : Asked) → asked_for list ≡ Some x → (asked : Job) → words.IsAnswer list (Ok asked) → ⊥
no_job [] x text asked is = (let wrong : false ≡ true = ap is_some text in cc)
no_job (word ∷ []) x text asked (right, gives) =
    let none = by_tests word x (is word (codes "--help")) (is word (codes "-h")) (is word (codes "--version")) (is word (codes "-V")) refl refl refl refl text in
    let wrong : Some (usage.UnknownWord 0) ≡ None = subst (λ c. command_fault c ≡ None) none (right 0) in
    let differs : true ≡ false = ap is_some wrong in cc
no_job (word ∷ more ∷ others) x text asked is = (let wrong : false ≡ true = ap is_some text in cc)

-- so they have nothing loaded
no_loads : (list : List (List ℕ)) (x : Asked) → asked_for list ≡ Some x → AreToLoad list []
no_loads list x text = by_answer (answer_exists list)
  where
    by_answer : (read : Result Job Usage) × words.IsAnswer list read × (read ≢ Err usage.Memory) → AreToLoad list []
    by_answer (Ok asked, is, other) = absurd (no_job list x text asked is)
    by_answer (Err fault, is, other) = inr (fault, (λ e. other (ap Err e)), is, refl)

-- THE WORDS ask for a text on the program itself
pub text_found : (list : List (List ℕ)) (x : Asked) (answer : Answer) → asked_for list ≡ Some x → IsEnd answer
    → ((outside : Outside) → AnswersAsked list outside answer (Some x)) → (old new : Around) → new ≡ old → FindsAnswer (Ok answer) list old new
text_found list x answer text is_end answers old new same = (
  no_view,
  nothing_seen old,
  (
    ([], no_loads list x text, ap (λ (a : Around). a.files) same ∙ after_none old.files),
    inl (ap (λ (a : Around). a.input) same, λ outside shows calls. no_job list x text calls.0 calls.1),
    is_end,
    λ outside shows.
        subst (λ a. AnswersAsked list outside answer a) (sym text) (answers outside),
  ),
)

-- no memory was found, and nothing was asked of the outside
pub short_of_memory : (list : List (List ℕ)) (old new : Around) → new ≡ old → FindsAnswer (Err why.NoMemory) list old new
short_of_memory list old new same = (no_view, nothing_seen old, (inr (inr (tt, tt, same)), tt))

-- such a text was given, or no memory was found for it
pub text_told : (list : List (List ℕ)) (x : Asked) (text : List ℕ) → asked_for list ≡ Some x
    → ((answer : Answer) → answer ≡ done text → (outside : Outside) → AnswersAsked list outside answer (Some x)) → (result : Result Answer Failure)
    → GivesText result text → (old new : Around) → new ≡ old → FindsAnswer result list old new
text_told list x text asked answers (Ok answer) is old new same =
    text_found list x answer asked
    (record {
      low = done_low answer.failure (ap (λ (a : Answer). a.failure) is);
      saves = inl (ap (λ (a : Answer). a.failure) is);
    })
    (answers answer is) old new same
text_told list x text asked answers (Err failure) is old new same =
    subst (λ (f : Failure). FindsAnswer (Err f) list old new) (sym is) (short_of_memory list old new same)
