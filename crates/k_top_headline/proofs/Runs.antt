-- What `run` tells.
use Rattle.std.proofs.Common.{ℕ, ◌+◌, ◌-◌, ◌≡◌, Bool, arith, refl, sym, subst, ◌∙◌, ap, List, [], length, Option, Some, None}
use Rattle.k_ending.specs.declared.ending.End.{End}
use Rattle.k_ending.specs.declared.ending.End.TheVariants as end
use Rattle.k_edge.specs.SinkWords.{Grows}
use Rattle.k_optab.specs.declared.node.Node.{Node}
use Rattle.k_optab.specs.declared.toml_table.TableFault.{TableFault}
use Rattle.k_report_profile.specs.RunReport.{IsProfileOf, IsRunReport, Ran, ops_of}
use Rattle.k_report_profile.specs.RunReport as reports
use Rattle.k_report.specs.Report.{large_text}
use Rattle.k_dict_entries.proofs.Unique.{dictionary_expands}
use Rattle.k_dict_entries.specs.Dictionary.{IsDictionary}
use Rattle.k_dict_entries.specs.Entries.{expansion}
use Rattle.k_dict_entries.specs.Laws.{AreAlike}
use Rattle.k_dict_entries.specs.declared.dict.Which.{Which}
use Rattle.k_dict_entries.specs.declared.entry.Entry.{Entry}
use Rattle.k_dict_saved.specs.declared.saved.Saved.{Saved}
use Rattle.k_words.specs.declared.job.Job.{Job}
use Rattle.k_words.specs.declared.job.Job.TheVariants as job
use Rattle.k_top_answers.specs.declared.answer.Answer.{Answer}
use Rattle.k_top_answers.specs.declared.answer.SavedFile.{SavedFile}
use Rattle.k_top_answers.specs.declared.failure.Failure.{Failure}
use Rattle.k_top_answers.specs.declared.failure.Failure.TheVariants as why
use Rattle.k_top_answers.specs.Answers.{AnswersJob, AnswersRun, ran_of, refusal, saved_file}
use Rattle.k_top_answers.specs.Clauses.{HoldsAfter, IsGiven, Keeps, TellsEnd, World}
use Rattle.k_top_answers.specs.Failures.{failure_of_end, status_of}
use Rattle.k_top_answers.specs.Steps.{AnswersInput, AnswersRunning, Running, run_of}
use Rattle.k_top_lemmas.proofs.OneAnswer.{answers_are_unique}
use Rattle.k_top_lemmas.specs.declared.ending.Ending.{Ending}
use Rattle.k_top_headline.specs.Headline.{HoldsBadTable, HoldsProgram, RefusesTable, ReportsGraph, ReportsWithin, RunIsTold, RunTells, Tells, TellsOfRun, WentWell, Writes, end_status, profile_of}
use Rattle.k_top_headline.proofs.Given.{job_given, words_answered}
use Rattle.k_top_headline.proofs.Inputs.{has_run, input_left, input_untouched}
use Rattle.k_top_headline.proofs.Ready.{run_answered, table_held}

-- the last entry of a dictionary expands to the tree
last_expands : (nodes : List Node) (entries : List Entry) → IsDictionary nodes entries → AreAlike (expansion entries (length entries - 1)) nodes
last_expands nodes entries is =
    let root = dictionary_expands nodes entries is in
    let count : length entries ≡ root.0 + 1 = root.1 in
    subst (λ (n : ℕ). AreAlike (expansion entries n) nodes) (omega (arith, count)) root.2

-- the profile of a run is that of its dictionary
same_profile : (ran : Ran) (nodes : List Node) (saved : Saved) → IsProfileOf ran nodes saved → saved ≡ profile_of ran saved.dict
same_profile ran nodes saved is = λ i. record { exit = is.exit i; ops = is.ops i; regions = is.regions i; dict = saved.dict }

-- THE REPORT of a run is that of its graph
of_graph : (ran : Ran) (dict : Bool) (profile : Option Saved) (text : List ℕ) → IsRunReport ran dict profile text → ReportsGraph ran dict text profile
of_graph ran dict _ _ (reports.whole nodes saved text tree is report) = record {
  nodes = nodes;
  tree = tree;
  entries = saved.dict;
  dictionary = is.dict;
  expands = last_expands nodes saved.dict is.dict;
  within = subst (λ (found : Option Which). ReportsWithin ran dict nodes saved.dict text (Some saved) found) (sym is.within)
      (report, ap Some (same_profile ran nodes saved is));
}
of_graph ran dict _ _ (reports.large nodes tree over) = record {
  nodes = nodes;
  tree = tree;
  entries = over.entries;
  dictionary = over.dict;
  expands = last_expands nodes over.entries over.dict;
  within = subst (λ (found : Option Which). ReportsWithin ran dict nodes over.entries (large_text ran.exit (ops_of ran)) None found) (sym over.passed) (refl, refl);
}

-- how an answer ends the call, and how a run does that ended so
abbrev pub ending_of : Answer → Ending
ending_of answer = record { failure = answer.failure; more = answer.more }

abbrev pub ending_at : Running → End → Ending
ending_at r how = record { failure = failure_of_end r.steps how; more = None }

-- where there is no profile none is saved
none_saved : (save : Option (List ℕ)) → saved_file save None ≡ None
none_saved None = refl
none_saved (Some file) = refl

module _ (depth : ℕ) (dict : Bool) (save : Option (List ℕ)) (answer : Answer) (r : Running) where
  -- what the answer puts on out, and which profile it saves
  written : (how : End) → AnswersRun depth dict save answer r how
      → (profile : Option Saved) × Writes r depth dict answer.out profile how × (answer.saved ≡ saved_file save profile)
  written (end.Returned exit) is =
      (is.profile, (is.report, of_graph (ran_of r exit depth) dict is.profile is.report is.is_report, ap (λ (a : Answer). a.out) is.is), ap (λ (a : Answer). a.saved) is.is)
  written (end.Trapped trap place) is = (None, (ap (λ (a : Answer). a.out) is, refl), ap (λ (a : Answer). a.saved) is ∙ sym (none_saved save))
  written end.OutOfSteps is = (None, (ap (λ (a : Answer). a.out) is, refl), ap (λ (a : Answer). a.saved) is ∙ sym (none_saved save))

  -- how it ends the call
  fails : (how : End) → AnswersRun depth dict save answer r how → ending_of answer ≡ ending_at r how
  fails (end.Returned exit) is = ap ending_of is.is
  fails (end.Trapped trap place) is = ap ending_of is
  fails end.OutOfSteps is = ap ending_of is

-- the status of a failure is that of the end
status_of_end : (steps : ℕ) (how : End) → status_of (failure_of_end steps how) ≡ end_status how
status_of_end steps (end.Returned exit) = refl
status_of_end steps (end.Trapped trap place) = refl
status_of_end steps end.OutOfSteps = refl

-- what is told where an answer was given, which has a text and fails as its run does
pub told_of_run : (answers : Answer → Type 0) (r : Running) (text : List ℕ) (status : ℕ) (old new : World) (given : IsGiven answers status old new)
    → given.answer.out ≡ text → ending_of given.answer ≡ ending_at r (run_of r).end → TellsOfRun r text status old new
told_of_run answers r text status old new given out ending = record {
  grows = subst (λ (t : List ℕ). Grows old.out.written t new.out.written) out given.grows;
  status_is = given.status_is ∙ ap (λ (e : Ending). status_of e.failure) ending ∙ status_of_end r.steps (run_of r).end;
  told = subst (λ (e : Ending). TellsEnd e.failure e.more old.err new.err) ending given.told;
}

-- an answer that was given, and is a refusal
pub tells_answer : (answers : Answer → Type 0) (status : ℕ) (old new : World) (given : IsGiven answers status old new) (failure : Option Failure)
    (more : Option (List ℕ)) → given.answer ≡ record { out = []; failure = failure; more = more; saved = None } → Tells failure more status old new
tells_answer answers status old new given failure more is = record {
  grows = subst (λ (a : Answer). Grows old.out.written a.out new.out.written) is given.grows;
  status_is = given.status_is ∙ ap (λ (a : Answer). status_of a.failure) is;
  told = subst (λ (a : Answer). TellsEnd a.failure a.more old.err new.err) is given.told;
}

module _ (words : List (List ℕ)) (status : ℕ) (old new : World) (file : List ℕ) (steps depth : ℕ) (latency : Option (List ℕ)) (dict : Bool)
    (save : Option (List ℕ)) (keeps : Keeps words status old new) (is : WentWell words (job.Run file steps depth latency dict save) status old new) where
  abbrev Answers : Answer → Type 0
  Answers answer = AnswersJob keeps.outside answer (job.Run file steps depth latency dict save)

  given : IsGiven Answers status old new
  given = job_given words (job.Run file steps depth latency dict save) status old new keeps is

  abbrev Fails : Failure → Type 0
  Fails failure = given.answer ≡ refusal failure

  -- what is answered of a run
  abbrev Runs : Running → Type 0
  Runs r = AnswersRun depth dict save given.answer r (run_of r).end

  -- an accepted program
  accepted : (r : Running) → r.steps ≡ steps → HoldsProgram old file latency r → RunTells r depth dict save status old new
  accepted r same program =
      let answered : AnswersRun depth dict save given.answer r (run_of r).end =
      run_answered Fails keeps.outside old file latency r Runs keeps.fits program
      (subst (λ (n : ℕ). AnswersRunning Fails keeps.outside file latency n Runs) (sym same) given.is_answer) in
      let found = written depth dict save given.answer r (run_of r).end answered in
      let tells : TellsOfRun r given.answer.out status old new = told_of_run Answers r given.answer.out status old new given refl
      (fails depth dict save given.answer r (run_of r).end answered) in
      record {
        text = given.answer.out;
        profile = found.0;
        written = found.1;
        tells = tells;
        files = subst (λ (f : Option SavedFile). HoldsAfter f old.files new.files) found.2 given.files;
        input = input_left words status old new file steps depth latency dict save keeps is r program (has_run status (run_of r).end tells.status_is);
      }

  -- a table that is refused: what is answered of a run, if there were one
  abbrev Told : TableFault → Running → Type 0
  Told fault r = AnswersRun depth dict save (refusal (why.Table fault)) r (run_of r).end

  refused : (fault : TableFault) → HoldsBadTable old file latency fault → RefusesTable fault status old new
  refused fault bad =
      let j : Job = job.Run file steps depth latency dict save in
      let told : Answer = refusal (why.Table fault) in
      let answered : Answers told = table_held (λ failure. told ≡ refusal failure) keeps.outside old keeps.fits file latency fault
      (λ latencies typed. AnswersInput (λ failure. told ≡ refusal failure) keeps.outside typed
      (λ input. Told fault (record { typed = typed; latencies = latencies; input = input; steps = steps }))) bad refl in
      let is_refused : given.answer ≡ told = answers_are_unique words keeps.outside given.answer told
      (words_answered keeps.outside words given.answer j is.asked given.is_answer) (words_answered keeps.outside words told j is.asked answered) in
      record {
        tells = tells_answer Answers status old new given (Some (why.Table fault)) None is_refused;
        files = subst (λ (a : Answer). HoldsAfter a.saved old.files new.files) is_refused given.files;
        input = input_untouched words status old new file steps depth latency dict save keeps is fault bad;
      }

-- THE HEADLINE
pub run_is_told : RunIsTold
run_is_told words status old new file steps depth latency dict save keeps is = record {
  accepted = accepted words status old new file steps depth latency dict save keeps is;
  refused = refused words status old new file steps depth latency dict save keeps is;
}
