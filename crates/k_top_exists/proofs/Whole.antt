-- Each job has an answer, and so all words have one.
use Rattle.std.proofs.Common.{ℕ, ℤ, ◌≡◌, ◌≢◌, ◌≤◌, Bool, false, refl, List, [], ◌++◌, length, Option, Some, None, Result, Ok, Err, arith, inl, inr, ◌⊎◌}
use Rattle.k_optab.specs.declared.node.Node.{Node}
use Rattle.k_optab.specs.Latencies.{standard_latencies}
use Rattle.k_optab.specs.Tree.{IsTree}
use Rattle.k_ending.specs.declared.ending.End.{End}
use Rattle.k_ending.specs.declared.ending.End.TheVariants as end
use Rattle.k_gen.specs.Text.{program}
use Rattle.k_replay_laws.specs.Texts.{IsReplayText}
use Rattle.k_replay_laws.proofs.Made.{texts_exist}
use Rattle.k_graph.specs.Listings.{IsListing}
use Rattle.k_graph.specs.declared.tree.Instance.{Instance}
use Rattle.k_report.specs.Report.{large_line}
use Rattle.k_report_profile.specs.RunReport.{IsRunReport, Ran, ops_of}
use Rattle.k_report_profile.specs.RunReport as reports
use Rattle.k_regions.specs.Regions.{regions_of}
use Rattle.k_carry_pairs.specs.Carried.{AreCarried}
use Rattle.k_carry_pairs.specs.declared.pairs.LoopPairs.{LoopPairs}
use Rattle.k_carry_text.specs.Lines.{carried_text}
use Rattle.k_report.specs.Graph.{IsGraphText}
use Rattle.k_data_profile.specs.Pages.{IsRunPage}
use Rattle.k_marks_meaning.specs.Marking.{marks_of}
use Rattle.k_pragma_written.specs.Written.{written_of}
use Rattle.k_pragma_profile.specs.Annotated.{IsRunAnnotation}
use Rattle.k_dict_saved.specs.declared.fault.SavedFault.TheVariants.{NotSaved}
use Rattle.k_dict_saved.specs.declared.saved.Saved.{Saved}
use Rattle.k_sum.specs.declared.sum.Sum.{Sum}
use Rattle.k_sum_read.specs.AnyFile.{BeginsSum}
use Rattle.k_sum_read.specs.SumFile.{ReadsSum}
use Rattle.k_words.specs.About.{asked_for, help_text, version_text}
use Rattle.k_words.specs.Within.{IsJobWithin}
use Rattle.k_words.specs.Words as words
use Rattle.k_words.specs.declared.about.Asked.{Asked}
use Rattle.k_words.specs.declared.about.Asked.TheVariants.{Help, Version}
use Rattle.k_words.specs.declared.job.Form.{Form}
use Rattle.k_words.specs.declared.job.Form.TheVariants as shown
use Rattle.k_words.specs.declared.job.Job.{Job}
use Rattle.k_words.specs.declared.job.Job.TheVariants as job
use Rattle.k_words.specs.declared.usage.Usage.{Usage}
use Rattle.k_words.specs.declared.usage.Usage.TheVariants as usage
use Rattle.k_words.proofs.Within.{jobs_are_within}
use Rattle.k_top_answers.specs.declared.failure.Failure.TheVariants as why
use Rattle.k_evaluation.specs.Runs.{listing_of}
use Rattle.k_top_answers.specs.Answers.{AnswersAnnotated, AnswersAsked, AnswersCarried, AnswersChecked, AnswersJob, AnswersMade, AnswersPage, AnswersProfile, AnswersReplayed, AnswersRun, AnswersShown, AnswersShownFile, AnswersSumShown, AnswersWords, IsAnnotated, IsAnswer, IsListed, IsPaged, IsShown, IsSumShown, checked, done, ended, made_running, ran_of, refusal, saved_file}
use Rattle.k_top_answers.specs.Checks.{told}
use Rattle.k_top_answers.specs.Steps.{Outside, Running, file_limit, profile_limit, run_of}
use Rattle.k_top_answers.specs.Storage.{MayBeMarked, WritesStorage}
use Rattle.k_top_answers.specs.Texts.{AreProfileLines, demo_line, plan_line, run_lines, tree_lines, with_report}
use Rattle.k_top_answers.specs.Texts as texts
use Rattle.k_top_lemmas.proofs.LatencyLemmas.{standard_bounded}
use Rattle.k_top_lemmas.proofs.RunLemmas.{IsSound, listing_within, run_few, run_gives_int, run_sources, run_whole}
use Rattle.k_top_lemmas.proofs.OneAnswer.{answers_are_unique}
use Rattle.k_top_exists.specs.Files.{SpellsProfileOrIsWrong}
use Rattle.k_top_exists.specs.Laws.{WordsHaveOneAnswer}
use Rattle.k_top_exists.specs.Profiles.{RunReportsExist}
use Rattle.k_top_exists.proofs.CarriedLoops.{carried_exist}
use Rattle.k_top_exists.proofs.Answers.{Answered, HasTree, absent_answers, found_answers, held_answers, running_answers, source_answers}
use Rattle.k_top_exists.proofs.GraphTexts.{graph_text_exists}
use Rattle.k_top_exists.proofs.Listings.{listing_exists, tree_exists}
use Rattle.k_top_exists.proofs.ReportParts.{contexts_exist, plans_exist}
use Rattle.k_top_exists.proofs.RowsOfTrees.{rows_exist}
use Rattle.k_top_exists.proofs.Merged.{merged_answers}
use Rattle.k_top_exists.proofs.RunReports.{profile_is_shown, run_annotations_exist, run_pages_exist, run_reports_exist}
use Rattle.k_top_exists.proofs.SavedFiles.{saved_file_is_answered}
use Rattle.k_top_exists.proofs.SumFiles.{begins_decided}
use Rattle.k_top_exists.proofs.SumLines.{sum_is_read}
use Rattle.k_top_exists.proofs.SumReports.{sum_is_shown}
use Rattle.k_top_exists.proofs.Storage.{marked_found, storage_written}
use Rattle.k_top_exists.proofs.Words.{words_are_answered}

-- a run from which main returned has a profile or none, and a report
run_reported_so : RunReportsExist
run_reported_so = run_reports_exist rows_exist contexts_exist plans_exist

-- what a report tells of a run is told by the lines of a summary
lines_of : (ran : Ran) (dict : Bool) (profile : Option Saved) (report : List ℕ) → IsRunReport ran dict profile report → (lines : List ℕ) × AreProfileLines ran lines
lines_of ran dict _ _ (reports.whole nodes saved text tree is report) = (
  tree_lines nodes report.rows ++ plan_line report.contexts report.plan,
  texts.whole nodes saved report.rows report.contexts report.plan tree is report.are_rows report.are_contexts report.planned,
)
lines_of ran dict _ _ (reports.large nodes tree over) = (large_line, texts.large nodes tree over)

-- the tree of a run
tree_of : (r : Running) (depth : ℕ) → IsSound r → (nodes : List Node) × IsTree depth (run_of r).events nodes
tree_of r depth sound = tree_exists depth (run_of r).events (run_sources r sound)

-- RUN
reported : (r : Running) (exit : ℤ) (depth : ℕ) (dict : Bool) (save : Option (List ℕ)) → IsSound r → (run_of r).end ≡ end.Returned exit → 1 ≤ depth → depth ≤ 32
    → (profile : Option Saved) × (report : List ℕ) × IsRunReport (ran_of r exit depth) dict profile report
    → Answered (λ a. AnswersRun depth dict save a r (end.Returned exit))
reported r exit depth dict save sound is some tracked (profile, report, is_report) = (
  record { out = with_report (run_of r).output report; failure = None; more = None; saved = saved_file save profile },
  record { profile = profile; report = report; is_report = is_report; is = refl },
)

run_answers : (depth : ℕ) (dict : Bool) (save : Option (List ℕ)) (r : Running) → IsSound r → 1 ≤ depth → depth ≤ 32 → (how : End) → (run_of r).end ≡ how
    → Answered (λ a. AnswersRun depth dict save a r how)
run_answers depth dict save r sound some tracked (end.Returned exit) is =
    let tree = tree_of r depth sound in
    reported r exit depth dict save sound is some tracked
    (run_reported_so (ran_of r exit depth) tree.0 dict (run_whole r sound exit depth is (run_gives_int r sound exit is) some tracked) tree.1 (run_few r depth tree.0 sound tree.1))
run_answers depth dict save r sound some tracked (end.Trapped trap place) is = (ended (run_of r).output r.steps (end.Trapped trap place), refl)
run_answers depth dict save r sound some tracked end.OutOfSteps is = (ended (run_of r).output r.steps end.OutOfSteps, refl)

-- GRAPH
listed : (depth : ℕ) (r : Running) → IsSound r → Answered (λ a. IsListed depth a r)
listed depth r sound =
    let tree : (tree : List Instance) × IsListing depth (run_of r).events tree = listing_exists depth (run_of r).events (run_sources r sound) in
    let text : (text : List ℕ) × IsGraphText (listing_of (run_of r)) tree.0 text =
    graph_text_exists (listing_of (run_of r)) tree.0 (run_sources r sound) (listing_within depth (run_of r).events tree.0 tree.1) in
    (ended text.0 r.steps (run_of r).end, record { tree = tree.0; text = text.0; is_tree = tree.1; is_text = text.1; is = refl })

-- CARRIED
carried_told : (depth : ℕ) (storage : Bool) (r : Running) (exit : ℤ) → (loops : List LoopPairs) × AreCarried (regions_of r.typed) depth (run_of r).events loops
    → (shared : List ℕ) × WritesStorage storage r depth shared → Answered (λ a. AnswersCarried depth storage a r (end.Returned exit))
carried_told depth storage r exit (loops, are_carried) (shared, writes) = (
  done (carried_text (regions_of r.typed) loops ++ shared),
  record { loops = loops; are_carried = are_carried; shared = shared; writes = writes; is = refl },
)

carried_answers : (depth : ℕ) (storage : Bool) (r : Running) → IsSound r → (how : End) → Answered (λ a. AnswersCarried depth storage a r how)
carried_answers depth storage r sound (end.Returned exit) =
    carried_told depth storage r exit (carried_exist (regions_of r.typed) depth (run_of r).events) (storage_written r depth storage)
carried_answers depth storage r sound (end.Trapped trap place) = (ended [] r.steps (end.Trapped trap place), refl)
carried_answers depth storage r sound end.OutOfSteps = (ended [] r.steps end.OutOfSteps, refl)

-- REPLAY
replay_told : (workers seed : ℕ) (r : Running) (exit : ℤ) → (text : List ℕ) × IsReplayText workers seed exit (run_of r).output (run_of r).events text
    → Answered (λ a. AnswersReplayed workers seed a r (end.Returned exit))
replay_told workers seed r exit (text, is) = (done text, (text, is, refl))

replay_answers : (workers seed : ℕ) (r : Running) → IsSound r → 1 ≤ workers → workers ≤ 16 → (how : End) → Answered (λ a. AnswersReplayed workers seed a r how)
replay_answers workers seed r sound some few (end.Returned exit) =
    replay_told workers seed r exit (texts_exist workers seed exit (run_of r).output (run_of r).events (run_sources r sound) some few)
replay_answers workers seed r sound some few (end.Trapped trap place) = (ended [] r.steps (end.Trapped trap place), refl)
replay_answers workers seed r sound some few end.OutOfSteps = (ended [] r.steps end.OutOfSteps, refl)

-- PAGE
page_answers : (file source : List ℕ) (depth : ℕ) (dict : Bool) (r : Running) → IsSound r → 1 ≤ depth → depth ≤ 32 → (how : End) → (run_of r).end ≡ how
    → Answered (λ a. AnswersPage file source depth dict a r how)
page_answers file source depth dict r sound some tracked (end.Returned exit) is =
    let tree = tree_of r depth sound in
    let page : (text : List ℕ) × IsRunPage file source (ran_of r exit depth) dict text =
    run_pages_exist rows_exist contexts_exist plans_exist file source (ran_of r exit depth) tree.0 dict
    (run_whole r sound exit depth is (run_gives_int r sound exit is) some tracked) tree.1 (run_few r depth tree.0 sound tree.1) in
    (done page.0, (page.0, page.1, refl))
page_answers file source depth dict r sound some tracked (end.Trapped trap place) is = (ended [] r.steps (end.Trapped trap place), refl)
page_answers file source depth dict r sound some tracked end.OutOfSteps is = (ended [] r.steps end.OutOfSteps, refl)

-- a run's page, beside the source that the file holds
paged : (outside : Outside) (file : List ℕ) (depth : ℕ) (dict : Bool) → 1 ≤ depth → depth ≤ 32 → (source : List ℕ) → outside.files file ≡ Some source
    → (r : Running) → IsSound r → Answered (λ a. IsPaged outside file depth dict a r)
paged outside file depth dict some tracked source is r sound =
    let page = page_answers file source depth dict r sound some tracked (run_of r).end refl in (page.0, (source, is, page.1))

paged_answers : (outside : Outside) (file : List ℕ) (latency : Option (List ℕ)) (steps depth : ℕ) (dict : Bool) → steps ≤ 1000000000 → 1 ≤ depth → depth ≤ 32
    → (content : Option (List ℕ)) → outside.files file ≡ content → Answered (λ a. AnswersJob outside a (job.Page file steps depth latency dict))
paged_answers outside file latency steps depth dict limited some tracked None is =
    absent_answers outside steps (λ a r. IsPaged outside file depth dict a r) file latency is
paged_answers outside file latency steps depth dict limited some tracked (Some source) is =
    running_answers outside steps limited (λ a r. IsPaged outside file depth dict a r) (paged outside file depth dict some tracked source is) file latency

-- ANNOTATE
annotated_told : (source : List ℕ) → HasTree source → (depth : ℕ) (strict : Bool) (r : Running) → IsSound r → 1 ≤ depth → depth ≤ 32 → (exit : ℤ) → (run_of r).end ≡ end.Returned exit
    → (loops : List LoopPairs) × AreCarried (regions_of r.typed) depth (run_of r).events loops
    → Answered (λ a. AnswersAnnotated source depth strict a r (end.Returned exit))
annotated_told source has depth strict r sound some tracked exit is (loops, are_carried) =
    let tree = tree_of r depth sound in
    let found : (found : List LoopPairs) × MayBeMarked strict r depth loops found = marked_found r depth strict loops in
    let told : (text : List ℕ) × IsRunAnnotation source r.typed (marks_of r.typed) (ran_of r exit depth) found.0 text =
    run_annotations_exist rows_exist contexts_exist plans_exist source (written_of has.0) (record { tree = has.0; read = has.1; is = refl }) r.typed (marks_of r.typed) found.0 (ran_of r exit depth) tree.0
    (run_whole r sound exit depth is (run_gives_int r sound exit is) some tracked) tree.1 (run_few r depth tree.0 sound tree.1) in
    (done told.0, record { loops = loops; are_carried = are_carried; found = found.0; may = found.1; text = told.0; annotated = told.1; is = refl })

annotated_answers : (source : List ℕ) → HasTree source → (depth : ℕ) (strict : Bool) (r : Running) → IsSound r → 1 ≤ depth → depth ≤ 32 → (how : End) → (run_of r).end ≡ how
    → Answered (λ a. AnswersAnnotated source depth strict a r how)
annotated_answers source has depth strict r sound some tracked (end.Returned exit) is =
    annotated_told source has depth strict r sound some tracked exit is (carried_exist (regions_of r.typed) depth (run_of r).events)
annotated_answers source has depth strict r sound some tracked (end.Trapped trap place) is = (ended [] r.steps (end.Trapped trap place), refl)
annotated_answers source has depth strict r sound some tracked end.OutOfSteps is = (ended [] r.steps end.OutOfSteps, refl)

-- the annotated source of a run, of the source that the file holds
annotated_held : (outside : Outside) (file : List ℕ) (depth : ℕ) (strict : Bool) → 1 ≤ depth → depth ≤ 32 → (source : List ℕ) → outside.files file ≡ Some source → HasTree source
    → (r : Running) → IsSound r → Answered (λ a. IsAnnotated outside file depth strict a r)
annotated_held outside file depth strict some tracked source is has r sound =
    let told = annotated_answers source has depth strict r sound some tracked (run_of r).end refl in (told.0, (source, is, told.1))

annotate_answers : (outside : Outside) (file : List ℕ) (latency : Option (List ℕ)) (steps depth : ℕ) (strict : Bool) → steps ≤ 1000000000 → 1 ≤ depth → depth ≤ 32
    → Answered (λ a. AnswersJob outside a (job.Annotate file steps depth latency strict))
annotate_answers outside file latency steps depth strict limited some tracked =
    held_answers outside steps limited (λ a r. IsAnnotated outside file depth strict a r) file (annotated_held outside file depth strict some tracked) latency

-- SHOW
by_profile : (form : Form) (bytes : List ℕ) → SpellsProfileOrIsWrong bytes → Answered (λ a. (read : Result Saved ℕ) × AnswersProfile form a bytes read)
by_profile form bytes (inl (saved, is)) =
    let text : (text : List ℕ) × IsShown form saved text = profile_is_shown rows_exist contexts_exist plans_exist form saved is.0 in
    (done text.0, (Ok saved, (is, (text.0, text.1, refl))))
by_profile form bytes (inr (place, is)) = (refusal (why.Saved place), (Err place, (is, refl)))

by_sum : (form : Form) (bytes : List ℕ) → ((sum : Sum) × ReadsSum bytes (Ok sum)) ⊎ ((place : ℕ) × ReadsSum bytes (Err (NotSaved place)))
    → Answered (λ a. (read : Result Sum ℕ) × AnswersSumShown form a bytes read)
by_sum form bytes (inl (sum, is)) =
    let text : (text : List ℕ) × IsSumShown form sum text = sum_is_shown form sum is.0 in
    (done text.0, (Ok sum, (is, (text.0, text.1, refl))))
by_sum form bytes (inr (place, is)) = (refusal (why.Saved place), (Err place, (is, refl)))

shown_answers : (form : Form) (bytes : List ℕ) → BeginsSum bytes ⊎ ¬ BeginsSum bytes → Answered (λ a. AnswersShown form a bytes)
shown_answers form bytes (inl begins) =
    let a : Answered (λ a. (read : Result Sum ℕ) × AnswersSumShown form a bytes read) = by_sum form bytes (sum_is_read bytes) in (a.0, inl (begins, a.1))
shown_answers form bytes (inr begins_not) =
    let a : Answered (λ a. (read : Result Saved ℕ) × AnswersProfile form a bytes read) = by_profile form bytes (saved_file_is_answered bytes) in (a.0, inr (begins_not, a.1))

show_answers : (outside : Outside) (file : List ℕ) (form : Form) → Answered (λ a. AnswersShownFile outside file form a)
show_answers outside file form =
    found_answers profile_limit file (AnswersShown form) (λ bytes fits. shown_answers form bytes (begins_decided bytes)) (outside.files file)

-- CHECK
checked_answers : (file bytes : List ℕ) → Answered (λ a. AnswersChecked file a bytes)
checked_answers file bytes =
    source_answers (λ failure. checked (told file bytes failure) failure) (λ a typed. a ≡ done []) standard_latencies (standard_bounded standard_latencies refl) 1 (omega arith)
    bytes (λ typed has sound. (done [], refl))

-- DEMO
made_answers : (number loops : ℕ) (r : Running) → IsSound r → (how : End) → (run_of r).end ≡ how → Answered (λ a. AnswersMade number loops a r how)
made_answers number loops r sound (end.Returned exit) is =
    let tree = tree_of r 24 sound in
    let report = run_reported_so (ran_of r exit 24) tree.0 false (run_whole r sound exit 24 is (run_gives_int r sound exit is) (omega arith) (omega arith)) tree.1
    (run_few r 24 tree.0 sound tree.1) in
    let lines = lines_of (ran_of r exit 24) false report.0 report.1 report.2 in
    let text : List ℕ = demo_line number loops ++ run_lines (length (run_of r).output) exit (ops_of (ran_of r exit 24)) ++ lines.0 in
    (done text, (text, record { lines = lines.0; are = lines.1; is = refl }, refl))
made_answers number loops r sound (end.Trapped trap place) is = (ended [] r.steps (end.Trapped trap place), refl)
made_answers number loops r sound end.OutOfSteps is = (ended [] r.steps end.OutOfSteps, refl)

-- A JOB
job_answers : (outside : Outside) (asked : Job) → IsJobWithin asked → Answered (λ a. AnswersJob outside a asked)
job_answers outside (job.Run file steps depth latency dict save) within =
    running_answers outside steps within.steps.at_most (λ a r. AnswersRun depth dict save a r (run_of r).end)
    (λ r sound. run_answers depth dict save r sound within.depth.at_least within.depth.at_most (run_of r).end refl) file latency
job_answers outside (job.Graph file steps depth latency) within =
    let most : steps ≤ 200000 = within.steps.at_most in
    running_answers outside steps (omega (arith, most)) (λ a r. IsListed depth a r) (listed depth) file latency
job_answers outside (job.Carried file steps depth latency storage) within =
    running_answers outside steps within.steps.at_most (λ a r. AnswersCarried depth storage a r (run_of r).end)
    (λ r sound. carried_answers depth storage r sound (run_of r).end) file latency
job_answers outside (job.Replay file steps depth latency workers seed) within =
    let most : steps ≤ 200000 = within.run.steps.at_most in
    running_answers outside steps (omega (arith, most)) (λ a r. AnswersReplayed workers seed a r (run_of r).end)
    (λ r sound. replay_answers workers seed r sound within.workers.at_least within.workers.at_most (run_of r).end) file latency
job_answers outside (job.Page file steps depth latency dict) within =
    paged_answers outside file latency steps depth dict within.steps.at_most within.depth.at_least within.depth.at_most (outside.files file) refl
job_answers outside (job.Annotate file steps depth latency strict) within =
    annotate_answers outside file latency steps depth strict within.steps.at_most within.depth.at_least within.depth.at_most
job_answers outside (job.Show file dict) within = show_answers outside file (shown.Report dict)
job_answers outside (job.ShowJson file dict) within = show_answers outside file (shown.Json dict)
job_answers outside (job.ShowCsv file) within = show_answers outside file shown.Csv
job_answers outside (job.Merge save parts) within = merged_answers save outside parts
job_answers outside (job.Check file) within = found_answers file_limit file (AnswersChecked file) (λ bytes fits. checked_answers file bytes) (outside.files file)
job_answers outside (job.Demo number loops) within =
    source_answers refusal (λ a t. AnswersMade number loops a (made_running t) (run_of (made_running t)).end)
    standard_latencies (standard_bounded standard_latencies refl) 100000000 (omega arith)
    (program number loops) (λ t has sound. made_answers number loops (made_running t) (sound []) (run_of (made_running t)).end refl)

-- THE WORDS
words_answer : (outside : Outside) (list : List (List ℕ)) (read : Result Job Usage) → words.IsAnswer list read → read ≢ Err usage.Memory
    → Answered (λ a. AnswersWords outside a read)
words_answer outside list (Ok asked) is other = job_answers outside asked (jobs_are_within list asked is)
words_answer outside list (Err usage.Memory) is other = absurd (other refl)
words_answer outside list (Err usage.NoCommand) is other = (refusal (why.Usage usage.NoCommand), refl)
words_answer outside list (Err (usage.UnknownWord index)) is other = (refusal (why.Usage (usage.UnknownWord index)), refl)
words_answer outside list (Err (usage.BadNumber index)) is other = (refusal (why.Usage (usage.BadNumber index)), refl)
words_answer outside list (Err (usage.Twice index)) is other = (refusal (why.Usage (usage.Twice index)), refl)
words_answer outside list (Err usage.NoFile) is other = (refusal (why.Usage usage.NoFile), refl)

read_answers : (outside : Outside) (list : List (List ℕ)) → (read : Result Job Usage) × words.IsAnswer list read × (read ≢ Err usage.Memory)
    → Answered (λ a. AnswersAsked list outside a None)
read_answers outside list (read, is, other) =
    let a : Answered (λ a. AnswersWords outside a read) = words_answer outside list read is other in (a.0, (read, is, a.1))

asked_answers : (list : List (List ℕ)) (outside : Outside) (text : Option Asked) → Answered (λ a. AnswersAsked list outside a text)
asked_answers list outside (Some Help) = (done help_text, refl)
asked_answers list outside (Some Version) = (done version_text, refl)
asked_answers list outside None = read_answers outside list (words_are_answered list)

pub words_have_one_answer : WordsHaveOneAnswer
words_have_one_answer list outside =
    let a : Answered (λ a. IsAnswer list outside a) = asked_answers list outside (asked_for list) in
    (a.0, record { is = a.1; alone = λ other is. answers_are_unique list outside other a.0 is a.1 })
