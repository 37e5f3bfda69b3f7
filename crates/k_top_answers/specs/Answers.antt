-- Believed with the theorem on the top call.
-- *Whole answer*: what `kremlin` answers to the words of its command line, where files and the input hold what they hold.
use Rattle.std.specs.Prelude.{ℕ, ℤ, ◌≡◌, ◌⊎◌, ◌++◌, Bool, IsTrue, List, [], length, Option, Some, None, Result, Ok, Err}
use Rattle.k_optab.specs.Latencies.{standard_latencies}
use Rattle.k_ending.specs.declared.ending.End.{End}
use Rattle.k_ending.specs.declared.ending.End.TheVariants.{Returned}
use Rattle.k_evaluation.specs.Runs.{listing_of}
use Rattle.k_gen.specs.Text.{program}
use Rattle.k_types_calls.specs.Getchar.{calls_getchar}
use Rattle.k_marks_meaning.specs.Marking.{marks_of}
use Rattle.k_graph.specs.Listings.{IsListing}
use Rattle.k_graph.specs.declared.tree.Instance.{Instance}
use Rattle.k_dict_saved.specs.declared.fault.SavedFault.TheVariants.{NotSaved}
use Rattle.k_report_profile.specs.Report.{IsReport}
use Rattle.k_data_profile.specs.Pages.{IsRunPage}
use Rattle.k_data_profile.specs.Shown.{IsDocument, IsTable}
use Rattle.k_pragma_profile.specs.Annotated.{IsRunAnnotation}
use Rattle.k_report_profile.specs.RunReport.{IsRunReport, Ran}
use Rattle.k_regions.specs.Regions.{regions_of}
use Rattle.k_carry_pairs.specs.Carried.{AreCarried}
use Rattle.k_carry_pairs.specs.declared.pairs.LoopPairs.{LoopPairs}
use Rattle.k_carry_text.specs.Lines.{carried_text}
use Rattle.k_report.specs.Graph.{IsGraphText}
use Rattle.k_replay_laws.specs.Texts.{IsReplayText}
use Rattle.k_dict_saved.specs.Profile.{Reads}
use Rattle.k_dict_saved.specs.SavedText.{saved_text}
use Rattle.k_dict_saved.specs.declared.saved.Saved.{Saved}
use Rattle.k_sum.specs.declared.sum.Sum.{Sum}
use Rattle.k_sum_read.specs.AnyFile.{BeginsSum}
use Rattle.k_sum_read.specs.SumFile.{ReadsSum}
use Rattle.k_sum_report.specs.SumReport.{IsSumDocument, IsSumReport, IsSumTable}
use Rattle.k_words.specs.About.{asked_for, help_text, version_text}
use Rattle.k_words.specs.Setting.{standard_depth, standard_steps}
use Rattle.k_words.specs.Words as words
use Rattle.k_words.specs.declared.about.Asked.{Asked}
use Rattle.k_words.specs.declared.about.Asked.TheVariants.{Help, Version}
use Rattle.k_words.specs.declared.job.Job.{Job}
use Rattle.k_words.specs.declared.job.Job.TheVariants as job
use Rattle.k_words.specs.declared.job.Form.{Form}
use Rattle.k_words.specs.declared.job.Form.TheVariants as shown
use Rattle.k_words.specs.declared.usage.Usage.{Usage}
use Rattle.k_words.specs.declared.usage.Usage.TheVariants as usage
use Rattle.k_types_meaning.specs.declared.tree.unit.TUnit.{TUnit}
use Rattle.k_top_answers.specs.declared.answer.Answer.{Answer}
use Rattle.k_top_answers.specs.declared.answer.SavedFile.{SavedFile}
use Rattle.k_top_answers.specs.declared.failure.Failure.{Failure}
use Rattle.k_top_answers.specs.declared.failure.Failure.TheVariants as why
use Rattle.k_top_answers.specs.Checks.{told}
use Rattle.k_top_answers.specs.Failures.{failure_of_end}
use Rattle.k_top_answers.specs.Merges.{AnswersSum, IsMerge}
use Rattle.k_top_answers.specs.Steps.{AnswersFile, AnswersProgram, AnswersRunning, AnswersSource, Outside, Running, file_limit, profile_limit, run_of}
use Rattle.k_top_answers.specs.Storage.{MayBeMarked, WritesStorage}
use Rattle.k_top_answers.specs.Texts.{IsSummary, with_report}

-- the call ran to its end, and saved nothing
abbrev pub done : List ℕ → Answer
done text = record { out = text; failure = None; more = None; saved = None }

-- a refusal: nothing is put on out
abbrev pub refusal : Failure → Answer
refusal failure = record { out = []; failure = Some failure; more = None; saved = None }

-- a refusal of which this is told on err, behind its line
abbrev pub checked : List ℕ → Failure → Answer
checked text failure = record { out = []; failure = Some failure; more = Some text; saved = None }

-- a run's answer where nothing is saved: what is put on out, and why the run failed, if it did
abbrev pub ended : List ℕ → ℕ → End → Answer
ended text steps end = record { out = text; failure = failure_of_end steps end; more = None; saved = None }

-- a run from which main returned this number, of which the instances below a depth are tracked
abbrev pub ran_of : Running → ℤ → ℕ → Ran
ran_of r exit depth = record { exit = exit; events = (run_of r).events; regions = regions_of r.typed; depth = depth }

-- the file that is saved, where one is asked for and there is a profile
abbrev pub saved_file : Option (List ℕ) → Option Saved → Option SavedFile
saved_file None profile = None
saved_file (Some file) None = None
saved_file (Some file) (Some profile) = Some (record { name = file; bytes = saved_text profile })

-- RUN, where main returned: the output, the report behind it, and the profile where it is to be saved
pub record IsReported (r : Running) (exit : ℤ) (depth : ℕ) (dict : Bool) (save : Option (List ℕ)) (answer : Answer) : Type 0 where
  pub profile : Option Saved
  pub report : List ℕ
  pub is_report : IsRunReport (ran_of r exit depth) dict profile report
  pub is : answer ≡ record { out = with_report (run_of r).output report; failure = None; more = None; saved = saved_file save profile }

-- RUN, by how the run ended: where main did not return, the output so far, and nothing more
abbrev pub AnswersRun : ℕ → Bool → Option (List ℕ) → Answer → Running → End → Type 0
AnswersRun depth dict save answer r (Returned exit) = IsReported r exit depth dict save answer
AnswersRun depth dict save answer r end = answer ≡ ended (run_of r).output r.steps end

-- GRAPH: the listing of the run and of its instances, whatever the end
pub record IsListed (depth : ℕ) (answer : Answer) (r : Running) : Type 0 where
  pub tree : List Instance
  pub text : List ℕ
  pub is_tree : IsListing depth (run_of r).events tree
  pub is_text : IsGraphText (listing_of (run_of r)) tree text
  pub is : answer ≡ ended text r.steps (run_of r).end

-- CARRIED, where main returned: what the loops of the run carry from turn to turn, and behind it what their turns share, where it is asked for
pub record ToldCarried (r : Running) (depth : ℕ) (storage : Bool) (answer : Answer) : Type 0 where
  pub loops : List LoopPairs
  pub are_carried : AreCarried (regions_of r.typed) depth (run_of r).events loops
  pub shared : List ℕ
  pub writes : WritesStorage storage r depth shared
  pub is : answer ≡ done (carried_text (regions_of r.typed) loops ++ shared)

-- CARRIED, by how the run ended: where main did not return, nothing
abbrev pub AnswersCarried : ℕ → Bool → Answer → Running → End → Type 0
AnswersCarried depth storage answer r (Returned exit) = ToldCarried r depth storage answer
AnswersCarried depth storage answer r end = answer ≡ ended [] r.steps end

-- REPLAY, by how the run ended: where main returned, its output, and how so many workers fire its operations; and else nothing
abbrev pub AnswersReplayed : ℕ → ℕ → Answer → Running → End → Type 0
AnswersReplayed workers seed answer r (Returned exit) =
    (text : List ℕ) × IsReplayText workers seed exit (run_of r).output (run_of r).events text × (answer ≡ done text)
AnswersReplayed workers seed answer r end = answer ≡ ended [] r.steps end

-- PAGE, by how the run of a source in a file of this name ended: the page of the run where main returned, and else nothing
abbrev pub AnswersPage : List ℕ → List ℕ → ℕ → Bool → Answer → Running → End → Type 0
AnswersPage file source depth dict answer r (Returned exit) = (text : List ℕ) × IsRunPage file source (ran_of r exit depth) dict text × (answer ≡ done text)
AnswersPage file source depth dict answer r end = answer ≡ ended [] r.steps end

-- PAGE of a run: the source beside it is what the file holds
abbrev pub IsPaged : Outside → List ℕ → ℕ → Bool → Answer → Running → Type 0
IsPaged outside file depth dict answer r =
    (source : List ℕ) × (outside.files file ≡ Some source) × AnswersPage file source depth dict answer r (run_of r).end

-- ANNOTATE, where main returned: the source with what its functions and loops took, and a line before each loop that the plan picks, that carries nothing
-- from turn to turn, that may run in parallel, and where this is asked for, that shares nothing either and had no instance too deep to be looked at
pub record ToldAnnotated (source : List ℕ) (r : Running) (exit : ℤ) (depth : ℕ) (strict : Bool) (answer : Answer) : Type 0 where
  pub loops : List LoopPairs
  pub are_carried : AreCarried (regions_of r.typed) depth (run_of r).events loops
  pub found : List LoopPairs
  pub may : MayBeMarked strict r depth loops found
  pub text : List ℕ
  pub annotated : IsRunAnnotation source r.typed (marks_of r.typed) (ran_of r exit depth) found text
  pub is : answer ≡ done text

-- ANNOTATE, by how the run of a source ended: where main did not return, nothing
abbrev pub AnswersAnnotated : List ℕ → ℕ → Bool → Answer → Running → End → Type 0
AnswersAnnotated source depth strict answer r (Returned exit) = ToldAnnotated source r exit depth strict answer
AnswersAnnotated source depth strict answer r end = answer ≡ ended [] r.steps end

-- ANNOTATE of a run: the source is what the file holds
abbrev pub IsAnnotated : Outside → List ℕ → ℕ → Bool → Answer → Running → Type 0
IsAnnotated outside file depth strict answer r =
    (source : List ℕ) × (outside.files file ≡ Some source) × AnswersAnnotated source depth strict answer r (run_of r).end

-- how a profile is shown: by its report, by a document, or by the table of its rows
abbrev pub IsShown : Form → Saved → List ℕ → Type 0
IsShown (shown.Report dict) profile text = IsReport profile dict text
IsShown (shown.Json dict) profile text = IsDocument profile dict text
IsShown shown.Csv profile text = IsTable profile text

-- SHOW: the profile that the bytes spell, as it is to be shown
abbrev pub AnswersProfile : Form → Answer → List ℕ → Result Saved ℕ → Type 0
AnswersProfile form answer bytes (Ok profile) = Reads bytes (Ok profile) × ((text : List ℕ) × IsShown form profile text × (answer ≡ done text))
AnswersProfile form answer bytes (Err place) = Reads bytes (Err (NotSaved place)) × (answer ≡ refusal (why.Saved place))

-- how a sum is shown
abbrev pub IsSumShown : Form → Sum → List ℕ → Type 0
IsSumShown (shown.Report dict) sum text = IsSumReport sum dict text
IsSumShown (shown.Json dict) sum text = IsSumDocument sum dict text
IsSumShown shown.Csv sum text = IsSumTable sum text

-- SHOW of a sum: that which the bytes spell, as it is to be shown
abbrev pub AnswersSumShown : Form → Answer → List ℕ → Result Sum ℕ → Type 0
AnswersSumShown form answer bytes (Ok sum) = ReadsSum bytes (Ok sum) × ((text : List ℕ) × IsSumShown form sum text × (answer ≡ done text))
AnswersSumShown form answer bytes (Err place) = ReadsSum bytes (Err (NotSaved place)) × (answer ≡ refusal (why.Saved place))

-- SHOW: sums are a third format of saved files, beside formats 1 and 2 of a profile. The first line tells the format, and by its rules the file is shown or
-- refused at its first wrong line; one that tells none of the three is wrong itself, at byte 0
abbrev pub AnswersShown : Form → Answer → List ℕ → Type 0
AnswersShown form answer bytes =
    (BeginsSum bytes × ((read : Result Sum ℕ) × AnswersSumShown form answer bytes read))
    ⊎ ((¬ BeginsSum bytes) × ((read : Result Saved ℕ) × AnswersProfile form answer bytes read))

-- SHOW of a file in a form
abbrev pub AnswersShownFile : Outside → List ℕ → Form → Answer → Type 0
AnswersShownFile outside file form answer =
    AnswersFile (λ failure. answer ≡ refusal failure) outside profile_limit file (AnswersShown form answer)

-- CHECK puts nothing on out: nothing is told of a source that is accepted, and of one that is refused, on err behind the line, where and why
abbrev pub AnswersChecked : List ℕ → Answer → List ℕ → Type 0
AnswersChecked file answer source =
    AnswersSource (λ failure. answer ≡ checked (told file source failure) failure) (λ typed. answer ≡ done []) source

-- DEMO, by how the run of the made program ended: its summary where main returned, and else nothing
abbrev pub AnswersMade : ℕ → ℕ → Answer → Running → End → Type 0
AnswersMade number loops answer r (Returned exit) =
    (text : List ℕ) × IsSummary number loops (length (run_of r).output) (ran_of r exit standard_depth) text × (answer ≡ done text)
AnswersMade number loops answer r end = answer ≡ ended [] r.steps end

-- a made program as it is run: as `run` does without options, and with no input
abbrev pub made_running : TUnit → Running
made_running typed = record { typed = typed; latencies = standard_latencies; input = []; steps = standard_steps }

-- THE JOB decides
abbrev pub AnswersJob : Outside → Answer → Job → Type 0
AnswersJob outside answer (job.Run file steps depth latency dict save) =
    AnswersRunning (λ failure. answer ≡ refusal failure) outside file latency steps (λ r. AnswersRun depth dict save answer r (run_of r).end)
AnswersJob outside answer (job.Graph file steps depth latency) =
    AnswersRunning (λ failure. answer ≡ refusal failure) outside file latency steps (IsListed depth answer)
AnswersJob outside answer (job.Carried file steps depth latency storage) =
    AnswersRunning (λ failure. answer ≡ refusal failure) outside file latency steps (λ r. AnswersCarried depth storage answer r (run_of r).end)
AnswersJob outside answer (job.Replay file steps depth latency workers seed) =
    AnswersRunning (λ failure. answer ≡ refusal failure) outside file latency steps (λ r. AnswersReplayed workers seed answer r (run_of r).end)
AnswersJob outside answer (job.Page file steps depth latency dict) =
    AnswersRunning (λ failure. answer ≡ refusal failure) outside file latency steps (IsPaged outside file depth dict answer)
AnswersJob outside answer (job.Annotate file steps depth latency strict) =
    AnswersRunning (λ failure. answer ≡ refusal failure) outside file latency steps (IsAnnotated outside file depth strict answer)
AnswersJob outside answer (job.Show file dict) = AnswersShownFile outside file (shown.Report dict) answer
AnswersJob outside answer (job.ShowJson file dict) = AnswersShownFile outside file (shown.Json dict) answer
AnswersJob outside answer (job.ShowCsv file) = AnswersShownFile outside file shown.Csv answer
AnswersJob outside answer (job.Merge save parts) = AnswersSum (λ failure. answer ≡ refusal failure) outside (IsMerge save answer) parts
AnswersJob outside answer (job.Check file) = AnswersFile (λ failure. answer ≡ refusal failure) outside file_limit file (AnswersChecked file answer)
AnswersJob outside answer (job.Demo number loops) =
    AnswersSource (λ failure. answer ≡ refusal failure) (λ typed. AnswersMade number loops answer (made_running typed) (run_of (made_running typed)).end)
    (program number loops)

-- THE WORDS decide: they ask for a job, or their first wrong word refuses them
abbrev pub AnswersWords : Outside → Answer → Result Job Usage → Type 0
AnswersWords outside answer (Err usage.Memory) = ⊥
AnswersWords outside answer (Err fault) = answer ≡ refusal (why.Usage fault)
AnswersWords outside answer (Ok asked) = AnswersJob outside answer asked

-- words that ask for a text on the program itself get it, and others are read
abbrev pub AnswersAsked : List (List ℕ) → Outside → Answer → Option Asked → Type 0
AnswersAsked list outside answer (Some Help) = answer ≡ done help_text
AnswersAsked list outside answer (Some Version) = answer ≡ done version_text
AnswersAsked list outside answer None = (read : Result Job Usage) × words.IsAnswer list read × AnswersWords outside answer read

-- THE WHOLE ANSWER to these words, where the outside holds this
abbrev pub IsAnswer : List (List ℕ) → Outside → Answer → Type 0
IsAnswer list outside answer = AnswersAsked list outside answer (asked_for list)

-- a source file and a table make an accepted program, which calls `getchar`
abbrev pub FilesCall : Outside → List ℕ → Option (List ℕ) → Type 0
FilesCall outside file latency = AnswersProgram (λ failure. ⊥) outside file latency (λ latencies typed. IsTrue (calls_getchar typed))

-- a job runs one
abbrev pub JobCalls : Outside → Job → Type 0
JobCalls outside (job.Run file steps depth latency dict save) = FilesCall outside file latency
JobCalls outside (job.Graph file steps depth latency) = FilesCall outside file latency
JobCalls outside (job.Carried file steps depth latency storage) = FilesCall outside file latency
JobCalls outside (job.Replay file steps depth latency workers seed) = FilesCall outside file latency
JobCalls outside (job.Page file steps depth latency dict) = FilesCall outside file latency
JobCalls outside (job.Annotate file steps depth latency strict) = FilesCall outside file latency
JobCalls outside (job.Show file dict) = ⊥
JobCalls outside (job.ShowJson file dict) = ⊥
JobCalls outside (job.ShowCsv file) = ⊥
JobCalls outside (job.Merge save parts) = ⊥
JobCalls outside (job.Check file) = ⊥
JobCalls outside (job.Demo number loops) = ⊥

-- THE INPUT IS ASKED FOR: the words run an accepted program that calls `getchar`
abbrev pub CallsForInput : List (List ℕ) → Outside → Type 0
CallsForInput list outside = (asked : Job) × words.IsAnswer list (Ok asked) × JobCalls outside asked

-- a job reads a file
abbrev pub JobLoads : Job → Type 0
JobLoads (job.Run file steps depth latency dict save) = Unit {0}
JobLoads (job.Graph file steps depth latency) = Unit {0}
JobLoads (job.Carried file steps depth latency storage) = Unit {0}
JobLoads (job.Replay file steps depth latency workers seed) = Unit {0}
JobLoads (job.Page file steps depth latency dict) = Unit {0}
JobLoads (job.Annotate file steps depth latency strict) = Unit {0}
JobLoads (job.Show file dict) = Unit {0}
JobLoads (job.ShowJson file dict) = Unit {0}
JobLoads (job.ShowCsv file) = Unit {0}
JobLoads (job.Merge save parts) = Unit {0}
JobLoads (job.Check file) = Unit {0}
JobLoads (job.Demo number loops) = ⊥

-- A FILE IS ASKED FOR: the words are those of a job that reads one
abbrev pub CallsForFiles : List (List ℕ) → Type 0
CallsForFiles list = (asked : Job) × words.IsAnswer list (Ok asked) × JobLoads asked
