-- For contracts between crates: nobody has to believe it.
-- What each part of the call comes to, and what it leaves. The theorem on `kremlin` speaks of none of this.
use Rattle.std.specs.Prelude.{ℕ, ⊤, ◌≡◌, ◌≢◌, ◌≤◌, ◌⊎◌, Bool, true, false, nat_eq, List, [], ◌++◌, length, Option, Some, None, Result, Ok, Err, Vec}
use Rattle.std.specs.Cmp.Lexicographic.{pointwise}
use Rattle.std.specs.declared.alloc.Global.{Global}
use Rattle.k_optab.specs.Events.{operations}
use Rattle.k_optab.specs.Latencies.{standard_latencies}
use Rattle.k_optab.specs.TomlTable.{IsRefused, IsTold}
use Rattle.k_optab.specs.declared.node.Node.{Node}
use Rattle.k_optab.specs.declared.toml_table.TableFault.{TableFault}
use Rattle.k_edge.specs.Fault.{Rose}
use Rattle.k_edge.specs.FilesWords.{FilesState, Loads, Saves}
use Rattle.k_edge.specs.ReadAll.{ReadsAll}
use Rattle.k_edge.specs.SinkWords.{SinkState, Grows, GrowsInPart}
use Rattle.k_edge.specs.SourceWords.{SourceState}
use Rattle.k_edge.specs.declared.files.LoadFault.{LoadFault}
use Rattle.k_edge.specs.declared.files.SaveFault.{SaveFault}
use Rattle.k_edge.specs.declared.reading.ReadAllFault.{ReadAllFault}
use Rattle.k_edge.specs.declared.sink.PutFault.{PutFault}
use Rattle.k_edge.specs.declared.sink.PutFault.TheVariants as put
use Rattle.k_tree.specs.declared.tree.unit.Unit as source
use Rattle.k_marks_meaning.specs.Marking.{marks_of}
use Rattle.k_evaluation.specs.States as evaluation
use Rattle.k_lower_accepted.specs.Accepted.{IsAccepted}
use Rattle.k_shadow.specs.Content.{Content, empty}
use Rattle.k_dict_entries.specs.declared.entry.Entry.{Entry}
use Rattle.k_carry_pairs.specs.Carried.{AreCarried}
use Rattle.k_carry_pairs.specs.declared.pairs.CarriedPairs.{CarriedPairs}
use Rattle.k_carry_pairs.specs.declared.pairs.LoopPairs.{LoopPairs}
use Rattle.k_carry_text.specs.Lines.{carried_text}
use Rattle.k_hcpa.specs.Profiles.{IsSummary}
use Rattle.k_hcpa.specs.declared.profile.Profile.{Profile}
use Rattle.k_hcpa.specs.declared.profile.RunFault.{RunFault}
use Rattle.k_hcpa.specs.declared.profile.RunFault.TheVariants as run_fault
use Rattle.k_hcpa.specs.declared.profile.Summary.{Summary}
use Rattle.k_hcpa.specs.declared.profile.Summary.TheVariants as summary
use Rattle.k_dict_saved.specs.Files.{AreRegions}
use Rattle.k_regions.specs.Regions.{regions_of}
use Rattle.k_dict_saved.specs.declared.saved.Saved.{Saved}
use Rattle.k_selfpar.specs.Contexts.{AreContexts}
use Rattle.k_selfpar.specs.Rows.{AreRows}
use Rattle.k_selfpar.specs.declared.context.Context.{Context}
use Rattle.k_selfpar.specs.declared.row.Row.{Row}
use Rattle.k_plan.specs.declared.advice.Advice.{Advice}
use Rattle.k_report.specs.Report.{large_line}
use Rattle.k_report_profile.specs.Report.{IsPlanned, nodes_of_profile}
use Rattle.k_words.specs.declared.job.Form.{Form}
use Rattle.k_top_answers.specs.declared.answer.Answer.{Answer}
use Rattle.k_top_answers.specs.declared.answer.SavedFile.{SavedFile}
use Rattle.k_top_answers.specs.declared.failure.Failure.{Failure}
use Rattle.k_top_answers.specs.declared.failure.Failure.TheVariants as why
use Rattle.k_top_lemmas.specs.declared.ending.Ending.{Ending}
use Rattle.k_top_lemmas.specs.declared.program.Program.{Program}
use Rattle.k_top_lemmas.specs.declared.running.Ready.{Ready}
use Rattle.k_top_answers.specs.Answers.{AnswersChecked, AnswersShown, done, refusal}
use Rattle.k_top_answers.specs.Clauses.{Told}
use Rattle.k_top_answers.specs.Failures.{err_text, failure_line, failure_of_load, failure_of_put, failure_of_reading, failure_of_save, failure_of_table, failure_status}
use Rattle.k_top_answers.specs.Steps.{AnswersSource, Running, file_limit, input_limit, profile_limit, run_of}
use Rattle.k_top_answers.specs.Storage.{MayBeMarked, WritesStorage}
use Rattle.k_top_answers.specs.Texts.{plan_line, tree_lines}

-- the failure refuses: it is no fault of the outside and no want of memory
abbrev pub IfRefusal : Failure → Type 0 → Type 0
IfRefusal why.ReadFault is = Unit {0}
IfRefusal why.WriteFault is = Unit {0}
IfRefusal why.NoMemory is = Unit {0}
IfRefusal failure is = is

-- what loading a file comes to: its bytes, or the failure that the fault is
abbrev pub LoadsFile : Result (Vec ℕ Global) Failure → List ℕ → ℕ → FilesState → FilesState → Type 0
LoadsFile (Ok bytes) name limit old new = Loads (Ok bytes) name limit old new
LoadsFile (Err failure) name limit old new = (fault : LoadFault) × (failure ≡ failure_of_load name fault) × Loads (Err fault) name limit old new

-- what reading the bytes of a table comes to
abbrev pub GivesTable : Result (List ℕ) Failure → List ℕ → Type 0
GivesTable (Ok latencies) bytes = IsTold bytes (Ok latencies)
GivesTable (Err failure) bytes = (fault : TableFault) × (failure ≡ failure_of_table fault) × IsRefused bytes fault

-- what loading and reading a table comes to
abbrev pub LoadsNamed : Result (List ℕ) Failure → List ℕ → FilesState → FilesState → Type 0
LoadsNamed (Ok latencies) name old new = (bytes : Vec ℕ Global) × Loads (Ok bytes) name file_limit old new × GivesTable (Ok latencies) bytes.items
LoadsNamed (Err failure) name old new =
    ((bytes : Vec ℕ Global) × Loads (Ok bytes) name file_limit old new × GivesTable (Err failure) bytes.items)
    ⊎ LoadsFile (Err failure) name file_limit old new

-- what taking the standard latencies comes to
abbrev pub TakesStandard : Result (List ℕ) Failure → FilesState → FilesState → Type 0
TakesStandard (Ok latencies) old new = (latencies ≡ standard_latencies) × (new ≡ old)
TakesStandard (Err failure) old new = ⊥

-- what finding the latencies comes to: the standard ones, those of the source where it is the table too, or those of another file
abbrev pub LoadsTable : Result (List ℕ) Failure → Option (List ℕ) → List ℕ → Bool → FilesState → FilesState → Type 0
LoadsTable result None source is_source old new = TakesStandard result old new
LoadsTable result (Some name) source true old new = GivesTable result source × (new ≡ old)
LoadsTable result (Some name) source false old new = LoadsNamed result name old new

-- a name that may be given is that of this file
abbrev pub is_name : Option (List ℕ) → List ℕ → Bool
is_name None file = false
is_name (Some name) file = pointwise nat_eq name file

-- a program, as runs and lowering have it
abbrev pub program_of : Program → evaluation.Program
program_of p = record { unit = p.typed; marks = p.marks; latencies = p.latencies }

-- a program of which laws of runs and of lowering speak: that of an accepted source, which is no longer than one may be, with its marks, whose regions can be
-- saved
pub record CanRun (p : Program) : Type 0 where
  pub unit : source.Unit
  pub accepted : IsAccepted unit (program_of p)
  pub regions : AreRegions (regions_of p.typed)
  pub marks : p.marks ≡ marks_of p.typed
  pub short : length p.source ≤ 1048576

-- what reading a source comes to: a program with these latencies, or why it is refused
abbrev pub AcceptsSource : Result Program Failure → List ℕ → Type 0
AcceptsSource (Ok p) bytes = AnswersSource (λ failure. ⊥) (λ typed. typed ≡ p.typed) bytes
AcceptsSource (Err failure) bytes = (failure ≡ why.NoMemory) ⊎ AnswersSource (λ other. other ≡ failure) (λ source. ⊥) bytes

-- what reading the input comes to
abbrev pub ReadsWhole : Result (Vec ℕ Global) Failure → SourceState → SourceState → Type 0
ReadsWhole (Ok bytes) old new = ReadsAll (Ok bytes) input_limit old new
ReadsWhole (Err failure) old new = (fault : ReadAllFault) × (failure ≡ failure_of_reading fault) × ReadsAll (Err fault) input_limit old new

-- nothing is read: the input is as before, and no bytes are given
abbrev pub ReadsNothing : Result (Vec ℕ Global) Failure → SourceState → SourceState → Type 0
ReadsNothing (Ok bytes) old new = (bytes.items ≡ []) × (new ≡ old)
ReadsNothing (Err failure) old new = ⊥

-- the input is read where it is asked for
abbrev pub ReadsWhere : Bool → Result (Vec ℕ Global) Failure → SourceState → SourceState → Type 0
ReadsWhere true result old new = ReadsWhole result old new
ReadsWhere false result old new = ReadsNothing result old new

-- a program with its input, as it is run
abbrev pub running_of : Ready → Running
running_of r = record { typed = r.program.typed; latencies = r.program.latencies; input = r.input; steps = r.steps }

-- a run of which a report and a listing can be made, with the instances below a depth
pub record IsFit (r : Ready) (depth : ℕ) : Type 0 where
  pub program : CanRun r.program
  pub least : 1 ≤ r.steps
  pub steps : r.steps ≤ 1000000000
  pub some : 1 ≤ depth
  pub tracked : depth ≤ 32

-- a shadow has no live level yet, and room for this many locations
pub record IsFresh (least : ℕ) (c : Content) : Type 0 where
  pub is_empty : c ≡ empty c.limit
  pub limit : least ≤ c.limit

-- the dictionary that is told, if one is
abbrev pub dict_of : Summary → Option (List Entry)
dict_of summary.Missing = None
dict_of summary.Large = None
dict_of (summary.Whole entries) = Some entries

-- this profile is that of a run, of whose output these bytes were put
pub record IsProfileOfRun (r : Running) (depth : ℕ) (put : List ℕ) (p : Profile) : Type 0 where
  pub end : p.end ≡ (run_of r).end
  pub ops : p.ops ≡ length (operations (run_of r).events)
  pub output : put ++ p.rest ≡ (run_of r).output
  pub written : p.written ≡ length (run_of r).output
  pub held : p.rest ≡ [] → put ≡ []
  pub summary : IsSummary depth (run_of r).events p.end p.summary

-- this is told of a run: how it ended, and what its loops carry
pub record TellsOfLoops (r : Running) (depth : ℕ) (c : CarriedPairs) : Type 0 where
  pub end : c.end ≡ (run_of r).end
  pub are_carried : AreCarried (regions_of r.typed) depth (run_of r).events c.loops

-- these loops may be marked: those of a run that are told with what they carry, or those alone that share nothing
pub record FindsMarkable (r : Running) (depth : ℕ) (strict : Bool) (found : List LoopPairs) : Type 0 where
  pub loops : List LoopPairs
  pub are_carried : AreCarried (regions_of r.typed) depth (run_of r).events loops
  pub may : MayBeMarked strict r depth loops found

-- a text on what a run's loops carry, and on what their turns share, where it is asked for
pub record WritesLoops (r : Running) (depth : ℕ) (storage : Bool) (loops : List LoopPairs) (text : List ℕ) : Type 0 where
  pub shared : List ℕ
  pub writes : WritesStorage storage r depth shared
  pub is : text ≡ carried_text (regions_of r.typed) loops ++ shared

-- what making the answer comes to that is a text
abbrev pub GivesText : Result Answer Failure → List ℕ → Type 0
GivesText (Ok answer) text = answer ≡ done text
GivesText (Err failure) text = failure ≡ why.NoMemory

-- why a saved profile or a sum is not shown: it is refused, or no memory was found
abbrev pub RefusesShown : Failure → List ℕ → Form → Type 0
RefusesShown failure bytes form = (failure ≡ why.NoMemory) ⊎ ((place : ℕ) × (failure ≡ why.Saved place) × AnswersShown form (refusal (why.Saved place)) bytes)

-- what showing a saved profile or a sum comes to
abbrev pub ShowsBytes : Result Answer Failure → List ℕ → Form → Type 0
ShowsBytes (Ok answer) bytes form = AnswersShown form answer bytes × (answer.failure ≡ None)
ShowsBytes (Err failure) bytes form = RefusesShown failure bytes form

-- what loading a saved profile or a sum and showing it comes to
abbrev pub ShowsFile : Result Answer Failure → List ℕ → Form → FilesState → FilesState → Type 0
ShowsFile (Ok answer) file form old new = (bytes : Vec ℕ Global) × Loads (Ok bytes) file profile_limit old new × ShowsBytes (Ok answer) bytes.items form
ShowsFile (Err failure) file form old new =
    ((bytes : Vec ℕ Global) × Loads (Ok bytes) file profile_limit old new × RefusesShown failure bytes.items form)
    ⊎ LoadsFile (Err failure) file profile_limit old new

-- what checking a source comes to
abbrev pub ChecksSource : Result Answer Failure → List ℕ → List ℕ → Type 0
ChecksSource (Ok answer) file bytes = AnswersChecked file answer bytes
ChecksSource (Err failure) file bytes = failure ≡ why.NoMemory

-- what loading a source and checking it comes to
abbrev pub ChecksFile : Result Answer Failure → List ℕ → FilesState → FilesState → Type 0
ChecksFile (Ok answer) file old new = (bytes : Vec ℕ Global) × Loads (Ok bytes) file file_limit old new × ChecksSource (Ok answer) file bytes.items
ChecksFile (Err failure) file old new =
    ((bytes : Vec ℕ Global) × Loads (Ok bytes) file file_limit old new × ChecksSource (Err failure) file bytes.items)
    ⊎ LoadsFile (Err failure) file file_limit old new

-- the lines of a summary on a tree of these instances
abbrev pub IsTreeText : List Node → List ℕ → Type 0
IsTreeText nodes text = (rows : List Row) × AreRows nodes rows × (text ≡ tree_lines nodes rows)

-- the line of a summary on the plan of these contexts
abbrev pub IsPlanLine : List Context → List ℕ → Type 0
IsPlanLine contexts text = (advice : Advice) × IsPlanned contexts (Some advice) × (text ≡ plan_line contexts (Some advice))

-- the line of a summary on the plan of a profile
abbrev pub IsPlanText : Saved → List ℕ → Type 0
IsPlanText saved text =
    (contexts : List Context) × (plan : Option Advice) × AreContexts saved.regions (nodes_of_profile saved) contexts × IsPlanned contexts plan
    × (text ≡ plan_line contexts plan)

-- the lines of a summary on a profile
abbrev pub AreLinesOf : Saved → List ℕ → Type 0
AreLinesOf saved text =
    (tree : List ℕ) × (plan : List ℕ) × IsTreeText (nodes_of_profile saved) tree × IsPlanText saved plan × (text ≡ tree ++ plan)

-- the lines of a summary on a profile, or that there is none
abbrev pub AreLinesIfThere : Option Saved → List ℕ → Type 0
AreLinesIfThere None text = text ≡ large_line
AreLinesIfThere (Some saved) text = AreLinesOf saved text

-- what putting many bytes comes to: the sink has grown by all of them, or by a prefix, and its count
-- of faults rose exactly for a failed put, which is made only where there are bytes
abbrev pub PutsAll : Result ⊤ PutFault → List ℕ → SinkState → SinkState → Type 0
PutsAll (Ok done) bytes old new = Grows old.written bytes new.written × (new.faults ≡ old.faults)
PutsAll (Err put.Failed) bytes old new = (bytes ≢ []) × GrowsInPart old.written bytes new.written × Rose old.faults new.faults
PutsAll (Err put.Memory) bytes old new = GrowsInPart old.written bytes new.written × (new.faults ≡ old.faults)

-- a fault of a run is one of the puts of its output
abbrev pub put_result : Result Profile RunFault → Result Profile PutFault
put_result (Ok p) = Ok p
put_result (Err run_fault.Write) = Err put.Failed
put_result (Err run_fault.Memory) = Err put.Memory

-- what running a program on the machine comes to, of whose instances those below a depth are tracked: its profile, of whose output some was put; or it
-- was given up as it would be where its output is put
abbrev pub RunsProgram : Running → ℕ → Result Profile PutFault → SinkState → SinkState → Type 0
RunsProgram r depth (Ok p) old new = (bytes : List ℕ) × PutsAll (Ok tt) bytes old new × IsProfileOfRun r depth bytes p
RunsProgram r depth (Err fault) old new = PutsAll (Err fault) (run_of r).output old new

-- the file of an answer was saved, if it has one
abbrev pub HasSaved : Option SavedFile → FilesState → FilesState → Type 0
HasSaved None old new = new ≡ old
HasSaved (Some file) old new = Saves (Ok tt) file.name file.bytes old new

-- what saving the file of an answer comes to
abbrev pub SavesFile : Result ⊤ Failure → Option SavedFile → FilesState → FilesState → Type 0
SavesFile (Ok done) saved old new = HasSaved saved old new
SavesFile (Err failure) None old new = ⊥
SavesFile (Err failure) (Some file) old new = (fault : SaveFault) × (failure ≡ failure_of_save fault) × Saves (Err fault) file.name file.bytes old new

-- what delivering an answer comes to: its bytes are put, and then its file is saved
abbrev pub Delivers : Result ⊤ Failure → Answer → FilesState → FilesState → SinkState → SinkState → Type 0
Delivers (Ok done) answer files files' out out' = PutsAll (Ok tt) answer.out out out' × SavesFile (Ok tt) answer.saved files files'
Delivers (Err failure) answer files files' out out' =
    ((fault : PutFault) × (failure ≡ failure_of_put fault) × PutsAll (Err fault) answer.out out out' × (files' ≡ files))
    ⊎ (PutsAll (Ok tt) answer.out out out' × SavesFile (Err failure) answer.saved files files')

-- the call ends by a failure, of which its line alone is told
abbrev pub failed : Failure → Ending
failed failure = record { failure = Some failure; more = None }

-- how the call ends behind an answer, whose delivery came to that
abbrev pub EndsAs : Ending → Result ⊤ Failure → Answer → Type 0
EndsAs ending (Ok done) answer = ending ≡ record { failure = answer.failure; more = answer.more }
EndsAs ending (Err failure) answer = ending ≡ failed failure

-- a text was put on err, and this status answered: 8 in place of the one given where memory was wanting for the put
abbrev pub PutsText : List ℕ → ℕ → ℕ → SinkState → SinkState → Type 0
PutsText text given status old new = ((status ≡ given) × Told text old new) ⊎ ((status ≡ 8) × (new ≡ old))

-- what was told on err of how the call ended, and the status that was answered: 8 where memory was wanting for the text
abbrev pub Tells : Option Failure → Option (List ℕ) → ℕ → SinkState → SinkState → Type 0
Tells None more status old new = (status ≡ 0) × (new ≡ old)
Tells (Some failure) more status old new =
    ((status ≡ failure_status failure) × Told (err_text failure more) old new)
    ⊎ ((status ≡ 8) × GrowsInPart old.written (failure_line why.NoMemory) new.written)
