-- Believed with a public law.
-- What `kremlin graph`, `carried`, `page`, `annotate`, `show`, `check` and `demo` write, and with which status they end, where nothing goes wrong outside and
-- memory suffices.
use Rattle.std.specs.Prelude.{ℕ, ◌-◌, ◌≡◌, ◌≤◌, ◌++◌, Bool, List, [], length, Option, Some, None}
use Rattle.k_edge.specs.SinkWords.{Grows}
use Rattle.k_optab.specs.declared.node.Node.{Node}
use Rattle.k_optab.specs.Tree.{IsTree}
use Rattle.k_ending.specs.declared.ending.End.{End}
use Rattle.k_ending.specs.declared.ending.End.TheVariants.{Returned, Trapped, OutOfSteps}
use Rattle.k_evaluation.specs.Runs.{listing_of}
use Rattle.k_marks_meaning.specs.Marking.{marks_of}
use Rattle.k_regions.specs.Regions.{regions_of}
use Rattle.k_carry_pairs.specs.Carried.{AreCarried}
use Rattle.k_carry_pairs.specs.declared.pairs.LoopPairs.{LoopPairs}
use Rattle.k_carry_text.specs.Lines.{carried_text}
use Rattle.k_gen.specs.Text.{program}
use Rattle.k_graph.specs.Listings.{IsListing}
use Rattle.k_graph.specs.declared.tree.Instance.{Instance}
use Rattle.k_dict_entries.specs.Dictionary.{IsDictionary, refusal}
use Rattle.k_dict_entries.specs.declared.dict.Which.{Which}
use Rattle.k_dict_entries.specs.Entries.{expansion}
use Rattle.k_dict_entries.specs.declared.entry.Entry.{Entry}
use Rattle.k_dict_saved.specs.Files.{IsFile}
use Rattle.k_dict_saved.specs.FileText.{file_text}
use Rattle.k_dict_saved.specs.declared.file.File.{File}
use Rattle.k_dict_saved.specs.declared.format.Format.{Format}
use Rattle.k_dict_saved.specs.declared.format.Format.TheVariants.{One, Two}
use Rattle.k_report.specs.Graph.{IsGraphText}
use Rattle.k_report_profile.specs.Report.{IsReportOf, asked}
use Rattle.k_report_profile.specs.RunReport.{Ran, ops_of}
use Rattle.k_page.specs.Page.{large_page_text}
use Rattle.k_data_profile.specs.Pages.{IsPageOf}
use Rattle.k_data_profile.specs.Shown.{IsDocumentOf, IsTableOf}
use Rattle.k_pragma_profile.specs.Annotated.{IsAnnotationOf}
use Rattle.k_types_meaning.specs.declared.tree.unit.TUnit.{TUnit}
use Rattle.k_words.specs.Setting.{standard_depth}
use Rattle.k_words.specs.Words.{shown_as}
use Rattle.k_words.specs.declared.job.Form.{Form}
use Rattle.k_words.specs.declared.job.Form.TheVariants as shown
use Rattle.k_words.specs.declared.job.Job.TheVariants as job
use Rattle.k_top_answers.specs.Answers.{made_running, ran_of}
use Rattle.k_top_answers.specs.declared.failure.Failure.{Failure}
use Rattle.k_top_answers.specs.Checks.{told}
use Rattle.k_top_answers.specs.Clauses.{Keeps, World}
use Rattle.k_top_answers.specs.Steps.{AnswersSource, Running, profile_limit, run_of}
use Rattle.k_top_answers.specs.Storage.{MayBeMarked, WritesStorage}
use Rattle.k_top_answers.specs.Texts.{IsSummary}
use Rattle.k_top_headline.specs.Headline.{HoldsFile, HoldsProgram, IsAccepted, Tells, TellsFile, TellsOfRun, WentWell}

-- GRAPH, the conclusions
pub record GraphTells (r : Running) (depth status : ℕ) (old new : World) : Type 0 where
  -- the tracked instances of the run, in order of entry: each with its work, the weight of its heaviest path, and its parent
  pub tree : List Instance
  pub is_tree : IsListing depth (run_of r).events tree
  -- the listing, a line for each event of the run, one for each of these instances with a heaviest path, and the run's end
  pub text : List ℕ
  pub is_text : IsGraphText (listing_of (run_of r)) tree text
  -- is what is told
  pub tells : TellsOfRun r text status old new

-- GRAPH. The words ask for the graph of a file, which is an accepted program, with its latencies and its input
abbrev pub GraphIsTold : Type 0
GraphIsTold = (words : List (List ℕ)) (status : ℕ) (old new : World) (file : List ℕ) (latency : Option (List ℕ)) (r : Running) (depth : ℕ)
    → Keeps words status old new → WentWell words (job.Graph file r.steps depth latency) status old new → HoldsProgram old file latency r
    → GraphTells r depth status old new

-- what is written of the loops of a run, by how it ended: where main returned, each loop with a tracked instance, with the pairs of places between
-- which it carries dependences, and behind them, where it is asked for, its storage pairs; and else nothing
abbrev pub WritesCarried : Running → ℕ → Bool → List ℕ → End → Type 0
WritesCarried r depth storage text (Returned exit) =
    (loops : List LoopPairs) × (shared : List ℕ) × AreCarried (regions_of r.typed) depth (run_of r).events loops × WritesStorage storage r depth shared
    × (text ≡ carried_text (regions_of r.typed) loops ++ shared)
WritesCarried r depth storage text (Trapped trap place) = text ≡ []
WritesCarried r depth storage text OutOfSteps = text ≡ []

-- CARRIED, the conclusions
pub record CarriedTells (r : Running) (depth : ℕ) (storage : Bool) (status : ℕ) (old new : World) : Type 0 where
  -- what the loops of the run carry from turn to turn, and what their turns share
  pub text : List ℕ
  pub written : WritesCarried r depth storage text (run_of r).end
  -- is what is told
  pub tells : TellsOfRun r text status old new

-- CARRIED. The words ask what the loops of a file carry, with what their turns share or without; and the file is an accepted program, with its
-- latencies and its input
abbrev pub CarriedIsTold : Type 0
CarriedIsTold = (words : List (List ℕ)) (status : ℕ) (old new : World) (file : List ℕ) (latency : Option (List ℕ)) (r : Running) (depth : ℕ)
    (storage : Bool) → Keeps words status old new → WentWell words (job.Carried file r.steps depth latency storage) status old new → HoldsProgram old file latency r
    → CarriedTells r depth storage status old new

-- the page, by which limit the dictionary passes, if it passes one: there the page says so. Else it is that of a tree: the page shows its rows, its contexts,
-- the best plan of these, and the entries where they are asked for, beside the source
abbrev pub PagesWithin : List ℕ → List ℕ → Ran → Bool → List Node → List Entry → List ℕ → Option Which → Type 0
PagesWithin file source ran dict nodes entries text None = IsPageOf file source ran.regions ran.exit (ops_of ran) nodes (asked dict entries) text
PagesWithin file source ran dict nodes entries text (Some which) = text ≡ large_page_text file ran.exit (ops_of ran)

-- THE PAGE of the graph of a run
pub record PagesGraph (file source : List ℕ) (ran : Ran) (dict : Bool) (text : List ℕ) : Type 0 where
  -- the tree of the explicit dependence graph, and the dictionary of that tree
  pub nodes : List Node
  pub tree : IsTree ran.depth ran.events nodes
  pub entries : List Entry
  pub dictionary : IsDictionary nodes entries
  -- the page of that tree, or the page that its dictionary is over its limits, exactly where it is
  pub within : PagesWithin file source ran dict nodes entries text (refusal 0 0 entries)

-- what is written, by how the run ended: the page where main returned, and else nothing
abbrev pub Pages : List ℕ → List ℕ → Running → ℕ → Bool → List ℕ → End → Type 0
Pages file source r depth dict text (Returned exit) = PagesGraph file source (ran_of r exit depth) dict text
Pages file source r depth dict text (Trapped trap place) = text ≡ []
Pages file source r depth dict text OutOfSteps = text ≡ []

-- PAGE, the conclusions
pub record PageTells (file source : List ℕ) (r : Running) (depth : ℕ) (dict : Bool) (status : ℕ) (old new : World) : Type 0 where
  pub text : List ℕ
  pub written : Pages file source r depth dict text (run_of r).end
  -- is what is told
  pub tells : TellsOfRun r text status old new

-- PAGE. The words ask for the page of a file, which is an accepted program, with its latencies and its input. Its bytes are the source on the page
abbrev pub PageIsTold : Type 0
PageIsTold = (words : List (List ℕ)) (status : ℕ) (old new : World) (file : List ℕ) (latency : Option (List ℕ)) (r : Running) (depth : ℕ)
    (dict : Bool) → Keeps words status old new → WentWell words (job.Page file r.steps depth latency dict) status old new → (program : HoldsProgram old file latency r)
    → PageTells file program.bytes r depth dict status old new

-- the annotated source, by which limit the dictionary passes, if it passes one: there the source stands as it is. Else it is that of a tree: it tells its rows,
-- and marks those loops of the best plan of its contexts that carry nothing and may run in parallel
abbrev pub AnnotatesWithin : List ℕ → Running → Ran → List LoopPairs → List Node → List ℕ → Option Which → Type 0
AnnotatesWithin source r ran loops nodes text None = IsAnnotationOf source r.typed (marks_of r.typed) ran.regions nodes loops text
AnnotatesWithin source r ran loops nodes text (Some which) = text ≡ source

-- THE ANNOTATED SOURCE of the graph of a run
pub record AnnotatesGraph (source : List ℕ) (r : Running) (ran : Ran) (strict : Bool) (text : List ℕ) : Type 0 where
  -- what the loops of the run carry from turn to turn, and those that may be marked: all, or those alone that share nothing and had no instance below the
  -- tracked ones
  pub loops : List LoopPairs
  pub are_carried : AreCarried ran.regions ran.depth ran.events loops
  pub found : List LoopPairs
  pub may : MayBeMarked strict r ran.depth loops found
  -- the tree of the explicit dependence graph, and the dictionary of that tree
  pub nodes : List Node
  pub tree : IsTree ran.depth ran.events nodes
  pub entries : List Entry
  pub dictionary : IsDictionary nodes entries
  -- the annotated source of that tree, or the source, exactly where its dictionary is over its limits
  pub within : AnnotatesWithin source r ran found nodes text (refusal 0 0 entries)

-- what is written, by how the run ended: the annotated source where main returned, and else nothing
abbrev pub Annotates : List ℕ → Running → ℕ → Bool → List ℕ → End → Type 0
Annotates source r depth strict text (Returned exit) = AnnotatesGraph source r (ran_of r exit depth) strict text
Annotates source r depth strict text (Trapped trap place) = text ≡ []
Annotates source r depth strict text OutOfSteps = text ≡ []

-- ANNOTATE, the conclusions
pub record AnnotateTells (source : List ℕ) (r : Running) (depth : ℕ) (strict : Bool) (status : ℕ) (old new : World) : Type 0 where
  pub text : List ℕ
  pub written : Annotates source r depth strict text (run_of r).end
  -- is what is told
  pub tells : TellsOfRun r text status old new

-- ANNOTATE. The words ask for the annotated source of a file, which is an accepted program, with its latencies and its input. Its bytes are the source
abbrev pub AnnotateIsTold : Type 0
AnnotateIsTold = (words : List (List ℕ)) (status : ℕ) (old new : World) (file : List ℕ) (latency : Option (List ℕ)) (r : Running) (depth : ℕ)
    (strict : Bool) → Keeps words status old new → WentWell words (job.Annotate file r.steps depth latency strict) status old new → (program : HoldsProgram old file latency r)
    → AnnotateTells program.bytes r depth strict status old new

-- the files tell that one of this name is a saved profile of either format, of at most 536,870,912 bytes
pub record HoldsProfile (old : World) (name : List ℕ) (file : File) : Type 0 where
  pub rules : IsFile file
  pub held : TellsFile old.files.held name (file_text file)
  pub few : length (file_text file) ≤ profile_limit

-- the tree of a file: the instances that its last entry stands for
abbrev pub tree_of_file : File → List Node
tree_of_file file = expansion file.entries (length file.entries - 1)

-- the entries that are shown of a file: its own in format 2, and in format 1 the dictionary of its tree
abbrev pub AreShown : File → List Entry → Format → Type 0
AreShown file entries Two = entries ≡ file.entries
AreShown file entries One = IsDictionary (tree_of_file file) entries

-- THE REPORT of a saved profile: that of its own tree, whose rows, contexts and plan the text tells, with its run and its regions
pub record ShowsReport (file : File) (dict : Bool) (text : List ℕ) : Type 0 where
  pub entries : List Entry
  pub shown : AreShown file entries file.format
  pub report : IsReportOf file.regions file.exit file.ops (tree_of_file file) (asked dict entries) text

-- THE DOCUMENT of a saved profile: that of its own tree, likewise
pub record ShowsDocument (file : File) (dict : Bool) (text : List ℕ) : Type 0 where
  pub entries : List Entry
  pub shown : AreShown file entries file.format
  pub document : IsDocumentOf file.regions file.exit file.ops (tree_of_file file) (asked dict entries) text

-- a saved profile in each form; the table is that of the rows of its own tree
abbrev pub Shows : File → Form → List ℕ → Type 0
Shows file (shown.Report dict) text = ShowsReport file dict text
Shows file (shown.Json dict) text = ShowsDocument file dict text
Shows file shown.Csv text = IsTableOf file.regions (tree_of_file file) text

-- SHOW, the conclusions
pub record ShowTells (file : File) (form : Form) (status : ℕ) (old new : World) : Type 0 where
  -- out has grown by the profile in this form
  pub text : List ℕ
  pub shows : Shows file form text
  pub grows : Grows old.out.written text new.out.written
  -- the status is 0, and nothing was told on err
  pub status_is : status ≡ 0
  pub told : new.err ≡ old.err

-- SHOW. The words ask to show a file in a form, and it is a saved profile
abbrev pub ShowIsTold : Type 0
ShowIsTold = (words : List (List ℕ)) (status : ℕ) (old new : World) (name : List ℕ) (file : File) (form : Form)
    → Keeps words status old new → WentWell words (shown_as name form) status old new → HoldsProfile old name file
    → ShowTells file form status old new

-- CHECK of a source that is accepted: the words ask to check a file, and it is one; nothing is written on out or err, and the status is 0
abbrev pub AcceptedIsTold : Type 0
AcceptedIsTold = (words : List (List ℕ)) (status : ℕ) (old new : World) (file bytes : List ℕ) (typed : TUnit)
    → Keeps words status old new → WentWell words (job.Check file) status old new → HoldsFile old file bytes → IsAccepted bytes typed
    → Tells None None status old new

-- CHECK of a source that is refused: the words ask to check a file, and its first fault is this one; nothing is written on out, the status is that of the refusal,
-- and err has grown by its line and by what is told of that fault
abbrev pub RefusalIsTold : Type 0
RefusalIsTold = (words : List (List ℕ)) (status : ℕ) (old new : World) (file bytes : List ℕ) (failure : Failure)
    → Keeps words status old new → WentWell words (job.Check file) status old new → HoldsFile old file bytes
    → AnswersSource (λ first. first ≡ failure) (λ typed. ⊥) bytes
    → Tells (Some failure) (Some (told file bytes failure)) status old new

-- what is written of a made program, by how its run ended: the summary of the run where main returned, and else nothing
abbrev pub Sums : ℕ → ℕ → Running → List ℕ → End → Type 0
Sums number loops r text (Returned exit) = IsSummary number loops (length (run_of r).output) (ran_of r exit standard_depth) text
Sums number loops r text (Trapped trap place) = text ≡ []
Sums number loops r text OutOfSteps = text ≡ []

-- each program of at most 2,000 loops that is made from a number is accepted
abbrev pub MadeProgramsAreAccepted : Type 0
MadeProgramsAreAccepted = (number loops : ℕ) → loops ≤ 2000 → (typed : TUnit) × IsAccepted (program number loops) typed

-- DEMO, the conclusions
pub record DemoTells (number loops status : ℕ) (old new : World) : Type 0 where
  -- the program that is made is accepted, and this is its typed tree
  pub typed : TUnit
  pub accepted : IsAccepted (program number loops) typed
  -- the summary of its run: of its output, and of the rows and the plan of its tree
  pub text : List ℕ
  pub written : Sums number loops (made_running typed) text (run_of (made_running typed)).end
  -- is what is told
  pub tells : TellsOfRun (made_running typed) text status old new

-- DEMO. The words ask for a program of so many loops that is made from a number
abbrev pub DemoIsTold : Type 0
DemoIsTold = (words : List (List ℕ)) (status : ℕ) (old new : World) (number loops : ℕ)
    → Keeps words status old new → WentWell words (job.Demo number loops) status old new → DemoTells number loops status old new
