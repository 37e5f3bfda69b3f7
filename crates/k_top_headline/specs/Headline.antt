-- Believed with a public law.
-- THE HEADLINE: what `kremlin run` writes and saves, how far it reads its input, and with which status it ends, where nothing goes wrong outside and memory
-- suffices. The other commands share its words (OtherCommands).
use Rattle.std.specs.Prelude.{ℕ, ◌+◌, ◌-◌, ◌≡◌, ◌≢◌, ◌≤◌, Bool, MatchBool, List, [], length, Option, Some, None, Ok}
use Rattle.k_edge.specs.Fault.{Rose}
use Rattle.k_edge.specs.SinkWords.{Grows}
use Rattle.k_edge.specs.SourceWords.{SourceState, one_more}
use Rattle.k_optab.specs.Latencies.{standard_latencies}
use Rattle.k_optab.specs.TomlTable.{IsRefused, IsTold}
use Rattle.k_optab.specs.declared.toml_table.TableFault.{TableFault}
use Rattle.k_optab.specs.declared.toml_table.TableFault.TheVariants as table
use Rattle.k_optab.specs.Tree.{IsTree}
use Rattle.k_optab.specs.declared.node.Node.{Node}
use Rattle.k_tree.specs.declared.tokens.Token.{Token}
use Rattle.k_tree.specs.declared.tree.unit.Unit as source
use Rattle.k_lex.specs.Tokens.{tokens}
use Rattle.k_parse.specs.Parse.{IsParse}
use Rattle.k_types_meaning.specs.Bare.{IsTyped}
use Rattle.k_types_meaning.specs.Units.{faults}
use Rattle.k_types_meaning.specs.declared.tree.unit.TUnit.{TUnit}
use Rattle.k_types_calls.specs.Getchar.{calls_getchar}
use Rattle.k_ending.specs.declared.ending.End.{End}
use Rattle.k_ending.specs.declared.ending.End.TheVariants.{Returned, Trapped, OutOfSteps}
use Rattle.k_dict_entries.specs.Dictionary.{IsDictionary, refusal}
use Rattle.k_dict_entries.specs.declared.dict.Which.{Which}
use Rattle.k_dict_entries.specs.Entries.{expansion}
use Rattle.k_dict_entries.specs.Laws.{AreAlike}
use Rattle.k_dict_entries.specs.declared.entry.Entry.{Entry}
use Rattle.k_dict_saved.specs.declared.saved.Saved.{Saved}
use Rattle.k_report.specs.Report.{large_text}
use Rattle.k_report_profile.specs.Report.{IsReportOf, asked}
use Rattle.k_report_profile.specs.RunReport.{Ran, ops_of}
use Rattle.k_words.specs.Words.{IsAnswer}
use Rattle.k_words.specs.declared.job.Job.{Job}
use Rattle.k_words.specs.declared.job.Job.TheVariants as job
use Rattle.k_top_answers.specs.Answers.{ran_of, saved_file}
use Rattle.k_top_answers.specs.Clauses.{HoldsAfter, Keeps, TellsEnd, World}
use Rattle.k_top_answers.specs.declared.failure.Failure.{Failure}
use Rattle.k_top_answers.specs.declared.failure.Failure.TheVariants as why
use Rattle.k_top_answers.specs.Failures.{failure_of_end, status_of}
use Rattle.k_top_answers.specs.Steps.{Running, file_limit, input_limit, run_of}
use Rattle.k_top_answers.specs.Texts.{with_report}

-- the source of these bytes is accepted, and this is its typed tree
pub record IsAccepted (bytes : List ℕ) (typed : TUnit) : Type 0 where
  -- its tokens
  pub list : List Token
  pub cut : tokens bytes ≡ Ok list
  -- its tree
  pub unit : source.Unit
  pub read : IsParse list (Ok unit)
  -- no fault in names and types
  pub faultless : faults unit ≡ []
  pub typed_is : IsTyped unit typed

-- the files tell that one of this name has these bytes
abbrev pub TellsFile : Option (List ℕ → Option (List ℕ)) → List ℕ → List ℕ → Type 0
TellsFile None file bytes = ⊥
TellsFile (Some held) file bytes = held file ≡ Some bytes

-- the files tell that one of this name has these bytes, which are no more than a source and a table of latencies may have
pub record HoldsFile (old : World) (file bytes : List ℕ) : Type 0 where
  pub held : TellsFile old.files.held file bytes
  pub few : length bytes ≤ file_limit

-- the latencies of a run: those that a table tells, where one is named, and else the standard ones
abbrev pub HasLatencies : World → Option (List ℕ) → List ℕ → Type 0
HasLatencies old None latencies = latencies ≡ standard_latencies
HasLatencies old (Some name) latencies = (bytes : List ℕ) × HoldsFile old name bytes × IsTold bytes (Ok latencies)

-- the bytes that a run reads: those of the input, which tells them and is not too long, where the program calls `getchar`; and else none
abbrev pub IsInput : Option (List ℕ) → Bool → List ℕ → Type 0
IsInput left calls bytes = MatchBool calls ((left ≡ Some bytes) × (length bytes ≤ input_limit)) (bytes ≡ [])

-- the outside holds this program with its latencies and its input: an accepted source of at most 16,777,216 bytes
pub record HoldsProgram (old : World) (file : List ℕ) (latency : Option (List ℕ)) (r : Running) : Type 0 where
  -- the bytes of the file
  pub bytes : List ℕ
  pub holds : HoldsFile old file bytes
  -- they are a source that is accepted
  pub accepted : IsAccepted bytes r.typed
  -- the latencies of its operations
  pub latencies : HasLatencies old latency r.latencies
  -- what the run reads
  pub input : IsInput old.input.left (calls_getchar r.typed) r.input

-- the outside holds a file, and the table of latencies that is named has this fault first
pub record HoldsBadTable (old : World) (file : List ℕ) (latency : Option (List ℕ)) (fault : TableFault) : Type 0 where
  -- the bytes of the file
  pub program : List ℕ
  pub holds_program : HoldsFile old file program
  -- the table, and its bytes
  pub name : List ℕ
  pub named : latency ≡ Some name
  pub bytes : List ℕ
  pub holds : HoldsFile old name bytes
  -- which are refused
  pub refused : IsRefused bytes fault
  pub is_fault : fault ≢ table.Memory

-- a count did not rise
abbrev pub DidNotRise : ℕ → ℕ → Type 0
DidNotRise old new = Rose old new → ⊥

-- nothing went wrong outside: no file was missing or too long, no load, no save, no read and no put failed
pub record NothingFailed (old new : World) : Type 0 where
  pub misses : DidNotRise old.files.counts.misses new.files.counts.misses
  pub longs : DidNotRise old.files.counts.longs new.files.counts.longs
  pub loads : DidNotRise old.files.counts.load_faults new.files.counts.load_faults
  pub saves : DidNotRise old.files.counts.save_faults new.files.counts.save_faults
  pub reads : DidNotRise old.input.faults new.input.faults
  pub puts : DidNotRise old.out.faults new.out.faults

-- THE PREMISES of a call: the words ask for this job, nothing went wrong outside, and memory sufficed
pub record WentWell (words : List (List ℕ)) (j : Job) (status : ℕ) (old new : World) : Type 0 where
  pub asked : IsAnswer words (Ok j)
  pub well : NothingFailed old new
  pub memory : status ≢ 8

-- THE PROFILE of a run, which has these entries in its dictionary
abbrev pub profile_of : Ran → List Entry → Saved
profile_of ran entries = record { exit = ran.exit; ops = ops_of ran; regions = ran.regions; dict = entries }

-- the report and the profile, by which limit the dictionary passes, if it passes one: there the one line says so, and there is no profile. Else the report is
-- that of a tree: the text tells its rows (work, path and self-parallelism of each region), the entries where they are asked for, and the best plan of its
-- contexts
abbrev pub ReportsWithin : Ran → Bool → List Node → List Entry → List ℕ → Option Saved → Option Which → Type 0
ReportsWithin ran dict nodes entries text profile None =
    IsReportOf ran.regions ran.exit (ops_of ran) nodes (asked dict entries) text × (profile ≡ Some (profile_of ran entries))
ReportsWithin ran dict nodes entries text profile (Some which) = (text ≡ large_text ran.exit (ops_of ran)) × (profile ≡ None)

-- THE REPORT of the graph of a run, and its profile
pub record ReportsGraph (ran : Ran) (dict : Bool) (text : List ℕ) (profile : Option Saved) : Type 0 where
  -- the tree of the explicit dependence graph: each tracked instance with its work and the weight of its heaviest path
  pub nodes : List Node
  pub tree : IsTree ran.depth ran.events nodes
  -- the dictionary of that tree, whose last entry expands to it, up to the order of siblings
  pub entries : List Entry
  pub dictionary : IsDictionary nodes entries
  pub expands : AreAlike (expansion entries (length entries - 1)) nodes
  -- the rows, the contexts and the plan of that tree, or the line that its dictionary is over its limits, exactly where it is
  pub within : ReportsWithin ran dict nodes entries text profile (refusal 0 0 entries)

-- what is written, by how the run ended: the program's output, and behind it the report where main returned; there alone is a profile
abbrev pub Writes : Running → ℕ → Bool → List ℕ → Option Saved → End → Type 0
Writes r depth dict text profile (Returned exit) =
    (report : List ℕ) × ReportsGraph (ran_of r exit depth) dict report profile × (text ≡ with_report (run_of r).output report)
Writes r depth dict text profile (Trapped trap place) = (text ≡ (run_of r).output) × (profile ≡ None)
Writes r depth dict text profile OutOfSteps = (text ≡ (run_of r).output) × (profile ≡ None)

-- the status of an end: 0 where main returned, 1 where the run trapped, 2 where it was out of steps
abbrev pub end_status : End → ℕ
end_status (Returned exit) = 0
end_status (Trapped trap place) = 1
end_status OutOfSteps = 2

-- what a call tells of a run, where it has this text to write: out has grown by the text, the status is that of the run's end, and err has
-- grown by the line of the trap, or of the steps, where there is one
pub record TellsOfRun (r : Running) (text : List ℕ) (status : ℕ) (old new : World) : Type 0 where
  pub grows : Grows old.out.written text new.out.written
  pub status_is : status ≡ end_status (run_of r).end
  pub told : TellsEnd (failure_of_end r.steps (run_of r).end) None old.err new.err

-- what a call tells that writes nothing, and ends so: out has grown by nothing, the status is that of the end, and err has grown by its line, and behind that by
-- what more is told
pub record Tells (failure : Option Failure) (more : Option (List ℕ)) (status : ℕ) (old new : World) : Type 0 where
  pub grows : Grows old.out.written [] new.out.written
  pub status_is : status ≡ status_of failure
  pub told : TellsEnd failure more old.err new.err

-- an input of these bytes that was read to its end, which was told once, without a fault
abbrev pub read_to_end : List ℕ → SourceState → SourceState
read_to_end bytes old = record old { left = Some []; taken = old.taken + length bytes; ended = one_more old.ended }

-- how the input is left: read to its end where the program calls `getchar`, and else as it was
abbrev pub LeavesInput : Bool → List ℕ → SourceState → SourceState → Type 0
LeavesInput calls bytes old new = MatchBool calls (new ≡ read_to_end bytes old) (new ≡ old)

-- THE CONCLUSIONS for `run` of an accepted program
pub record RunTells (r : Running) (depth : ℕ) (dict : Bool) (save : Option (List ℕ)) (status : ℕ) (old new : World) : Type 0 where
  -- the output of the run and, where main returned, its report are what is told on out, and the end of the run by the status and on err
  pub text : List ℕ
  pub profile : Option Saved
  pub written : Writes r depth dict text profile (run_of r).end
  pub tells : TellsOfRun r text status old new
  -- the file that is to be saved has the text of the run's profile, where there is one, and no other file has changed
  pub files : HoldsAfter (saved_file save profile) old.files new.files
  -- the input was read to its end where the program calls `getchar`, and else it was not touched
  pub input : LeavesInput (calls_getchar r.typed) r.input old.input new.input

-- THE CONCLUSIONS for a table that is refused: its fault is told, nothing is written or saved, and the input is not touched
pub record RefusesTable (fault : TableFault) (status : ℕ) (old new : World) : Type 0 where
  pub tells : Tells (Some (why.Table fault)) None status old new
  pub files : HoldsAfter None old.files new.files
  pub input : new.input ≡ old.input

-- what is so of a call that is to run a file: the run of an accepted program is told, with these latencies and this input; or the table of latencies is refused
pub record RunIsAnswered (file : List ℕ) (steps depth : ℕ) (latency : Option (List ℕ)) (dict : Bool) (save : Option (List ℕ)) (status : ℕ) (old new : World)
    : Type 0 where
  pub accepted : (r : Running) → r.steps ≡ steps → HoldsProgram old file latency r → RunTells r depth dict save status old new
  pub refused : (fault : TableFault) → HoldsBadTable old file latency fault → RefusesTable fault status old new

-- THE HEADLINE. Where `Keeps`, the theorem on `kremlin`, holds of a call whose words ask to run a file, nothing went wrong outside and memory sufficed, this is so
abbrev pub RunIsTold : Type 0
RunIsTold = (words : List (List ℕ)) (status : ℕ) (old new : World) (file : List ℕ) (steps depth : ℕ) (latency : Option (List ℕ)) (dict : Bool)
    (save : Option (List ℕ)) → Keeps words status old new → WentWell words (job.Run file steps depth latency dict save) status old new
    → RunIsAnswered file steps depth latency dict save status old new
