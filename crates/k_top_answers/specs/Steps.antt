-- Believed with the theorem on the top call.
-- The steps of the call in their order. A step fails, or it gives what the next one works on: so each word has `failed`, what is so where the
-- step fails, and `next`, what is so of what it gives. All commands share these words.
use Rattle.std.specs.Prelude.{ℕ, ◌≢◌, ◌≤◌, ◌<◌, ◌⊎◌, MatchBool, List, [], ◌∷◌, length, Option, Some, None, Result, Ok, Err}
use Rattle.k_optab.specs.declared.toml_table.TableFault.{TableFault}
use Rattle.k_optab.specs.declared.toml_table.TableFault.TheVariants as table
use Rattle.k_optab.specs.Latencies.{standard_latencies}
use Rattle.k_optab.specs.TomlTable.{IsRefused, IsTold}
use Rattle.k_tree.specs.declared.tokens.Token.{Token}
use Rattle.k_tree.specs.declared.tree.unit.Unit as tree
use Rattle.k_lex.specs.Tokens.{tokens}
use Rattle.k_lex.specs.declared.fault.LexFault.{LexFault}
use Rattle.k_parse.specs.Parse.{IsParse}
use Rattle.k_parse.specs.declared.fault.ParseFault.{ParseFault}
use Rattle.k_types_meaning.specs.Bare.{IsTyped}
use Rattle.k_types_meaning.specs.Units.{faults}
use Rattle.k_types_meaning.specs.declared.fault.TypeFault.{TypeFault}
use Rattle.k_types_meaning.specs.declared.tree.unit.TUnit.{TUnit}
use Rattle.k_marks_meaning.specs.Marking.{marks_of}
use Rattle.k_evaluation.specs.Runs.{Run, run}
use Rattle.k_types_calls.specs.Getchar.{calls_getchar}
use Rattle.k_top_answers.specs.declared.failure.Failure.{Failure}
use Rattle.k_top_answers.specs.declared.failure.Failure.TheVariants as why

-- what the outside holds: the content of each name, where it names a file, and all bytes of the input
pub record Outside : Type 0 where
  pub files : List ℕ → Option (List ℕ)
  pub input : List ℕ

-- how many bytes a source and a table of latencies may have
abbrev pub file_limit : ℕ
file_limit = 16777216

-- how many bytes a saved profile may have
abbrev pub profile_limit : ℕ
profile_limit = 536870912

-- how many bytes the input may have
abbrev pub input_limit : ℕ
input_limit = 16777216

-- a file of this name and content, which may be none: it is absent, or too long, or it gives its bytes
abbrev pub AnswersFound : (Failure → Type 0) → ℕ → List ℕ → (List ℕ → Type 0) → Option (List ℕ) → Type 0
AnswersFound failed limit file next None = failed (why.Absent file)
AnswersFound failed limit file next (Some bytes) = ((limit < length bytes) × failed (why.FileLong file)) ⊎ ((length bytes ≤ limit) × next bytes)

-- A FILE is loaded
abbrev pub AnswersFile : (Failure → Type 0) → Outside → ℕ → List ℕ → (List ℕ → Type 0) → Type 0
AnswersFile failed outside limit file next = AnswersFound failed limit file next (outside.files file)

-- the bytes of a table of latencies: they give the latencies, or are refused
abbrev pub AnswersTable : (Failure → Type 0) → (List ℕ → Type 0) → List ℕ → Type 0
AnswersTable failed next bytes =
    ((latencies : List ℕ) × IsTold bytes (Ok latencies) × next latencies)
    ⊎ ((fault : TableFault) × (fault ≢ table.Memory) × IsRefused bytes fault × failed (why.Table fault))

-- THE LATENCIES: those of a file that is named, or else the standard ones
abbrev pub AnswersLatency : (Failure → Type 0) → Outside → Option (List ℕ) → (List ℕ → Type 0) → Type 0
AnswersLatency failed outside None next = next standard_latencies
AnswersLatency failed outside (Some file) next = AnswersFile failed outside file_limit file (AnswersTable failed next)

-- a tree whose faults in names and types are these: it is refused by the first one, or gives its typed tree
abbrev pub AnswersTyped : (Failure → Type 0) → (TUnit → Type 0) → tree.Unit → List TypeFault → Type 0
AnswersTyped failed next unit (fault ∷ faults) = failed (why.Types fault)
AnswersTyped failed next unit [] = (typed : TUnit) × IsTyped unit typed × next typed

-- what tokens are read to: a refusal, or a tree
abbrev pub AnswersTree : (Failure → Type 0) → (TUnit → Type 0) → Result tree.Unit ParseFault → Type 0
AnswersTree failed next (Err fault) = failed (why.Parse fault)
AnswersTree failed next (Ok unit) = AnswersTyped failed next unit (faults unit)

-- what a source is cut into: a refusal, or its tokens
abbrev pub AnswersTokens : (Failure → Type 0) → (TUnit → Type 0) → Result (List Token) LexFault → Type 0
AnswersTokens failed next (Err fault) = failed (why.Lex fault)
AnswersTokens failed next (Ok list) = (found : Result tree.Unit ParseFault) × IsParse list found × AnswersTree failed next found

-- THE SOURCE is accepted, or refused by its first fault
abbrev pub AnswersSource : (Failure → Type 0) → (TUnit → Type 0) → List ℕ → Type 0
AnswersSource failed next bytes = AnswersTokens failed next (tokens bytes)

-- the bytes of the input: they are too many, or are given
abbrev pub AnswersRead : (Failure → Type 0) → (List ℕ → Type 0) → List ℕ → Type 0
AnswersRead failed next bytes = ((input_limit < length bytes) × failed why.InputLong) ⊎ ((length bytes ≤ input_limit) × next bytes)

-- THE INPUT is read where the source calls `getchar`, and there alone: a source that doesn't is run with no input
abbrev pub AnswersInput : (Failure → Type 0) → Outside → TUnit → (List ℕ → Type 0) → Type 0
AnswersInput failed outside typed next = MatchBool (calls_getchar typed) (AnswersRead failed next outside.input) (next [])

-- THE PROGRAM of two files: the source is loaded, then the table; the table is read, and then the source is accepted or refused
abbrev pub AnswersProgram : (Failure → Type 0) → Outside → List ℕ → Option (List ℕ) → (List ℕ → TUnit → Type 0) → Type 0
AnswersProgram failed outside file latency next =
    AnswersFile failed outside file_limit file (λ bytes. AnswersLatency failed outside latency (λ latencies. AnswersSource failed (next latencies) bytes))

-- a program as it is run: with these latencies, this input, and at most so many operations
pub record Running : Type 0 where
  pub typed : TUnit
  pub latencies : List ℕ
  pub input : List ℕ
  pub steps : ℕ

-- THE RUN of a program: its events, its output and its end
unfoldable pub run_of : Running → Run
run_of r = run (record { unit = r.typed; marks = marks_of r.typed; latencies = r.latencies }) r.input r.steps

-- A PROGRAM OF TWO FILES WITH ITS INPUT, ready to run
abbrev pub AnswersRunning : (Failure → Type 0) → Outside → List ℕ → Option (List ℕ) → ℕ → (Running → Type 0) → Type 0
AnswersRunning failed outside file latency steps next =
    AnswersProgram failed outside file latency (λ latencies typed. AnswersInput failed outside typed
    (λ input. next (record { typed = typed; latencies = latencies; input = input; steps = steps })))
