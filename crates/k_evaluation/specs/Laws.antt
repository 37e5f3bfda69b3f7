-- Believed with a public law.
-- What holds of every run.
use Rattle.std.specs.Prelude.{ℕ, ◌≡◌, ◌≢◌, ◌+◌, ◌*◌, ◌≤◌, List, ◌++◌, length}
use Rattle.k_optab.specs.declared.class.Class.{Class}
use Rattle.k_optab.specs.Events.{operations, SourcesAreEarlier, total_latency}
use Rattle.k_optab.specs.Instances.{Balanced}
use Rattle.k_optab.specs.Latencies.{latency}
use Rattle.k_ending.specs.declared.ending.End.{End}
use Rattle.k_ending.specs.declared.ending.End.TheVariants.{Returned, Trapped, OutOfSteps}
use Rattle.k_world.specs.WorldLaws.{AreBytes}
use Rattle.k_evaluation.specs.States.{Program}
use Rattle.k_evaluation.specs.Runs.{Run, run}
use Rattle.k_evaluation.specs.Texts.{source_texts}

-- a list begins with another
abbrev pub Begins : {A : Type 0} → List A → List A → Type 0
Begins {A = A} front whole = (rest : List A) × (whole ≡ front ++ rest)

-- each class takes at most so long
abbrev pub AreAtMost : ℕ → List ℕ → Type 0
AreAtMost most latencies = (class : Class) → latency latencies class ≤ most

-- each source of each operation of a run is an earlier operation
abbrev pub RunsHaveEarlierSources : Type 0
RunsHaveEarlierSources = (program : Program) (input : List ℕ) (budget : ℕ) → SourcesAreEarlier (operations (run program input budget).events)

-- a run makes at most the operations that it may make
abbrev pub RunsKeepTheBudget : Type 0
RunsKeepTheBudget = (program : Program) (input : List ℕ) (budget : ℕ) → length (operations (run program input budget).events) ≤ budget

-- its operations take at most the greatest latency for each that it may make
abbrev pub RunsTakeBoundedTime : Type 0
RunsTakeBoundedTime =
    (program : Program) (input : List ℕ) (budget most : ℕ)
    → AreAtMost most program.latencies
    → total_latency (operations (run program input budget).events) ≤ budget * most

-- where its program's texts are bytes, so is what a run writes
abbrev pub RunsWriteBytes : Type 0
RunsWriteBytes = (program : Program) (input : List ℕ) (budget : ℕ) → AreBytes (source_texts program.unit) → AreBytes (run program input budget).output

-- main returned
abbrev pub IsReturned : End → Type 0
IsReturned (Returned v) = Unit {0}
IsReturned (Trapped trap place) = ⊥
IsReturned OutOfSteps = ⊥

-- where main returned, each region that was entered was left
abbrev pub ReturnedRunsAreBalanced : Type 0
ReturnedRunsAreBalanced =
    (program : Program) (input : List ℕ) (budget : ℕ)
    → (let it = run program input budget in IsReturned it.end → Balanced it.events)

-- THE BUDGET ONLY CUTS: a run that ends otherwise is the same under every greater budget
abbrev pub EndedRunsStay : Type 0
EndedRunsStay =
    (program : Program) (input : List ℕ) (budget more : ℕ)
    → (run program input budget).end ≢ OutOfSteps
    → run program input (budget + more) ≡ run program input budget

-- a run that was cut off made all the operations that it might make, and each longer run begins with its events and its output
pub record IsCut (budget : ℕ) (short long : Run) : Type 0 where
  pub full : length (operations short.events) ≡ budget
  pub events : Begins short.events long.events
  pub output : Begins short.output long.output

-- so is each run that ends out of steps
abbrev pub CutRunsBegin : Type 0
CutRunsBegin =
    (program : Program) (input : List ℕ) (budget more : ℕ)
    → (run program input budget).end ≡ OutOfSteps
    → IsCut budget (run program input budget) (run program input (budget + more))
