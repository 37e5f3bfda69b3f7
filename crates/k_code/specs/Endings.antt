-- Believed with a public law.
-- A run of valid code ends: each cycle makes an operation.
use Rattle.std.specs.Prelude.{ℕ, ◌≡◌, ◌+◌, ◌-◌, ◌^◌, ◌<◌, ◌≤◌, ◌⊎◌, List, [], ◌∷◌, length, slice_get, Option, Some, None}
use Rattle.k_optab.specs.declared.event.Event.{Event}
use Rattle.k_ending.specs.declared.ending.End.{End}
use Rattle.k_world.specs.Worlds.{World}
use Rattle.k_code.specs.declared.code.Code.{Code}
use Rattle.k_code.specs.declared.code.CodeFunc.{CodeFunc}
use Rattle.k_code.specs.Runs.{run_of, EndsAfter, HasOutcome}
use Rattle.k_code.specs.Steps.{Waiting, Configuration, Going}
use Rattle.k_code.specs.Valid.{end_of, IsValid}

-- how many instructions of a function lie ahead
abbrev pub rest_of : Code → Option CodeFunc → ℕ → ℕ
rest_of code None pc = 0
rest_of code (Some f) pc = end_of code.funcs (length code.instrs) f.entry - pc

-- how many lie ahead of the calls that wait
abbrev pub ahead_of : Code → List Waiting → ℕ
ahead_of code [] = 0
ahead_of code (w ∷ waiting) = rest_of code (slice_get code.funcs w.frame.func) w.back + ahead_of code waiting

-- how many lie ahead of all live calls
abbrev pub ahead : Code → Configuration → ℕ
ahead code c = rest_of code (slice_get code.funcs c.frame.func) c.pc + ahead_of code c.waiting

-- a step makes an operation, or makes none and goes ahead
abbrev pub GoesOn : Code → Configuration → Configuration → Type 0
GoesOn code before after =
    (after.world.left + 1 ≡ before.world.left) ⊎ ((after.world.left ≡ before.world.left) × (ahead code after < ahead code before))

-- So each cycle of valid code makes an operation: a step that makes none goes ahead, and at most 2^29 instructions lie ahead.
abbrev pub CyclesMakeOperations : Type 0
CyclesMakeOperations = (code : Code) → IsValid code → (input : List ℕ) (budget n : ℕ) (before after : Configuration) → run_of code input budget n ≡ Going before
    → (ahead code before ≤ 2 ^ 29) × (run_of code input budget (n + 1) ≡ Going after → GoesOn code before after)

-- a run has ended after some number of instructions that a bound holds
pub record EndsWithin (code : Code) (input : List ℕ) (budget bound : ℕ) : Type 0 where
  pub count : ℕ
  pub few : count < bound
  pub end : End
  pub world : World
  pub is : EndsAfter code input budget count end world

-- so a run of valid code ends, whatever the input, after fewer than 2^59 instructions
abbrev pub ValidCodeEnds : Type 0
ValidCodeEnds = (code : Code) → IsValid code → (input : List ℕ) (budget : ℕ) → budget ≤ 1000000000 → EndsWithin code input budget (2 ^ 59)

-- a run that has ended stays as it is, so it has one end
abbrev pub EndsOnce : Type 0
EndsOnce = (code : Code) (input : List ℕ) (budget n more : ℕ) (end : End) (w : World) → EndsAfter code input budget n end w → EndsAfter code input budget (n + more) end w

-- so it has one outcome
abbrev pub OneOutcome : Type 0
OneOutcome = (code : Code) (input : List ℕ) (budget : ℕ) (some others : List Event) (a b : List ℕ) (e f : End) → HasOutcome code input budget some a e
    → HasOutcome code input budget others b f → (some ≡ others) × (a ≡ b) × (e ≡ f)
