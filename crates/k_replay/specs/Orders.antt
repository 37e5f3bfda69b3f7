-- Believed with a public law.
-- *Any order gives the serial run*: what holds behind every list of calls by any workers.
use Rattle.std.specs.Prelude.{ℕ, ◌≡◌, ◌+◌, ◌<◌, ◌≤◌, ◌==◌, ◌⊎◌, true, List, [], ◌∷◌, ◌++◌, length, slice_get, if◌then◌else◌, Option, Some, None, Result, Ok}
use Rattle.std.specs.List.{All, Contains}
use Rattle.k_replay_record.specs.declared.record.Datum.{Datum}
use Rattle.k_replay_record.specs.declared.record.Operand.{Operand}
use Rattle.k_replay_record.specs.declared.record.Operand.TheVariants.{Fixed, From}
use Rattle.k_replay_record.specs.declared.record.Record.{Record}
use Rattle.k_replay_record.specs.declared.record.Step.{Step}
use Rattle.k_replay_record.specs.Records.{IsRecord}
use Rattle.k_replay_record.specs.Serial.{serial}
use Rattle.k_replay.specs.declared.answer.Deal.{Deal}
use Rattle.k_replay.specs.declared.answer.Deal.TheVariants.{Given, Held, Idle}
use Rattle.k_replay.specs.declared.answer.FireFault.{FireFault}
use Rattle.k_replay.specs.Calls.{Fires, IsHolding, Takes}
use Rattle.k_replay.specs.Plays.{Play, given_in, held_by, is_fired, left_in, started}

-- a call by a worker, with its answer
pub data Call : Type 0 where
  Took : ℕ → Deal → Call
  Fired : ℕ → Result ℕ FireFault → Call

-- what a call of one of the workers does
abbrev pub Does : Call → Play → Play → Type 0
Does (Took worker deal) before after = (worker < length before.held) × Takes before worker deal after
Does (Fired worker answer) before after = (worker < length before.held) × Fires before worker answer after

-- these calls, in order, lead from a play to another
abbrev pub Leads : List Call → Play → Play → Type 0
Leads [] before after = after ≡ before
Leads (c ∷ calls) before after = (between : Play) × Does c before between × Leads calls between after

-- how often a call gives this operation
abbrev pub times_given : ℕ → Call → ℕ
times_given k (Took worker (Given j)) = if j == k then 1 else 0
times_given k _ = 0

-- how often calls do
abbrev pub times_in : ℕ → List Call → ℕ
times_in k [] = 0
times_in k (c ∷ calls) = times_given k c + times_in k calls

-- an operand comes from one of these operations, or from none
abbrev pub IsAmong : List ℕ → Operand → Type 0
IsAmong fired (Fixed d) = Unit {0}
IsAmong fired (From k) = Contains fired k

-- all operands of a step do
abbrev pub AreAmong : List ℕ → Option Step → Type 0
AreAmong fired None = Unit {0}
AreAmong fired (Some s) = All (IsAmong fired) s.operands

-- each call that fires an operation stands behind those that fire its sources, where these were fired before
abbrev pub AreInOrder : List Step → List ℕ → List Call → Type 0
AreInOrder steps fired [] = Unit {0}
AreInOrder steps fired (Fired worker (Ok k) ∷ calls) = AreAmong fired (slice_get steps k) × AreInOrder steps (k ∷ fired) calls
AreInOrder steps fired (c ∷ calls) = AreInOrder steps fired calls

-- an operation is given
abbrev pub IsGiven : Deal → Type 0
IsGiven (Given k) = Unit {0}
IsGiven (Held k) = ⊥
IsGiven Idle = ⊥

-- a worker that holds none is given an operation
abbrev pub GivesNext : Play → Type 0
GivesNext p = (worker : ℕ) (deal : Deal) (after : Play) → held_by p worker ≡ None → Takes p worker deal after → IsGiven deal

-- what calls that led from the start to a play make of a record
pub record GivesSerialRun (tape : Record) (calls : List Call) (p : Play) : Type 0 where
  -- no operation is given twice, and each that is fired was given
  pub once : (k : ℕ) → times_in k calls ≤ 1
  pub given : (k : ℕ) → is_fired p.values k ≡ true → times_in k calls ≡ 1
  -- each is fired behind its sources
  pub order : AreInOrder tape.steps [] calls
  -- its value is that of the serial run
  pub value : (k : ℕ) (d : Datum) → given_in p.values k ≡ Some d → slice_get (serial tape.steps) k ≡ Some d
  -- the output is the beginning of the run's
  pub prefix : (rest : List ℕ) × (p.output ++ rest ≡ tape.output)
  -- and all of it where nothing is left
  pub whole : left_in p.values ≡ 0 → p.output ≡ tape.output
  -- where something is, a worker holds an operation, or the next one that takes is given one
  pub goes_on : 0 < left_in p.values → ((worker : ℕ) × IsHolding p worker) ⊎ GivesNext p

-- whatever calls of whatever workers there are
abbrev pub AnyOrderGivesTheSerialRun : Type 0
AnyOrderGivesTheSerialRun =
    (tape : Record) (workers : ℕ) (calls : List Call) (p : Play)
    → IsRecord tape
    → Leads calls (started tape workers) p
    → GivesSerialRun tape calls p
