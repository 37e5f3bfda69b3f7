-- Believed with a public law.
-- The operations of a run while workers fire them.
use Rattle.std.specs.Prelude.{ℕ, suc, ◌==◌, ◌&&◌, Bool, true, false, not, is_some, List, [], ◌∷◌, ◌++◌, length, replicate, slice_get, slice_index_or, slice_set, Option, Some, None}
use Rattle.std.specs.List.{list_any}
use Rattle.k_replay_record.specs.declared.record.Datum.{Datum}
use Rattle.k_replay_record.specs.declared.record.Datum.TheVariants as datum
use Rattle.k_replay_record.specs.declared.record.Operand.{Operand}
use Rattle.k_replay_record.specs.declared.record.Operand.TheVariants.{Fixed, From}
use Rattle.k_replay_record.specs.declared.record.Record.{Record}
use Rattle.k_replay_record.specs.declared.record.Step.{Step}
use Rattle.k_replay_record.specs.Serial.{step_value, step_bytes}

-- The record whose operations are fired; which one each worker holds; the value of each that is fired; and the bytes that were written.
pub record Play : Type 0 where
  pub tape : Record
  pub held : List (Option ℕ)
  pub values : List (Option Datum)
  pub output : List ℕ

-- nothing is held or fired
abbrev pub started : Record → ℕ → Play
started tape workers = record { tape = tape; held = replicate workers None; values = replicate (length tape.steps) None; output = [] }

-- the operation that a worker holds
abbrev pub held_by : Play → ℕ → Option ℕ
held_by p worker = slice_index_or p.held worker None

-- the value of an operation that is fired
abbrev pub given_in : List (Option Datum) → ℕ → Option Datum
given_in values k = slice_index_or values k None

-- an operation is fired
abbrev pub is_fired : List (Option Datum) → ℕ → Bool
is_fired values k = is_some (given_in values k)

-- it is this operation
abbrev pub is_number : ℕ → Option ℕ → Bool
is_number k None = false
is_number k (Some j) = j == k

-- a worker holds it
abbrev pub is_held : List (Option ℕ) → ℕ → Bool
is_held held k = list_any (is_number k) held

-- the operations that these operands come from are fired
abbrev pub are_given : List (Option Datum) → List Operand → Bool
are_given values [] = true
are_given values (Fixed d ∷ operands) = are_given values operands
are_given values (From k ∷ operands) = is_fired values k && are_given values operands

-- there is such a step, and its sources are fired
abbrev pub has_sources : List (Option Datum) → Option Step → Bool
has_sources values None = false
has_sources values (Some s) = are_given values s.operands

-- an operation of these steps can be given: its sources are fired, it is not, and no worker holds it
abbrev pub can_give : List Step → List (Option ℕ) → List (Option Datum) → ℕ → Bool
can_give steps held values k = has_sources values (slice_get steps k) && (not (is_fired values k) && not (is_held held k))

-- so it is of a play
unfoldable pub is_ready : Play → ℕ → Bool
is_ready p k = can_give p.tape.steps p.held p.values k

-- a worker holds this from now on, or nothing
abbrev pub with_held : ℕ → Option ℕ → Play → Play
with_held worker number p = record p { held = slice_set p.held worker number }

-- a value by the step that gives it, if there is one
abbrev pub value_at : List (Option Datum) → Option Step → Datum
value_at values None = datum.Nothing
value_at values (Some s) = step_value (given_in values) s

-- its bytes
abbrev pub bytes_at : List (Option Datum) → Option Step → List ℕ
bytes_at values None = []
bytes_at values (Some s) = step_bytes (given_in values) s

-- an operation that a worker held is fired: it has its value from those of its sources, and its bytes are written behind the others
abbrev pub fired_by : ℕ → ℕ → Play → Play
fired_by worker k p = record p {
  held = slice_set p.held worker None;
  values = slice_set p.values k (Some (value_at p.values (slice_get p.tape.steps k)));
  output = p.output ++ bytes_at p.values (slice_get p.tape.steps k);
}

-- how many operations are not fired
abbrev pub left_in : List (Option Datum) → ℕ
left_in [] = 0
left_in (None ∷ values) = suc (left_in values)
left_in (Some d ∷ values) = left_in values
