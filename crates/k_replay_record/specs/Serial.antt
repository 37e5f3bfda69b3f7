-- Believed with a public law.
-- The serial run of a record's steps: each gives its value from those of earlier ones.
use Rattle.std.specs.Prelude.{ℕ, List, [], ◌∷◌, ◌++◌, map, slice_get, Option}
use Rattle.k_replay_record.specs.declared.record.Datum.{Datum}
use Rattle.k_replay_record.specs.declared.record.Operand.{Operand}
use Rattle.k_replay_record.specs.declared.record.Operand.TheVariants.{Fixed, From}
use Rattle.k_replay_record.specs.declared.record.Step.{Step}
use Rattle.k_replay_record.specs.Acts.{or_nothing, value, written}

-- the value of an operand, where `given` tells what the operations gave so far
abbrev pub operand_value : (ℕ → Option Datum) → Operand → Datum
operand_value given (Fixed d) = d
operand_value given (From k) = or_nothing (given k)

-- the values of a step's operands
abbrev pub operands_of : (ℕ → Option Datum) → Step → List Datum
operands_of given s = map (operand_value given) s.operands

-- the value of a step
abbrev pub step_value : (ℕ → Option Datum) → Step → Datum
step_value given s = value s.act (operands_of given s)

-- the bytes that a step writes
abbrev pub step_bytes : (ℕ → Option Datum) → Step → List ℕ
step_bytes given s = written s.act (operands_of given s)

-- the values of steps, with those of the steps before them
unfoldable pub values_with : List Datum → List Step → List Datum
values_with before [] = before
values_with before (s ∷ steps) = values_with (before ++ step_value (slice_get before) s ∷ []) steps

-- the values of all steps, one for each
abbrev pub serial : List Step → List Datum
serial steps = values_with [] steps

-- the bytes of steps, one behind the other
abbrev pub bytes_of : (ℕ → Option Datum) → List Step → List ℕ
bytes_of given [] = []
bytes_of given (s ∷ steps) = step_bytes given s ++ bytes_of given steps

-- the bytes of a serial run
abbrev pub serial_bytes : List Step → List ℕ
serial_bytes steps = bytes_of (slice_get (serial steps)) steps
