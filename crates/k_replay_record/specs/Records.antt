-- Believed with a public law.
-- What every record of a run keeps.
use Rattle.std.specs.Prelude.{ℕ, ◌≡◌, ◌+◌, ◌<◌, true, List, [], ◌∷◌, Option, Some, None, if◌then◌else◌}
use Rattle.std.specs.List.{All, Contains}
use Rattle.k_replay_record.specs.declared.record.Act.{Act}
use Rattle.k_replay_record.specs.declared.record.Operand.{Operand}
use Rattle.k_replay_record.specs.declared.record.Operand.TheVariants.{Fixed, From}
use Rattle.k_replay_record.specs.declared.record.Record.{Record}
use Rattle.k_replay_record.specs.declared.record.Step.{Step}
use Rattle.k_replay_record.specs.Acts.{writes}
use Rattle.k_replay_record.specs.Serial.{serial_bytes}

-- an operand of the step of this number comes from an earlier one, or from none
abbrev pub IsEarlier : ℕ → Operand → Type 0
IsEarlier number (Fixed d) = Unit {0}
IsEarlier number (From k) = k < number

-- so do all operands of steps, the first of which has this number
abbrev pub AreEarlier : ℕ → List Step → Type 0
AreEarlier number [] = Unit {0}
AreEarlier number (s ∷ steps) = All (IsEarlier number) s.operands × AreEarlier (number + 1) steps

-- the step of this number is among the sources, where there is one
abbrev pub HasSource : Option ℕ → List Operand → Type 0
HasSource None operands = Unit {0}
HasSource (Some k) operands = Contains operands (From k)

-- the last step that writes, where the step of this number stands behind those whose last one this is
abbrev pub last_writer : Act → ℕ → Option ℕ → Option ℕ
last_writer what number last = if writes what then Some number else last

-- of steps, the first of which has this number, each that writes has the one that wrote before it among its sources
abbrev pub AreChained : Option ℕ → ℕ → List Step → Type 0
AreChained last number [] = Unit {0}
AreChained last number (s ∷ steps) =
    (writes s.act ≡ true → HasSource last s.operands) × AreChained (last_writer s.act number last) (number + 1) steps

-- the record of a run
pub record IsRecord (tape : Record) : Type 0 where
  -- sources are earlier steps
  pub earlier : AreEarlier 0 tape.steps
  -- outputs depend on one another, as they write to one place
  pub chained : AreChained None 0 tape.steps
  -- the bytes that the steps write in order are the output
  pub output : serial_bytes tape.steps ≡ tape.output
