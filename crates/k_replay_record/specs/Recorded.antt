-- For contracts between crates: nobody has to believe it.
-- A record that is made step by step.
use Rattle.std.specs.Prelude.{ℕ, ◌≡◌, ◌+◌, true, List, [], ◌∷◌, ◌++◌, length, Option, None}
use Rattle.std.specs.List.{All}
use Rattle.k_replay_record.specs.declared.record.Datum.{Datum}
use Rattle.k_replay_record.specs.declared.record.Step.{Step}
use Rattle.k_replay_record.specs.Acts.{writes}
use Rattle.k_replay_record.specs.Records.{AreChained, AreEarlier, HasSource, IsEarlier, last_writer}
use Rattle.k_replay_record.specs.Serial.{serial, serial_bytes}

-- the steps so far, the value of each, their bytes, and the number of the last one that writes
pub record Recorded : Type 0 where
  pub steps : List Step
  pub values : List Datum
  pub output : List ℕ
  pub last : Option ℕ

-- the last step that writes, of these behind others
abbrev pub last_of : Option ℕ → ℕ → List Step → Option ℕ
last_of last number [] = last
last_of last number (s ∷ steps) = last_of (last_writer s.act number last) (number + 1) steps

-- all is as the steps say
pub record IsRecorded (r : Recorded) : Type 0 where
  pub earlier : AreEarlier 0 r.steps
  pub chained : AreChained None 0 r.steps
  pub values : r.values ≡ serial r.steps
  pub output : r.output ≡ serial_bytes r.steps
  pub last : r.last ≡ last_of None 0 r.steps

-- a step can stand behind so many, of which this is the last that writes: its sources are among them, and where it writes, so is that one
pub record FitsAt (count : ℕ) (last : Option ℕ) (s : Step) : Type 0 where
  pub earlier : All (IsEarlier count) s.operands
  pub chained : writes s.act ≡ true → HasSource last s.operands

-- behind these
abbrev pub FitsBehind : List Step → Step → Type 0
FitsBehind steps s = FitsAt (length steps) (last_of None 0 steps) s

-- with a step more, of this value
abbrev pub with_step : Step → Datum → Recorded → Recorded
with_step s d r = record {
  steps = r.steps ++ s ∷ [];
  values = r.values ++ d ∷ [];
  output = r.output;
  last = last_writer s.act (length r.values) r.last;
}
