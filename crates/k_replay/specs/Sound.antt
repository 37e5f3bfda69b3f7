-- For contracts between crates: nobody has to believe it.
-- What every play keeps, whatever calls are made.
use Rattle.std.specs.Prelude.{ℕ, ◌≡◌, ◌<◌, ◌≤◌, true, false, take, length, slice_get, Some}
use Rattle.k_replay_record.specs.declared.record.Datum.{Datum}
use Rattle.k_replay_record.specs.declared.record.Step.{Step}
use Rattle.k_replay_record.specs.Acts.{writes}
use Rattle.k_replay_record.specs.Records.{IsRecord}
use Rattle.k_replay_record.specs.Serial.{bytes_of, serial}
use Rattle.k_replay.specs.Plays.{Play, given_in, has_sources, held_by, is_fired}

-- the output of so many steps was written, and of no others
pub record IsWritten (p : Play) (count : ℕ) : Type 0 where
  pub output : p.output ≡ bytes_of (slice_get (serial p.tape.steps)) (take count p.tape.steps)
  pub below : (k : ℕ) (s : Step) → slice_get p.tape.steps k ≡ Some s → writes s.act ≡ true → k < count → is_fired p.values k ≡ true
  pub above : (k : ℕ) (s : Step) → slice_get p.tape.steps k ≡ Some s → writes s.act ≡ true → count ≤ k → is_fired p.values k ≡ false

-- a play keeps this: what was fired had its sources and gave the serial run's value, and what was written is the output's front
pub record IsSound (p : Play) : Type 0 where
  pub tape : IsRecord p.tape
  pub lengths : length p.values ≡ length p.tape.steps
  -- what a worker holds can be fired, and is not
  pub sources_held : (w k : ℕ) → held_by p w ≡ Some k → has_sources p.values (slice_get p.tape.steps k) ≡ true
  pub not_fired : (w k : ℕ) → held_by p w ≡ Some k → is_fired p.values k ≡ false
  -- no two hold one operation
  pub once : (v w k : ℕ) → held_by p v ≡ Some k → held_by p w ≡ Some k → v ≡ w
  -- the sources of a fired operation are fired
  pub sources_fired : (k : ℕ) → is_fired p.values k ≡ true → has_sources p.values (slice_get p.tape.steps k) ≡ true
  -- its value is that of the serial run
  pub value : (k : ℕ) (d : Datum) → given_in p.values k ≡ Some d → slice_get (serial p.tape.steps) k ≡ Some d
  pub written : (count : ℕ) × IsWritten p count
