-- Believed with the theorem on the top call.
-- What reading a source to its end answers, and what it leaves.
use Rattle.std.specs.Prelude.{ℕ, ◌≡◌, ◌+◌, ◌≤◌, List, ◌++◌, length, Option, Some, None, Result, Ok, Err, Vec}
use Rattle.std.specs.Io.KnownBytes.{IsAtEnd}
use Rattle.std.specs.declared.alloc.Global.{Global}
use Rattle.k_edge.specs.declared.reading.ReadAllFault.{ReadAllFault}
use Rattle.k_edge.specs.declared.reading.ReadAllFault.TheVariants as all
use Rattle.k_edge.specs.Fault.{Rose}
use Rattle.k_edge.specs.SourceWords.{SourceState, one_more}

-- these bytes stood before the ones that are now left, where what is left is told
abbrev pub DrawsFrom : Option (List ℕ) → List ℕ → Option (List ℕ) → Type 0
DrawsFrom None bytes left = left ≡ None
DrawsFrom (Some old) bytes left = (rest : List ℕ) × (old ≡ bytes ++ rest) × (left ≡ Some rest)

-- these bytes were taken from a source, and counted
pub record Draws (bytes : List ℕ) (old new : SourceState) : Type 0 where
  -- what is left is as before without them
  pub left : DrawsFrom old.left bytes new.left
  -- they are counted among those taken
  pub counted : new.taken ≡ old.taken + length bytes

-- some bytes were taken, at most as many as the limit
abbrev pub DrawsWithin : ℕ → SourceState → SourceState → Type 0
DrawsWithin limit old new = (bytes : List ℕ) × Draws bytes old new × (length bytes ≤ limit)

-- one byte more than the limit was taken
abbrev pub DrawsTooMany : ℕ → SourceState → SourceState → Type 0
DrawsTooMany limit old new = (bytes : List ℕ) × Draws bytes old new × (length bytes ≡ limit + 1)

-- what reading a source to its end answers, and what it leaves: a count of faults rises with a fault alone, and the end is told once where all was
-- read, and else not
abbrev pub ReadsAll : Result (Vec ℕ Global) ReadAllFault → ℕ → SourceState → SourceState → Type 0
ReadsAll (Ok bytes) limit old new =
    Draws bytes.items old new × (length bytes.items ≤ limit) × IsAtEnd new.left × (new.faults ≡ old.faults) × (new.ended ≡ one_more old.ended)
ReadsAll (Err all.TooLong) limit old new = DrawsTooMany limit old new × (new.faults ≡ old.faults) × (new.ended ≡ old.ended)
ReadsAll (Err all.ReadFault) limit old new = DrawsWithin limit old new × Rose old.faults new.faults × (new.ended ≡ old.ended)
ReadsAll (Err all.Memory) limit old new = DrawsWithin limit old new × (new.faults ≡ old.faults) × (new.ended ≡ old.ended)
