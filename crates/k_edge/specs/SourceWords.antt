-- Believed with the theorem on the top call.
-- What a source of bytes is, and what a read of it does.
use Rattle.std.specs.Prelude.{ℕ, zero, suc, ◌≡◌, ◌+◌, ◌-◌, ◌^◌, ◌<◌, ◌≤◌, ◌↔◌, List, [], length, take, drop, min, Option, Some, None, Result, Ok, Err}
use Rattle.k_edge.specs.declared.source.Failed.{Failed}
use Rattle.k_edge.specs.Fault.{Rose}

-- what is known of a source
pub record SourceState : Type 0 where
  -- the bytes that are left, or None where the source doesn't tell
  pub left : Option (List ℕ)
  -- how many faults there were
  pub faults : ℕ
  -- how many bytes were taken
  pub taken : ℕ
  -- how many reads told the end: they answered 0 for a buffer that isn't empty
  pub ended : ℕ

-- one more than a count that is kept in 64 bits, which stays at its last value
abbrev pub one_more : ℕ → ℕ
one_more count = min (count + 1) (2 ^ 64 - 1)

-- the count of reads that told the end, behind one of n bytes into a buffer of a size
abbrev pub ended_after : ℕ → ℕ → ℕ → ℕ
ended_after count zero (suc size) = one_more count
ended_after count n size = count

-- the first n of these bytes were taken into the buffer and the rest is left; 0 is the end for a buffer that isn't empty
pub record TakesFirst (n : ℕ) (old_buffer buffer bytes : List ℕ) (left : Option (List ℕ)) : Type 0 where
  pub within : n ≤ length bytes
  pub first : take n buffer ≡ take n bytes
  pub rest : left ≡ Some (drop n bytes)
  pub end : 0 < length old_buffer → ((n ≡ 0) ↔ (bytes ≡ []))

-- n bytes were taken, from those that were left where they are told
abbrev pub Takes : ℕ → List ℕ → List ℕ → Option (List ℕ) → Option (List ℕ) → Type 0
Takes n old_buffer buffer None left = left ≡ None
Takes n old_buffer buffer (Some bytes) left = TakesFirst n old_buffer buffer bytes left

-- a read of n bytes: no more than the buffer holds, counted among those taken, and no fault; where it told the end, that is counted
pub record ReadsBytes (n : ℕ) (old_buffer buffer : List ℕ) (old new : SourceState) : Type 0 where
  pub fits : n ≤ length old_buffer
  pub takes : Takes n old_buffer buffer old.left new.left
  pub counts : new.taken ≡ old.taken + n
  pub faultless : new.faults ≡ old.faults
  pub ended : new.ended ≡ ended_after old.ended n (length old_buffer)

-- a failed read: the count of faults rose, and the source is left as it was
pub record ReadFails (old new : SourceState) : Type 0 where
  pub fault : Rose old.faults new.faults
  pub left : new.left ≡ old.left
  pub counts : new.taken ≡ old.taken
  pub ended : new.ended ≡ old.ended

-- what a read answers, and what it leaves
abbrev pub Reads : Result ℕ Failed → List ℕ → List ℕ → SourceState → SourceState → Type 0
Reads (Ok n) old_buffer buffer old new = ReadsBytes n old_buffer buffer old new
Reads (Err failed) old_buffer buffer old new = ReadFails old new
