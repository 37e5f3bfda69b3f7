-- Believed with the theorem on the top call.
-- What a sink of bytes is, and what a put does.
use Rattle.std.specs.Prelude.{ℕ, ⊤, ◌≡◌, ◌≤◌, List, ◌++◌, length, take, Option, Some, None, Result, Ok, Err}
use Rattle.k_edge.specs.declared.sink.PutFault.{PutFault}
use Rattle.k_edge.specs.declared.sink.PutFault.TheVariants as fault
use Rattle.k_edge.specs.Fault.{Rose}

-- what is known of a sink
pub record SinkState : Type 0 where
  -- the bytes that were written, or None where the sink doesn't tell
  pub written : Option (List ℕ)
  -- how many faults there were
  pub faults : ℕ

-- what was written has grown by these bytes
abbrev pub Grows : Option (List ℕ) → List ℕ → Option (List ℕ) → Type 0
Grows None piece new = new ≡ None
Grows (Some written) piece new = new ≡ Some (written ++ piece)

-- what was written has grown by a prefix of these bytes
abbrev pub GrowsInPart : Option (List ℕ) → List ℕ → Option (List ℕ) → Type 0
GrowsInPart old piece new = (n : ℕ) × (n ≤ length piece) × Grows old (take n piece) new

-- what a put of a piece answers, and what it leaves
abbrev pub Puts : Result ⊤ PutFault → List ℕ → SinkState → SinkState → Type 0
Puts (Ok done) piece old new = Grows old.written piece new.written × (new.faults ≡ old.faults)
Puts (Err fault.Failed) piece old new = GrowsInPart old.written piece new.written × Rose old.faults new.faults
Puts (Err fault.Memory) piece old new = new ≡ old
