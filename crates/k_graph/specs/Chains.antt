-- For contracts between crates: nobody has to believe it.
-- What is kept of each operation of an interval, and how a path is read off it.
use Rattle.std.specs.Prelude.{ℕ, ◌≡◌, ◌+◌, ◌-◌, ◌^◌, ◌<◌, ◌≤◌, ◌==◌, min, List, [], ◌∷◌, ◌++◌, length, Option, Some, None, slice_get, slice_index, nat_lt, if◌then◌else◌}
use Rattle.k_optab.specs.declared.event.Src.{Src}
use Rattle.k_optab.specs.Events.{AreBefore}
use Rattle.k_optab.specs.GraphLaws.{greatest_of}
use Rattle.k_graph.specs.declared.chain.Chains.{Chains}
use Rattle.k_graph.specs.Times.{time_at}

-- the lesser of two numbers that may be missing
abbrev pub lesser : Option ℕ → Option ℕ → Option ℕ
lesser None other = other
lesser (Some number) None = Some number
lesser (Some number) (Some other) = Some (min number other)

-- the smallest of the unbroken sources from start on that have this time
abbrev pub smallest_of : ℕ → List ℕ → ℕ → List Src → Option ℕ
smallest_of start times time [] = None
smallest_of start times time (src ∷ sources) =
    if src.broken then smallest_of start times time sources
    else (if nat_lt src.number start then smallest_of start times time sources
    else (if slice_index times (src.number - start) == time then lesser (Some src.number) (smallest_of start times time sources)
    else smallest_of start times time sources))

-- the operation before the next one on its chosen path
abbrev pub before_of : ℕ → List ℕ → List Src → Option ℕ
before_of start times sources =
    if nat_lt 0 (greatest_of (time_at start times) sources) then smallest_of start times (greatest_of (time_at start times) sources) sources else None

-- one operation more
abbrev pub chained : ℕ → List Src → Chains → Chains
chained latency sources c = record c {
  times = c.times ++ (latency + greatest_of (time_at c.start c.times) sources) ∷ [];
  befores = c.befores ++ before_of c.start c.times sources ∷ [];
}

-- that operation comes next, and its numbers are small enough
pub record CanChain (latency : ℕ) (sources : List Src) (c : Chains) : Type 0 where
  pub before : AreBefore (c.start + length c.times) sources
  pub time : latency + greatest_of (time_at c.start c.times) sources < 2 ^ 64

-- the nodes of the path to k, by what stands before each operation from start on
pub data Traces (start : ℕ) (befores : List (Option ℕ)) : ℕ → List ℕ → Type 0 where
  starts : (k : ℕ) → slice_get befores (k - start) ≡ Some None → Traces start befores k (k ∷ [])
  follows : (j k : ℕ) (nodes : List ℕ) → Traces start befores j nodes → slice_get befores (k - start) ≡ Some (Some j) → Traces start befores k (nodes ++ k ∷ [])

-- what stands before an operation lies between the start and it
abbrev pub AreEarlier : ℕ → List (Option ℕ) → Type 0
AreEarlier start befores = (k j : ℕ) → slice_get befores k ≡ Some (Some j) → (start ≤ j) × (j < start + k)
