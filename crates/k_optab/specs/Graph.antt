-- Believed with the theorem on the top call.
-- *Graph*, *Work and path*: the dependence graph of an interval [s, e) of a run's operations, the work of
-- the interval, and the weight of its heaviest path.
use Rattle.std.specs.Prelude.{ℕ, ◌≡◌, ◌+◌, ◌<◌, ◌≤◌, ◌⊎◌, List, [], ◌∷◌, ◌++◌, Option, Some, None}
use Rattle.k_optab.specs.Events.{Operation, IsOperation, ListsUnbroken, total_latency, interval}

-- a node of the graph of [s, e): an operation of the interval, with its number
pub record IsNode (ops : List Operation) (s e k : ℕ) (op : Operation) : Type 0 where
  pub from_start : s ≤ k
  pub before_end : k < e
  pub made : IsOperation ops k op

-- a path of the graph of [s, e), by its last node, its weight and its list of nodes: a node alone, or a
-- path and a node that lists the path's last node as an unbroken source; the weight is the sum of the latencies
pub data Path (ops : List Operation) (s e : ℕ) : ℕ → ℕ → List ℕ → Type 0 where
  alone : (k : ℕ) (op : Operation) → IsNode ops s e k op → Path ops s e k op.latency (k ∷ [])
  joined : (j w k : ℕ) (nodes : List ℕ) (op : Operation) → Path ops s e j w nodes → IsNode ops s e k op → ListsUnbroken op.sources j
      → Path ops s e k (w + op.latency) (nodes ++ k ∷ [])

-- some path of [s, e) that ends at k has weight w
abbrev pub Weighs : List Operation → ℕ → ℕ → ℕ → ℕ → Type 0
Weighs ops s e k w = (nodes : List ℕ) × Path ops s e k w nodes

-- p is the weight of a heaviest path of [s, e): some path has it and none has more, and it is 0 for an empty interval
pub record Heaviest (ops : List Operation) (s e p : ℕ) : Type 0 where
  pub reached : ((e ≤ s) × (p ≡ 0)) ⊎ ((k : ℕ) × Weighs ops s e k p)
  pub greatest : (k w : ℕ) → Weighs ops s e k w → w ≤ p

-- p is the weight of a heaviest path of [s, k] that ends at k
pub record HeaviestTo (ops : List Operation) (s k p : ℕ) : Type 0 where
  pub reached : Weighs ops s (k + 1) k p
  pub greatest : (w : ℕ) → Weighs ops s (k + 1) k w → w ≤ p

-- t is the time that a value of this source has in an interval from s on: that of the heaviest path to the
-- source, and 0 where the source lies before the interval or there is none
abbrev pub IsTime : List Operation → ℕ → Option ℕ → ℕ → Type 0
IsTime ops s None t = t ≡ 0
IsTime ops s (Some q) t = (q < s → t ≡ 0) × (s ≤ q → HeaviestTo ops s q t)

-- the work of [s, e): the latencies of its operations together
abbrev pub work : List Operation → ℕ → ℕ → ℕ
work ops s e = total_latency (interval ops s e)
