-- Believed with a public law.
-- What holds of paths, of work and of times, whatever the run: the statements of the laws.
use Rattle.std.specs.Prelude.{ℕ, ◌≡◌, ◌+◌, ◌<◌, ◌≤◌, ◌⊎◌, max, if◌then◌else◌, List, [], ◌∷◌, ◌++◌, length, Some}
use Rattle.k_optab.specs.declared.event.Src.{Src}
use Rattle.k_optab.specs.Events.{Operation, IsOperation, ListsUnbroken, SourcesAreEarlier}
use Rattle.k_optab.specs.Graph.{Path, Weighs, Heaviest, HeaviestTo, IsTime, work}

-- no path of [s, e) weighs more than p
abbrev pub AtMost : List Operation → ℕ → ℕ → ℕ → Type 0
AtMost ops s e p = (k w : ℕ) → Weighs ops s e k w → w ≤ p

-- m is the greatest time that an unbroken one of these sources has in an interval from s on, and 0 where there is none
pub record IsGreatestTime (ops : List Operation) (s : ℕ) (sources : List Src) (m : ℕ) : Type 0 where
  pub reached : (m ≡ 0) ⊎ ((j : ℕ) × ListsUnbroken sources j × IsTime ops s (Some j) m)
  pub greatest : (j : ℕ) → ListsUnbroken sources j → (t : ℕ) × IsTime ops s (Some j) t × (t ≤ m)

-- the greatest of the times of the unbroken ones of these sources, where each number has its time; 0 where there is none
abbrev pub greatest_of : (ℕ → ℕ) → List Src → ℕ
greatest_of time [] = 0
greatest_of time (src ∷ sources) = if src.broken then greatest_of time sources else max (time src.number) (greatest_of time sources)

-- where the numbers have the times of the interval, that is the greatest time of the unbroken sources
abbrev pub GreatestOfSources : Type 0
GreatestOfSources = (ops : List Operation) (s : ℕ) (time : ℕ → ℕ) (sources : List Src)
    → ((j : ℕ) → ListsUnbroken sources j → IsTime ops s (Some j) (time j)) → IsGreatestTime ops s sources (greatest_of time sources)

-- a path weighs at most the work of its interval
abbrev pub PathIsAtMostWork : Type 0
PathIsAtMostWork = (ops : List Operation) → SourcesAreEarlier ops → (s e k w : ℕ) → Weighs ops s e k w → w ≤ work ops s e

-- the weight of a heaviest path of an interval is one number
abbrev pub HeaviestIsUnique : Type 0
HeaviestIsUnique = (ops : List Operation) (s e p q : ℕ) → Heaviest ops s e p → Heaviest ops s e q → p ≡ q

-- the weight of a heaviest path to an operation is one number
abbrev pub HeaviestToIsUnique : Type 0
HeaviestToIsUnique = (ops : List Operation) (s k p q : ℕ) → HeaviestTo ops s k p → HeaviestTo ops s k q → p ≡ q

-- there is that number for each operation of the interval
abbrev pub HeaviestToExists : Type 0
HeaviestToExists = (ops : List Operation) → SourcesAreEarlier ops → (s k : ℕ) (op : Operation) → s ≤ k → IsOperation ops k op
    → (p : ℕ) × HeaviestTo ops s k p

-- a value that came from before the interval, or from no operation, has the time 0 in it, and no other
abbrev pub TimeBeforeIsZero : Type 0
TimeBeforeIsZero = (ops : List Operation) (s q t : ℕ) → q < s → (IsTime ops s (Some q) t → t ≡ 0) × (t ≡ 0 → IsTime ops s (Some q) t)

-- a longer history keeps the paths of an interval within the shorter one, and gives it no others
abbrev pub LongerHistoryKeepsPaths : Type 0
LongerHistoryKeepsPaths = (ops more : List Operation) (s e k w : ℕ) (nodes : List ℕ) → e ≤ length ops
    → (Path ops s e k w nodes → Path (ops ++ more) s e k w nodes) × (Path (ops ++ more) s e k w nodes → Path ops s e k w nodes)

-- a longer history keeps the work of an interval within the shorter one
abbrev pub LongerHistoryKeepsWork : Type 0
LongerHistoryKeepsWork = (ops more : List Operation) (s e : ℕ) → e ≤ length ops → work (ops ++ more) s e ≡ work ops s e

-- a longer history keeps the weight of the heaviest path of such an interval
abbrev pub LongerHistoryKeepsHeaviest : Type 0
LongerHistoryKeepsHeaviest = (ops more : List Operation) (s e p : ℕ) → e ≤ length ops
    → (Heaviest ops s e p → Heaviest (ops ++ more) s e p) × (Heaviest (ops ++ more) s e p → Heaviest ops s e p)

-- a longer history keeps the time that a value of an earlier operation has in an interval
abbrev pub LongerHistoryKeepsTimes : Type 0
LongerHistoryKeepsTimes = (ops more : List Operation) (s q t : ℕ) → q < length ops
    → (IsTime ops s (Some q) t → IsTime (ops ++ more) s (Some q) t) × (IsTime (ops ++ more) s (Some q) t → IsTime ops s (Some q) t)

-- the heaviest path to an operation adds its latency to the greatest time of its unbroken sources
abbrev pub TimeFromSources : Type 0
TimeFromSources = (ops : List Operation) → SourcesAreEarlier ops → (s k m : ℕ) (op : Operation) → s ≤ k → IsOperation ops k op
    → IsGreatestTime ops s op.sources m → HeaviestTo ops s k (op.latency + m)

-- one operation more: the heaviest path of an interval is the heavier of that so far and that to the new operation
abbrev pub HeaviestOfOneMore : Type 0
HeaviestOfOneMore = (ops : List Operation) → SourcesAreEarlier ops → (s k p q : ℕ) → s ≤ k → Heaviest ops s k p → HeaviestTo ops s k q
    → Heaviest ops s (k + 1) (max p q)

-- a path of an interval is at most its work
abbrev pub HeaviestIsAtMostWork : Type 0
HeaviestIsAtMostWork = (ops : List Operation) → SourcesAreEarlier ops → (s e p : ℕ) → Heaviest ops s e p → p ≤ work ops s e

-- the path of an interval within another is at most the other's
abbrev pub InnerPathIsAtMostOuter : Type 0
InnerPathIsAtMostOuter = (ops : List Operation) (s e s' e' p q : ℕ) → s ≤ s' → e' ≤ e → Heaviest ops s e p → Heaviest ops s' e' q → q ≤ p
