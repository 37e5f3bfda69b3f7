-- Believed with the theorem on the top call.
-- One heaviest path of all: which of them is chosen.
use Rattle.std.specs.Prelude.{ℕ, ◌≡◌, ◌+◌, ◌<◌, ◌≤◌, ◌⊎◌, max, List, [], ◌∷◌, ◌++◌, length, Option, Some, None, slice_get}
use Rattle.k_optab.specs.declared.event.Src.{Src}
use Rattle.k_optab.specs.Events.{Operation, IsOperation, ListsUnbroken}
use Rattle.k_optab.specs.Graph.{Path, HeaviestTo}

-- no unbroken source from s on has a heaviest path of a weight above 0
abbrev pub HasNoSource : List Operation → ℕ → List Src → Type 0
HasNoSource ops s sources = (i w : ℕ) → ListsUnbroken sources i → s ≤ i → HeaviestTo ops s i w → w ≡ 0

-- of the unbroken sources from s on whose heaviest path weighs more than 0, j has the heaviest one, and the
-- smallest number on a tie
pub record IsChosenSource (ops : List Operation) (s : ℕ) (sources : List Src) (j : ℕ) : Type 0 where
  pub weight : ℕ
  pub listed : ListsUnbroken sources j
  pub within : s ≤ j
  pub heaviest : HeaviestTo ops s j weight
  pub above : 0 < weight
  pub first : (i w : ℕ) → ListsUnbroken sources i → s ≤ i → HeaviestTo ops s i w → (w < weight) ⊎ ((w ≡ weight) × (j ≤ i))

-- the chosen path from s on that ends at k: before each node stands the chosen source, and where there is
-- none the path starts
pub data ChosenTo (ops : List Operation) (s : ℕ) : ℕ → List ℕ → Type 0 where
  starts : (k : ℕ) (op : Operation) → IsOperation ops k op → HasNoSource ops s op.sources → ChosenTo ops s k (k ∷ [])
  follows : (j k : ℕ) (nodes : List ℕ) (op : Operation) → ChosenTo ops s j nodes → IsOperation ops k op → IsChosenSource ops s op.sources j
      → ChosenTo ops s k (nodes ++ k ∷ [])

-- the chosen path of [s, e), of weight p: it ends at the smallest operation that has a path of that weight
pub record IsChosen (ops : List Operation) (s e p : ℕ) (nodes : List ℕ) : Type 0 where
  pub last : ℕ
  pub from_start : s ≤ last
  pub before_end : last < e
  pub weighs : HeaviestTo ops s last p
  pub first : (i w : ℕ) → s ≤ i → i < last → HeaviestTo ops s i w → w < p
  pub path : ChosenTo ops s last nodes

-- these nodes are a path of [s, e) of weight p, or none for an empty interval
abbrev pub IsPathOf : List Operation → ℕ → ℕ → ℕ → List ℕ → Type 0
IsPathOf ops s e p nodes = ((e ≤ s) × (p ≡ 0) × (nodes ≡ [])) ⊎ ((k : ℕ) × Path ops s e k p nodes)

-- what stands before an operation on its chosen path: the chosen source, or nothing
abbrev pub IsBefore : List Operation → ℕ → List Src → Option ℕ → Type 0
IsBefore ops s sources None = HasNoSource ops s sources
IsBefore ops s sources (Some j) = IsChosenSource ops s sources j

-- the weights of the heaviest paths to the operations of [s, made), and what stands before each
pub record AreChained (ops : List Operation) (s made : ℕ) (times : List ℕ) (befores : List (Option ℕ)) : Type 0 where
  pub count : s + length times ≡ max s made
  pub same : length befores ≡ length times
  pub weights : (k t : ℕ) → slice_get times k ≡ Some t → HeaviestTo ops s (s + k) t
  pub earlier : (k : ℕ) (b : Option ℕ) → slice_get befores k ≡ Some b
      → (op : Operation) × IsOperation ops (s + k) op × IsBefore ops s op.sources b
