-- Believed with the theorem on the top call.
-- Instances with those within them, the list of them in order of entry, and when two of them differ in the order of siblings alone.
use Rattle.std.specs.Prelude.{ℕ, ◌+◌, ◌≤◌, ◌≡◌, max, List, [], ◌∷◌, ◌++◌}
use Rattle.k_optab.specs.declared.node.Node.{Node}

-- what is told of an instance, but for its depth
pub record Label : Type 0 where
  pub region : ℕ
  pub work : ℕ
  pub path : ℕ

-- instances side by side, in order of entry, each with those within it
pub data Forest : Type 0 where
  bare : Forest
  grown : (label : Label) (inner later : Forest) → Forest

-- an instance with those within it
pub record Tree : Type 0 where
  pub label : Label
  pub inner : Forest

-- a tree alone
abbrev pub alone : Tree → Forest
alone t = grown t.label t.inner bare

-- how many instances a forest has
abbrev pub size : Forest → ℕ
size bare = 0
size (grown label inner later) = 1 + size inner + size later

-- how many levels of instances a forest has
abbrev pub height : Forest → ℕ
height bare = 0
height (grown label inner later) = max (1 + height inner) (height later)

-- the node of an instance of this depth
abbrev pub node_at : ℕ → Label → Node
node_at depth label = record { region = label.region; work = label.work; path = label.path; depth = depth }

-- the instances of a forest in order of entry, where the outermost ones have this depth
abbrev pub nodes_of : ℕ → Forest → List Node
nodes_of depth bare = []
nodes_of depth (grown label inner later) = node_at depth label ∷ (nodes_of (depth + 1) inner ++ nodes_of depth later)

-- the instances of a tree in order of entry
abbrev pub list_of : Tree → List Node
list_of t = nodes_of 0 (alone t)

-- each depth is at least 1, and at most one more than that before it
abbrev pub GoDeeper : ℕ → List Node → Type 0
GoDeeper before [] = Unit {0}
GoDeeper before (n ∷ nodes) = (1 ≤ n.depth) × (n.depth ≤ before + 1) × GoDeeper n.depth nodes

-- these nodes are a tree in order of entry: the first and no other has depth 0, and each depth is at most one more than that before it
abbrev pub IsInOrder : List Node → Type 0
IsInOrder [] = ⊥
IsInOrder (n ∷ nodes) = (n.depth ≡ 0) × GoDeeper 0 nodes

-- the trees of a forest in post-order: each stands behind those within it
abbrev pub post_order : Forest → List Tree
post_order bare = []
post_order (grown label inner later) = post_order inner ++ record { label = label; inner = inner } ∷ post_order later

-- two forests are equal up to the order of siblings: one becomes the other by exchanging neighbours, each with all that is
-- within it, any number of times
pub data Alike : Forest → Forest → Type 0 where
  neither : Alike bare bare
  both : (label : Label) (inner inner' later later' : Forest) → Alike inner inner' → Alike later later'
      → Alike (grown label inner later) (grown label inner' later')
  exchanged : (one other : Label) (within_one within_other later : Forest)
      → Alike (grown one within_one (grown other within_other later)) (grown other within_other (grown one within_one later))
  further : (f g h : Forest) → Alike f g → Alike g h → Alike f h

-- two trees are equal up to the order of siblings: they have one shape
pub record SameShape (one other : Tree) : Type 0 where
  pub label : one.label ≡ other.label
  pub inner : Alike one.inner other.inner
