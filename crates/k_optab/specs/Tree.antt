-- Believed with the theorem on the top call.
-- *Tree*: the tracked instances of a run in order of entry, each with its work and its critical path.
use Rattle.std.specs.Prelude.{ℕ, ◌≡◌, List, [], ◌∷◌}
use Rattle.k_optab.specs.declared.event.Event.{Event}
use Rattle.k_optab.specs.declared.node.Node.{Node}
use Rattle.k_optab.specs.Events.{Operation, operations}
use Rattle.k_optab.specs.Graph.{Heaviest, work}
use Rattle.k_optab.specs.declared.closed.Closed.{Closed}
use Rattle.k_optab.specs.Instances.{tracked}

-- two lists are of one length, and R holds of each item of the one and the item at its place in the other
abbrev pub EachWith : {A B : Type 0} → (A → B → Type 0) → List A → List B → Type 0
EachWith R [] [] = Unit {0}
EachWith R [] (y ∷ ys) = ⊥
EachWith R (x ∷ xs) [] = ⊥
EachWith R (x ∷ xs) (y ∷ ys) = R x y × EachWith R xs ys

-- the node of a closed instance: its region and depth, the work of its interval, and the weight of its heaviest path
pub record IsNodeOf (ops : List Operation) (i : Closed) (n : Node) : Type 0 where
  pub region : n.region ≡ i.region
  pub depth : n.depth ≡ i.depth
  pub work : n.work ≡ work ops i.start i.end
  pub path : Heaviest ops i.start i.end n.path

-- the tree of these events to that depth
abbrev pub IsTree : ℕ → List Event → List Node → Type 0
IsTree depth events nodes = EachWith (IsNodeOf (operations events)) (tracked depth events) nodes
