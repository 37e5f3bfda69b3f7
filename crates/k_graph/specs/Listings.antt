-- Believed with the theorem on the top call.
-- What is listed of a run's instances.
use Rattle.std.specs.Prelude.{ℕ, ◌≡◌, ◌<◌, ◌==◌, Bool, false, List, Option, None, Some, filter, map, slice_get, All, AllPairs}
use Rattle.k_optab.specs.declared.event.Event.{Event}
use Rattle.k_optab.specs.Events.{Operation, operations}
use Rattle.k_optab.specs.declared.closed.Closed.{Closed}
use Rattle.k_optab.specs.Instances.{IsParent, tracked}
use Rattle.k_optab.specs.InstanceLaws.{Precedes}
use Rattle.k_optab.specs.Meaning.{HasBoundedPath}
use Rattle.k_optab.specs.declared.node.Node.{Node}
use Rattle.k_optab.specs.Tree.{EachWith, IsNodeOf}
use Rattle.k_graph.specs.declared.level.Measured.{Measured}
use Rattle.k_graph.specs.declared.tree.Instance.{Instance}

-- what the tree says of an instance of the list
abbrev pub node_of : Instance → Node
node_of n = record { region = n.region; work = n.work; path = n.path; depth = n.depth }

-- what the list says of a closed instance: its node in the tree, its interval, and which item of the list is its parent
pub record IsListed (ops : List Operation) (all : List Closed) (i : Closed) (n : Instance) : Type 0 where
  pub node : IsNodeOf ops i (node_of n)
  pub start : n.start ≡ i.start
  pub end : n.end ≡ i.end
  pub parent : IsParent all i n.parent

-- the list has the tracked instances, in order of entry, and nothing else
abbrev pub IsListing : ℕ → List Event → List Instance → Type 0
IsListing depth events list = EachWith (IsListed (operations events) (tracked depth events)) (tracked depth events) list

-- the closed instance that was measured
abbrev pub closed_of : Measured → Closed
closed_of m = m.closed

-- the list's item for what was measured, with this parent
abbrev pub item_of : Measured → Option ℕ → Instance
item_of m parent = record {
  region = m.closed.region;
  depth = m.closed.depth;
  start = m.closed.start;
  end = m.closed.end;
  work = m.work;
  path = m.path;
  parent = parent;
}

-- the list's item has what was measured, and its parent
pub record HasParent (all : List Closed) (m : Measured) (n : Instance) : Type 0 where
  pub is : n ≡ item_of m n.parent
  pub parent : IsParent all (closed_of m) n.parent

-- closed instances in order of entry, none of which crosses another
pub record AreNested (all : List Closed) : Type 0 where
  pub left : All (λ i. i.enter < i.exit) all
  pub apart : AllPairs Precedes all

-- each item so far has its parent
abbrev pub EachHasParent : List Measured → List Instance → Type 0
EachHasParent list tree = (place : ℕ) (m : Measured) (n : Instance) → slice_get list place ≡ Some m → slice_get tree place ≡ Some n
    → HasParent (map closed_of list) m n

-- a place in the list that may be missing is this one
abbrev pub is_at : ℕ → Option ℕ → Bool
is_at place None = false
is_at place (Some other) = other == place

-- the children of the instance at a place in the list: the listed instances whose parent it is
abbrev pub children_of : ℕ → List Instance → List Instance
children_of place list = filter (λ n. is_at place n.parent) list

-- the path of each instance of the list is at most its work, at least each child's path, and at most the children's paths and
-- its own work together
abbrev pub AreBounded : List Instance → Type 0
AreBounded list = (place : ℕ) (n : Instance) → slice_get list place ≡ Some n → HasBoundedPath (node_of n) (map node_of (children_of place list))
