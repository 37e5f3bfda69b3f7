-- Believed with the theorem on the top call.
-- *Meaning of the numbers*: how an instance's critical path stands to its work and to its children's numbers.
use Rattle.std.specs.Prelude.{ℕ, ◌+◌, ◌-◌, ◌≤◌, ◌==◌, nat_lt, if◌then◌else◌, List, [], ◌∷◌, All, Contains, filter, sum_by, take_while}
use Rattle.k_optab.specs.declared.closed.Closed.{Closed}
use Rattle.k_optab.specs.declared.event.Event.{Event}
use Rattle.k_optab.specs.Events.{Operation, SourcesAreEarlier, operations}
use Rattle.k_optab.specs.Graph.{Heaviest, work}
use Rattle.k_optab.specs.Instances.{Balanced}
use Rattle.k_optab.specs.declared.node.Node.{Node}
use Rattle.k_optab.specs.Tree.{EachWith, IsNodeOf, IsTree}

-- the critical paths of instances together
abbrev pub paths : List Node → ℕ
paths nodes = sum_by (λ n. n.path) nodes

-- the works of instances together
abbrev pub works : List Node → ℕ
works nodes = sum_by (λ n. n.work) nodes

-- the intervals of these instances lie in [s, e), one behind the other
abbrev pub AreInARow : ℕ → ℕ → List Closed → Type 0
AreInARow s e [] = s ≤ e
AreInARow s e (i ∷ row) = (s ≤ i.start) × (i.start ≤ i.end) × AreInARow i.end e row

-- the path of an interval is at most the paths of instances in a row within it together and the work outside of them
abbrev pub PathIsAtMostRowAndOwnWork : Type 0
PathIsAtMostRowAndOwnWork = (ops : List Operation) → SourcesAreEarlier ops → (s e p : ℕ) (row : List Closed) (nodes : List Node)
    → AreInARow s e row → EachWith (IsNodeOf ops) row nodes → Heaviest ops s e p → p ≤ paths nodes + (work ops s e - works nodes)

-- an instance's own work: its work less that of its children
abbrev pub own_work : Node → List Node → ℕ
own_work n children = n.work - works children

-- an instance's path is at most its work, at least each child's path, and at most the children's paths and its own work
-- together; and its children's work is part of its work
pub record HasBoundedPath (n : Node) (children : List Node) : Type 0 where
  pub work : n.path ≤ n.work
  pub child : All (λ c. c.path ≤ n.path) children
  pub part : works children ≤ n.work
  pub parts : n.path ≤ paths children + own_work n children

-- the children of an instance among those entered after it: one level deeper, before the first that is not deeper
abbrev pub children : Node → List Node → List Node
children node later = filter (λ n. n.depth == node.depth + 1) (take_while (λ n. nat_lt node.depth n.depth) later)

-- each of these instances, which stand in order of entry, has a bounded path
abbrev pub HaveBoundedPaths : List Node → Type 0
HaveBoundedPaths [] = Unit {0}
HaveBoundedPaths (node ∷ later) = HasBoundedPath node (children node later) × HaveBoundedPaths later

-- in the tree of events that leave all that they enter, each instance has a bounded path
abbrev pub TreesHaveBoundedPaths : Type 0
TreesHaveBoundedPaths = (depth : ℕ) (events : List Event) (nodes : List Node) → Balanced events → SourcesAreEarlier (operations events)
    → IsTree depth events nodes → HaveBoundedPaths nodes

-- the time that an instance takes where its children come one behind the other, each in the time of its path: their paths, and
-- its own work
abbrev pub serial : Node → List Node → ℕ
serial node later = paths (children node later) + own_work node (children node later)

-- an instance of a tree, with those that are entered after it
pub record Member : Type 0 where
  pub node : Node
  pub later : List Node

-- the instances of a tree, each with those that are entered after it
abbrev pub members : List Node → List Member
members [] = []
members (node ∷ later) = record { node = node; later = later } ∷ members later

-- the critical paths of instances that are chosen from a tree, together
abbrev pub member_paths : List Member → ℕ
member_paths chosen = sum_by (λ m. m.node.path) chosen

-- their serial times together
abbrev pub member_serial : List Member → ℕ
member_serial chosen = sum_by (λ m. serial m.node m.later) chosen

-- whichever instances of a tree are chosen, by their regions, by those around them or otherwise: their paths together are at most
-- their serial times, so the quotient of the serial times by the paths is never below 1
abbrev pub ChoicesAreBounded : Type 0
ChoicesAreBounded = (nodes : List Node) (chosen : List Member) → HaveBoundedPaths nodes → All (Contains (members nodes)) chosen
    → member_paths chosen ≤ member_serial chosen

-- the serial times of all instances of a region together
abbrev pub serial_of : ℕ → List Node → ℕ
serial_of region [] = 0
serial_of region (node ∷ later) = (if node.region == region then serial node later else 0) + serial_of region later

-- the paths of a region's instances together are at most their serial times: a self-parallelism, which is the quotient of the
-- serial times by the paths, is never below 1
abbrev pub RegionsAreBounded : Type 0
RegionsAreBounded = (region : ℕ) (nodes : List Node) → HaveBoundedPaths nodes → paths (filter (λ n. n.region == region) nodes) ≤ serial_of region nodes
