-- Believed with a public law.
-- Each run has a listing of its instances, a tree, and a text of its graph: the statements of the laws.
use Rattle.std.specs.Prelude.{ℕ, ◌<◌, ◌≤◌, List, All, length}
use Rattle.k_optab.specs.declared.event.Event.{Event}
use Rattle.k_optab.specs.declared.node.Node.{Node}
use Rattle.k_optab.specs.Events.{Operation, SourcesAreEarlier, operations}
use Rattle.k_optab.specs.Graph.{Heaviest}
use Rattle.k_optab.specs.Tree.{IsTree}
use Rattle.k_graph.specs.declared.tree.Instance.{Instance}
use Rattle.k_graph.specs.Chosen.{IsChosen}
use Rattle.k_graph.specs.Listings.{IsListing}
use Rattle.k_ending.specs.declared.listing.Listing.{Listing}
use Rattle.k_report.specs.Graph.{IsGraphText, IsWithin}

-- the instances of any events whose operations have earlier sources have a listing, to any depth
abbrev pub ListingsExist : Type 0
ListingsExist = (depth : ℕ) (events : List Event) → SourcesAreEarlier (operations events) → (tree : List Instance) × IsListing depth events tree

-- such events have a tree, to any depth
abbrev pub TreesExist : Type 0
TreesExist = (depth : ℕ) (events : List Event) → SourcesAreEarlier (operations events) → (nodes : List Node) × IsTree depth events nodes

-- each interval with an operation has a heaviest path that is chosen
abbrev pub HeaviestPathsExist : Type 0
HeaviestPathsExist = (ops : List Operation) → SourcesAreEarlier ops → (s e : ℕ) → s < e → e ≤ length ops
    → (p : ℕ) × (nodes : List ℕ) × Heaviest ops s e p × IsChosen ops s e p nodes

-- a run has a text of its graph where the intervals of the listed instances are ones of its operations
abbrev pub GraphTextsExist : Type 0
GraphTextsExist = (listing : Listing) (tree : List Instance) → SourcesAreEarlier (operations listing.events)
    → All (IsWithin (length (operations listing.events))) tree → (text : List ℕ) × IsGraphText listing tree text
