-- Believed with a public law.
-- What holds of listings.
use Rattle.std.specs.Prelude.{ℕ, ◌≡◌, List, All, length}
use Rattle.k_optab.specs.Events.{operations}
use Rattle.k_graph.specs.declared.tree.Instance.{Instance}
use Rattle.k_ending.specs.declared.listing.Listing.{Listing}
use Rattle.k_report.specs.Graph.{IsGraphText, IsWithin}

-- a run and its tree have one listing
abbrev pub GraphTextIsUnique : Type 0
GraphTextIsUnique = (listing : Listing) (tree : List Instance) (one other : List ℕ) → All (IsWithin (length (operations listing.events))) tree
    → IsGraphText listing tree one → IsGraphText listing tree other → one ≡ other
