-- Each run has a text of its graph: a line for each instance, with the heaviest path that is chosen of its operations.
use Rattle.std.proofs.Common.{ℕ, suc, ◌+◌, inl, inr, List, [], ◌∷◌, ◌++◌, length, refl, arith}
use Rattle.std.specs.List.{All}
use Rattle.std.proofs.Math.Nat.{eq-or-lt_of_le}
use Rattle.k_optab.specs.Events.{Operation, SourcesAreEarlier, operations}
use Rattle.k_optab.specs.Graph.{Heaviest}
use Rattle.k_graph.specs.declared.tree.Instance.{Instance}
use Rattle.k_graph.specs.Chosen.{IsChosen}
use Rattle.k_ending.specs.declared.listing.Listing.{Listing}
use Rattle.k_report.specs.Graph.{AreInstanceLines, IsGraphText, IsHeaviestPath, IsWithin, end_line, event_lines, instance_line}
use Rattle.k_top_exists.proofs.Heaviest.{chosen_exists}

module _ (ops : List Operation) (earlier : SourcesAreEarlier ops) where
  -- the heaviest path that is chosen of an instance's operations, or none
  path_exists : (n : Instance) → IsWithin (length ops) n → (nodes : List ℕ) × IsHeaviestPath ops n nodes
  path_exists n within = elim (eq-or-lt_of_le within.in_order) [
    | inl empty ↦ ([], record { none = λ _. refl; some = λ less. absurd (omega arith) })
    | inr some ↦
        (let found : (p : ℕ) × (nodes : List ℕ) × Heaviest ops n.start n.end p × IsChosen ops n.start n.end p nodes =
        chosen_exists ops earlier n.start n.end some within.made_by_then in
        (found.1, record { none = λ same. absurd (omega arith); some = λ _. record { weight = found.0; heaviest = found.2; chosen = found.3 } }))
  ]

  -- a line for each instance
  lines_exist : (i : ℕ) (tree : List Instance) → All (IsWithin (length ops)) tree → (text : List ℕ) × AreInstanceLines ops i tree text
  lines_exist i [] within = ([], refl)
  lines_exist i (n ∷ tree) within =
      let path : (nodes : List ℕ) × IsHeaviestPath ops n nodes = path_exists n (within 0 n (omega arith)) in
      let later : (text : List ℕ) × AreInstanceLines ops (i + 1) tree text = lines_exist (i + 1) tree (λ k d low. within (suc k) d (omega arith)) in
      (instance_line i n path.0 ++ later.0, (path.0, later.0, path.1, later.1, refl))

pub graph_text_exists : (listing : Listing) (tree : List Instance) → SourcesAreEarlier (operations listing.events)
    → All (IsWithin (length (operations listing.events))) tree → (text : List ℕ) × IsGraphText listing tree text
graph_text_exists listing tree earlier within =
    let lines : (text : List ℕ) × AreInstanceLines (operations listing.events) 0 tree text = lines_exist (operations listing.events) earlier 0 tree within in
    (event_lines 0 listing.events ++ lines.0 ++ end_line listing.end, record { instances = lines.0; are = lines.1; text_is = refl })
