-- Paths of an interval: where they lie, and how they change with it.
use Rattle.std.proofs.Common.{◌≡◌, ℕ, ◌+◌, ◌<◌, ◌≤◌, inl, inr, List, [], ◌∷◌, arith}
use Rattle.k_optab.specs.Events.{Operation, IsOperation, ListsUnbroken, AreBefore, SourcesAreEarlier}
use Rattle.k_optab.specs.Graph.{IsNode, Path, alone, joined, work}
use Rattle.k_optab.specs.declared.event.Src.{Src}
use Rattle.k_optab.proofs.Intervals.{work_more, work_grows}

-- a source that is listed before k lies before k
pub listed_before : (k j : ℕ) (sources : List Src) → AreBefore k sources → ListsUnbroken sources j → j < k
listed_before k j [] before listed = absurd listed
listed_before k j (src ∷ sources) before (inl here) = let is : src.number ≡ j = here.0 in omega (arith, before.0)
listed_before k j (src ∷ sources) before (inr there) = listed_before k j sources before.1 there

-- a path's last node is a node of the interval
pub last_node : {ops : List Operation} {s e k w : ℕ} {nodes : List ℕ} → Path ops s e k w nodes → (op : Operation) × IsNode ops s e k op
last_node (alone _ op node) = (op, node)
last_node (joined _ _ _ _ op path node listed) = (op, node)

-- a path of an interval is one of each longer interval
pub widened : {ops : List Operation} {s e k w : ℕ} {nodes : List ℕ} (s' e' : ℕ) → s' ≤ s → e ≤ e' → Path ops s e k w nodes
    → Path ops s' e' k w nodes
widened s' e' low high (alone k op node) =
    alone k op (record { from_start = omega (arith, node.from_start); before_end = omega (arith, node.before_end); made = node.made })
widened s' e' low high (joined j w k nodes op path node listed) =
    joined j w k nodes op (widened s' e' low high path)
    (record { from_start = omega (arith, node.from_start); before_end = omega (arith, node.before_end); made = node.made }) listed

module _ (ops : List Operation) (earlier : SourcesAreEarlier ops) where
  -- an unbroken source lies before the operation that lists it
  pub source_before : (k j : ℕ) (op : Operation) → IsOperation ops k op → ListsUnbroken op.sources j → j < k
  source_before k j op made listed = listed_before k j op.sources (earlier k op made) listed

  -- a path ends at its greatest number, and so it is a path of the interval up to there, from any start within it
  pub narrowed : (s e k w e' : ℕ) (nodes : List ℕ) → k < e' → Path ops s e k w nodes → Path ops s e' k w nodes
  narrowed s e _ _ e' _ low (alone k op node) =
      alone k op (record { from_start = node.from_start; before_end = low; made = node.made })
  narrowed s e _ _ e' _ low (joined j w k nodes op path node listed) =
      let before : j < k = source_before k j op node.made listed in
      joined j w k nodes op (narrowed s e j w e' nodes (omega arith) path)
      (record { from_start = node.from_start; before_end = low; made = node.made }) listed

  -- a path weighs at most the work up to its last node
  pub weight_to : (s e k w : ℕ) (nodes : List ℕ) → Path ops s e k w nodes → w ≤ work ops s (k + 1)
  weight_to s e _ _ _ (alone k op node) =
      let more = work_more ops s k op node.from_start node.made in omega arith
  weight_to s e _ _ _ (joined j w k nodes op path node listed) =
      let more = work_more ops s k op node.from_start node.made in
      let before : j < k = source_before k j op node.made listed in
      let from : s ≤ j = (last_node path).1.from_start in
      let shorter : w ≤ work ops s (j + 1) = weight_to s e j w nodes path in
      let grows : work ops s (j + 1) ≤ work ops s k = work_grows ops s (j + 1) k (omega arith) (omega arith) in
      omega arith

  -- a path weighs at most the work of its interval
  pub weight_at_most_work : (s e k w : ℕ) (nodes : List ℕ) → Path ops s e k w nodes → w ≤ work ops s e
  weight_at_most_work s e k w nodes path =
      let node : (op : Operation) × IsNode ops s e k op = last_node path in
      let from : s ≤ k = node.1.from_start in
      let below : k < e = node.1.before_end in
      let short : w ≤ work ops s (k + 1) = weight_to s e k w nodes path in
      let grows : work ops s (k + 1) ≤ work ops s e = work_grows ops s (k + 1) e (omega arith) (omega arith) in
      omega arith
