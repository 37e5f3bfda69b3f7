-- An instance's path by its work and by the numbers of instances in a row within its interval.
use Rattle.std.proofs.Common.{◌≡◌, ℕ, ◌+◌, ◌-◌, ◌≤◌, inl, inr, List, [], ◌∷◌, ◌++◌, arith}
use Rattle.std.specs.Prelude.{All}
use Rattle.std.proofs.lemmas.List.Elements.{All-nil, All-cons}
use Rattle.std.proofs.lemmas.List.Sums.{sum_by-cons}
use Rattle.k_optab.specs.Events.{Operation, SourcesAreEarlier}
use Rattle.k_optab.specs.Graph.{Heaviest, work}
use Rattle.k_optab.specs.GraphLaws.{AtMost}
use Rattle.k_optab.specs.declared.closed.Closed.{Closed}
use Rattle.k_optab.specs.Meaning.{AreInARow, HasBoundedPath, paths, works}
use Rattle.k_optab.specs.declared.node.Node.{Node}
use Rattle.k_optab.specs.Tree.{EachWith, IsNodeOf}
use Rattle.k_optab.proofs.Heaviest.{at_most_split, at_most_work, heaviest_at_most_work, inner_at_most_outer}
use Rattle.k_optab.proofs.Intervals.{work_split}

pub row_within : (s e : ℕ) (row : List Closed) → AreInARow s e row → s ≤ e
row_within s e [] are = are
row_within s e (i ∷ row) are = let rest : i.end ≤ e = row_within i.end e row are.2 in omega (arith, are.0, are.1)

-- a row within an interval is one in each that begins sooner
pub row_sooner : (low s e : ℕ) (row : List Closed) → low ≤ s → AreInARow s e row → AreInARow low e row
row_sooner low s e [] less are = omega (arith, are)
row_sooner low s e (i ∷ row) less are = (omega (arith, are.0), are.1, are.2)

-- a row, and one behind it
pub row_append : (s m e : ℕ) (first second : List Closed) → AreInARow s m first → AreInARow m e second → AreInARow s e (first ++ second)
row_append s m e [] second one other = row_sooner s m e second one other
row_append s m e (i ∷ first) second one other = (one.0, one.1, row_append i.end m e first second one.2 other)

module _ (ops : List Operation) where
  -- the work of the instances of a row together is at most that of the interval
  row_works : (s e : ℕ) (row : List Closed) (nodes : List Node) → EachWith (IsNodeOf ops) row nodes → AreInARow s e row → works nodes ≤ work ops s e
  row_works s e [] [] each are = omega arith
  row_works s e [] (n ∷ nodes) each are = absurd each
  row_works s e (i ∷ row) [] each are = absurd each
  row_works s e (i ∷ row) (n ∷ nodes) each are =
      let end : i.end ≤ e = row_within i.end e row are.2 in
      let one : s ≤ i.start = are.0 in
      let two : i.start ≤ i.end = are.1 in
      let rest : works nodes ≤ work ops i.end e = row_works i.end e row nodes each.1 are.2 in
      let its : n.work ≡ work ops i.start i.end = each.0.work in
      let split : work ops s e ≡ work ops s i.start + work ops i.start e = work_split ops s i.start e one (omega arith) in
      let split2 : work ops i.start e ≡ work ops i.start i.end + work ops i.end e = work_split ops i.start i.end e two end in
      let whole : works (n ∷ nodes) ≡ n.work + works nodes = sum_by-cons (λ (m : Node). m.work) n nodes in
      omega arith

  -- a path weighs at most the paths of the instances together and the work outside of them
  row_at_most : SourcesAreEarlier ops → (s e : ℕ) (row : List Closed) (nodes : List Node) → EachWith (IsNodeOf ops) row nodes → AreInARow s e row
      → AtMost ops s e (paths nodes + (work ops s e - works nodes))
  row_at_most earlier s e [] [] each are k w weighs = let under : w ≤ work ops s e = at_most_work ops earlier s e k w weighs in omega arith
  row_at_most earlier s e [] (n ∷ nodes) each are k w weighs = absurd each
  row_at_most earlier s e (i ∷ row) [] each are k w weighs = absurd each
  row_at_most earlier s e (i ∷ row) (n ∷ nodes) each are k w weighs =
      let end : i.end ≤ e = row_within i.end e row are.2 in
      let one : s ≤ i.start = are.0 in
      let two : i.start ≤ i.end = are.1 in
      let rest : works nodes ≤ work ops i.end e = row_works i.end e row nodes each.1 are.2 in
      let its : n.work ≡ work ops i.start i.end = each.0.work in
      let split : work ops s e ≡ work ops s i.start + work ops i.start e = work_split ops s i.start e one (omega arith) in
      let split2 : work ops i.start e ≡ work ops i.start i.end + work ops i.end e = work_split ops i.start i.end e two end in
      let under : w ≤ work ops s i.start + (n.path + (paths nodes + (work ops i.end e - works nodes))) =
      at_most_split ops earlier s i.start e _ _ (at_most_work ops earlier s i.start)
      (at_most_split ops earlier i.start i.end e _ _ (each.0.path.greatest) (row_at_most earlier i.end e row nodes each.1 are.2)) k w weighs in
      let all_works : works (n ∷ nodes) ≡ n.work + works nodes = sum_by-cons (λ (m : Node). m.work) n nodes in
      let all_paths : paths (n ∷ nodes) ≡ n.path + paths nodes = sum_by-cons (λ (m : Node). m.path) n nodes in
      omega arith

  pub heaviest_at_most_row : SourcesAreEarlier ops → (s e p : ℕ) (row : List Closed) (nodes : List Node) → AreInARow s e row → EachWith (IsNodeOf ops) row nodes
      → Heaviest ops s e p → p ≤ paths nodes + (work ops s e - works nodes)
  heaviest_at_most_row earlier s e p row nodes are each most = elim most.reached [
    | inl none ↦ (let is : p ≡ 0 = none.1 in omega arith)
    | inr some ↦ row_at_most earlier s e row nodes each are some.0 p some.1
  ]

  inner_paths : (s e p low : ℕ) (row : List Closed) (nodes : List Node) → Heaviest ops s e p → s ≤ low → EachWith (IsNodeOf ops) row nodes
      → AreInARow low e row → All (λ n. n.path ≤ p) nodes
  inner_paths s e p low [] [] most from each are = All-nil (λ (n : Node). n.path ≤ p)
  inner_paths s e p low [] (n ∷ nodes) most from each are = absurd each
  inner_paths s e p low (i ∷ row) [] most from each are = absurd each
  inner_paths s e p low (i ∷ row) (n ∷ nodes) most from each are =
      let end : i.end ≤ e = row_within i.end e row are.2 in
      let first : low ≤ i.start = are.0 in
      let second : i.start ≤ i.end = are.1 in
      All-cons (λ (m : Node). m.path ≤ p) n nodes (inner_at_most_outer ops s e i.start i.end p n.path (omega arith) end most each.0.path)
      (inner_paths s e p i.end row nodes most (omega arith) each.1 are.2)

  pub bounded_path : SourcesAreEarlier ops → (outer : Closed) (n : Node) (row : List Closed) (nodes : List Node) → IsNodeOf ops outer n
      → EachWith (IsNodeOf ops) row nodes → AreInARow outer.start outer.end row → HasBoundedPath n nodes
  bounded_path earlier outer n row nodes is each are =
      let whole : n.work ≡ work ops outer.start outer.end = is.work in
      let under : n.path ≤ work ops outer.start outer.end = heaviest_at_most_work ops earlier outer.start outer.end n.path is.path in
      let inside : works nodes ≤ work ops outer.start outer.end = row_works outer.start outer.end row nodes each are in
      let short : n.path ≤ paths nodes + (work ops outer.start outer.end - works nodes) =
      heaviest_at_most_row earlier outer.start outer.end n.path row nodes are each is.path in
      record {
        work = omega arith;
        child = inner_paths outer.start outer.end n.path outer.start row nodes is.path (omega arith) each are;
        part = omega arith;
        parts = omega arith;
      }
