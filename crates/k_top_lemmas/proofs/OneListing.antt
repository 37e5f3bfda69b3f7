-- A run has one listing of its instances, and `graph` one answer.
use Rattle.std.proofs.Common.{ℕ, ◌≡◌, ◌<◌, ◌≤◌, refl, ap, sym, subst, ◌∙◌, arith, List, [], ◌∷◌, Option, Some, None, inl, inr}
use Rattle.std.specs.List.{AllPairs, slice_get, slice_index_or}
use Rattle.std.proofs.lemmas.Bool.{cases_lt}
use Rattle.std.proofs.lemmas.Option.{same_Some, slice_get-get_or, slice_get_within}
use Rattle.k_optab.specs.declared.closed.Closed.{Closed}
use Rattle.k_optab.specs.Events.{Operation, operations}
use Rattle.k_optab.specs.InstanceLaws.{Precedes}
use Rattle.k_optab.specs.Instances.{IsParent, tracked}
use Rattle.k_optab.specs.Tree.{EachWith}
use Rattle.k_optab.proofs.Crossing.{instances_never_cross}
use Rattle.k_optab.proofs.Heaviest.{heaviest_unique}
use Rattle.k_graph.specs.Listings as listings
use Rattle.k_graph.specs.declared.tree.Instance.{Instance}
use Rattle.k_report.specs.Graph.{IsGraphText}
use Rattle.k_report.proofs.OneListing.{one_listing}
use Rattle.k_top_answers.specs.declared.answer.Answer.{Answer}
use Rattle.k_evaluation.specs.Runs.{listing_of}
use Rattle.k_top_answers.specs.Answers.{IsListed, ended}
use Rattle.k_top_answers.specs.Steps.{Running, run_of}
use Rattle.k_top_lemmas.proofs.RunLemmas.{listing_within}

-- the element that stands at a place
at_place : (list : List Closed) (place : ℕ) (d x : Closed) → slice_get list place ≡ Some x → slice_index_or list place d ≡ x
at_place list place d x there = same_Some (slice_index_or list place d) x (sym (slice_get-get_or list place d (slice_get_within list place x there)) ∙ there)

module _ (list : List Closed) (apart : AllPairs Precedes list) where
  -- the one that stands first was entered first
  entered : (p q : ℕ) (x y : Closed) → p < q → slice_get list p ≡ Some x → slice_get list q ≡ Some y → x.enter < y.enter
  entered p q x y before there other =
      let order = (apart p q x before (slice_get_within list q y other)).entered in
      subst (λ (c : Closed). c.enter < y.enter) (at_place list p x x there)
      (subst (λ (c : Closed). (slice_index_or list p x).enter < c.enter) (at_place list q x y other) order)

  -- two that were entered at once stand at one place
  one_place : (p q : ℕ) (x y : Closed) → slice_get list p ≡ Some x → slice_get list q ≡ Some y → x.enter ≡ y.enter → p ≡ q
  one_place p q x y there other same = elim (cases_lt p q) [
    | inl lt ↦ (let order : x.enter < y.enter = entered p q x y lt there other in absurd (omega (arith, order, same)))
    | inr le ↦
        elim (cases_lt q p) [
          | inl lt ↦ (let order : y.enter < x.enter = entered q p y x lt other there in absurd (omega (arith, order, same)))
          | inr le' ↦ omega (arith, le, le')
        ]
  ]

  both_least : (a b : ℕ) → a ≤ b → b ≤ a → a ≡ b
  both_least a b le ge = omega (arith, le, ge)

  -- an instance has one parent, or none
  one_parent : (inner : Closed) (a b : Option ℕ) → IsParent list inner a → IsParent list inner b → a ≡ b
  one_parent inner None None f g = refl
  one_parent inner None (Some q) f g = absurd (f q g.outer g.there g.encloses)
  one_parent inner (Some p) None f g = absurd (g p f.outer f.there f.encloses)
  one_parent inner (Some p) (Some q) f g =
      ap (λ n. Some n) (one_place p q f.outer g.outer f.there g.there
      (both_least f.outer.enter g.outer.enter (g.nearest p f.outer f.there f.encloses) (f.nearest q g.outer g.there g.encloses)))

  one_instance : (ops : List Operation) (i : Closed) (m n : Instance) → listings.IsListed ops list i m → listings.IsListed ops list i n → m ≡ n
  one_instance ops i m n is also =
      let region : m.region ≡ n.region = is.node.region ∙ sym also.node.region in
      let depth : m.depth ≡ n.depth = is.node.depth ∙ sym also.node.depth in
      let start : m.start ≡ n.start = is.start ∙ sym also.start in
      let end : m.end ≡ n.end = is.end ∙ sym also.end in
      let work : m.work ≡ n.work = is.node.work ∙ sym also.node.work in
      let path : m.path ≡ n.path = heaviest_unique ops i.start i.end m.path n.path is.node.path also.node.path in
      let parent : m.parent ≡ n.parent = one_parent i m.parent n.parent is.parent also.parent in
      λ k. record { region = region k; depth = depth k; start = start k; end = end k; work = work k; path = path k; parent = parent k }

  same_trees : (ops : List Operation) (some : List Closed) (a b : List Instance) → EachWith (listings.IsListed ops list) some a → EachWith (listings.IsListed ops list) some b
      → a ≡ b
  same_trees ops [] [] [] is also = refl
  same_trees ops [] [] (n ∷ b) is also = absurd also
  same_trees ops [] (m ∷ a) b is also = absurd is
  same_trees ops (i ∷ some) [] b is also = absurd is
  same_trees ops (i ∷ some) (m ∷ a) [] is also = absurd also
  same_trees ops (i ∷ some) (m ∷ a) (n ∷ b) is also =
      let first : m ≡ n = one_instance ops i m n is.0 also.0 in
      let rest : a ≡ b = same_trees ops some a b is.1 also.1 in
      λ k. first k ∷ rest k

-- GRAPH
pub one_listed : (depth : ℕ) (one other : Answer) (r : Running) → IsListed depth one r → IsListed depth other r → one ≡ other
one_listed depth one other r a b =
    let events = (run_of r).events in
    let trees : a.tree ≡ b.tree = same_trees (tracked depth events) (instances_never_cross depth events) (operations events) (tracked depth events) a.tree b.tree a.is_tree b.is_tree in
    let texts : a.text ≡ b.text =
    one_listing (listing_of (run_of r)) a.tree a.text b.text (listing_within depth events a.tree a.is_tree) a.is_text
    (subst (λ (t : List Instance). IsGraphText (listing_of (run_of r)) t b.text) (sym trees) b.is_text) in
    a.is ∙ ap (λ t. ended t r.steps (run_of r).end) texts ∙ sym b.is
