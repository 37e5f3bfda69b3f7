-- What the numbers of a listing mean: the path of each instance is bounded by its work and by its children.
use Rattle.std.proofs.Common.{◌≡◌, ℕ, zero, suc, ◌<◌, ◌≤◌, inl, inr, true, eqb-true, List, [], ◌∷◌, length, map, Option, Some, None, refl, sym, ◌∙◌, subst, ap, arith, slice_get, get_or}
use Rattle.std.proofs.lemmas.Option.{slice_get_within, get_or_from_slice_get}
use Rattle.k_optab.specs.declared.event.Event.{Event}
use Rattle.k_optab.specs.Events.{operations, SourcesAreEarlier}
use Rattle.k_optab.specs.declared.closed.Closed.{Closed}
use Rattle.k_optab.specs.Instances.{Encloses, IsNearest, IsParent, tracked}
use Rattle.k_optab.specs.InstanceLaws.{LieAsInstances, Precedes}
use Rattle.k_optab.specs.Meaning.{AreInARow}
use Rattle.k_optab.specs.Tree.{EachWith}
use Rattle.k_optab.proofs.Crossing.{instances_are_left_later, instances_never_cross}
use Rattle.k_optab.proofs.Nesting.{intervals_are_ordered, intervals_lie_as_instances}
use Rattle.k_optab.proofs.Rows.{bounded_path}
use Rattle.k_graph.specs.declared.tree.Instance.{Instance}
use Rattle.k_graph.specs.Listings.{AreBounded, AreNested, IsListed, IsListing, children_of, is_at, node_of}
use Rattle.k_graph.proofs.Children.{Passes, passing, passing_in_a_row, passing_with}
use Rattle.k_graph.proofs.Outwards.{encloses_before, precedes_at}
use Rattle.k_graph.proofs.Progress.{tree_of_listing}

-- what goes with an item at its place
each_at : {A B : Type 0} (R : A → B → Type 0) (xs : List A) (ys : List B) → EachWith R xs ys → (k : ℕ) (y : B) → slice_get ys k ≡ Some y
    → (x : A) × (slice_get xs k ≡ Some x) × R x y
each_at R [] [] each k y at = cc
each_at R [] (z ∷ ys) each k y at = absurd each
each_at R (x ∷ xs) [] each k y at = absurd each
each_at R (x ∷ xs) (z ∷ ys) each zero y at = let same : z ≡ y = cc in (x, refl, subst (λ b. R x b) same each.0)
each_at R (x ∷ xs) (z ∷ ys) each (suc k) y at = each_at R xs ys each.1 k y at

at_place : (place : ℕ) (parent : Option ℕ) → is_at place parent ≡ true → parent ≡ Some place
at_place place None is = cc
at_place place (Some other) is = ap Some (eqb-true other place is)

module _ (depth : ℕ) (events : List Event) (earlier : SourcesAreEarlier (operations events)) (tree : List Instance) (listing : IsListing depth events tree) where
  nested : AreNested (tracked depth events)
  nested = record { left = instances_are_left_later depth events; apart = instances_never_cross depth events }

  lies_at : (p q : ℕ) (a b : Closed) → slice_get (tracked depth events) p ≡ Some a → slice_get (tracked depth events) q ≡ Some b → p < q → LieAsInstances a b
  lies_at p q a b one other less =
      let within : q < length (tracked depth events) = slice_get_within (tracked depth events) q b other in
      let pair : LieAsInstances (get_or (tracked depth events) p a) (get_or (tracked depth events) q a) = intervals_lie_as_instances depth events p q a less within in
      subst (λ c. LieAsInstances c b) (get_or_from_slice_get (tracked depth events) p a a one)
      (subst (λ c. LieAsInstances (get_or (tracked depth events) p a) c) (get_or_from_slice_get (tracked depth events) q b a other) pair)

  ordered_at : (p : ℕ) (a : Closed) → slice_get (tracked depth events) p ≡ Some a → a.start ≤ a.end
  ordered_at p a there =
      subst (λ (c : Closed). c.start ≤ c.end) (get_or_from_slice_get (tracked depth events) p a a there)
      (intervals_are_ordered depth events p a (slice_get_within (tracked depth events) p a there))

  module _ (place : ℕ) (outer : Closed) (at : slice_get (tracked depth events) place ≡ Some outer) where
    -- a child of the instance stands at this place
    abbrev IsChild : ℕ → Closed → Type 0
    IsChild k c = Passes (λ n. is_at place n.parent) (tracked depth events) tree k c

    -- a child lies nearest within the instance
    near : (k : ℕ) (c : Closed) → IsChild k c → IsNearest (tracked depth events) c place × (slice_get (tracked depth events) k ≡ Some c)
    near k c child =
        let item = each_at (IsListed (operations events) (tracked depth events)) (tracked depth events) tree listing k child.item child.here in
        let same : item.0 ≡ c = (let both : Some item.0 ≡ Some c = sym item.1 ∙ child.there in cc) in
        let parent : child.item.parent ≡ Some place = at_place place child.item.parent child.is in
        let its : IsParent (tracked depth events) item.0 (Some place) = subst (λ o. IsParent (tracked depth events) item.0 o) parent item.2.parent in
        (subst (λ (x : Closed). IsNearest (tracked depth events) x place) same its, child.there)

    enclosed : (c : Closed) → IsNearest (tracked depth events) c place → Encloses outer c
    enclosed c its =
        let same : its.outer ≡ outer = (let both : Some its.outer ≡ Some outer = sym its.there ∙ at in cc) in
        subst (λ (x : Closed). Encloses x c) same its.encloses

    inside : (k : ℕ) (c : Closed) → IsChild k c → (outer.start ≤ c.start) × (c.start ≤ c.end) × (c.end ≤ outer.end)
    inside k c child =
        let its = near k c child in
        let within : Encloses outer c = enclosed c its.0 in
        let before : place < k = encloses_before (tracked depth events) nested place k outer c at its.1 within in
        let lies = (lies_at place k outer c at its.1 before).within within.left in
        (lies.0, ordered_at k c its.1, lies.1)

    apart : (k l : ℕ) (c d : Closed) → IsChild k c → IsChild l d → k < l → c.end ≤ d.start
    apart k l c d child other before =
        let one = near k c child in
        let two = near l d other in
        let order : Precedes c d = precedes_at (tracked depth events) nested k l c d one.1 two.1 before in
        elim order.left [
          | inl within ↦
              (let around : Encloses c d = record { entered = order.entered; left = within } in
              let nearest : c.enter ≤ two.0.outer.enter = two.0.nearest k c one.1 around in
              let same : two.0.outer ≡ outer = (let both : Some two.0.outer ≡ Some outer = sym two.0.there ∙ at in cc) in
              let enters : two.0.outer.enter ≡ outer.enter = ap (λ (x : Closed). x.enter) same in
              let first : outer.enter < c.enter = (enclosed c one.0).entered in
              absurd (omega arith))
          | inr outside ↦ (lies_at k l c d one.1 two.1 before).apart outside
        ]

    pub children_in_a_row : AreInARow outer.start outer.end (passing (λ n. is_at place n.parent) (tracked depth events) tree)
    children_in_a_row =
        passing_in_a_row (λ n. is_at place n.parent) outer.start outer.end (tracked depth events) tree (ordered_at place outer at) inside apart

  pub bounded_listing : AreBounded tree
  bounded_listing place n at =
      let item = each_at (IsListed (operations events) (tracked depth events)) (tracked depth events) tree listing place n at in
      bounded_path (operations events) earlier item.0 (node_of n) (passing (λ m. is_at place m.parent) (tracked depth events) tree)
      (map node_of (children_of place tree))
      item.2.node
      (tree_of_listing (operations events) (tracked depth events) _ _
      (passing_with (λ m. is_at place m.parent) (IsListed (operations events) (tracked depth events)) (tracked depth events) tree listing))
      (children_in_a_row place item.0 item.1)
