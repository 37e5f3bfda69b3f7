-- Each run has a listing of its instances: each has a heaviest path and a parent, or none encloses it.
use Rattle.std.proofs.Common.{◌≡◌, ℕ, zero, suc, ◌+◌, ◌<◌, ◌≤◌, ◌⊎◌, inl, inr, List, [], ◌∷◌, ◌++◌, length, map, Option, Some, None, refl, sym, subst, ◌∙◌, ap, arith, drop, length-append, slice_get, take}
use Rattle.std.specs.Prelude.{All}
use Rattle.std.proofs.lemmas.Bool.{cases_lt}
use Rattle.std.proofs.lemmas.List.{take-append-drop}
use Rattle.k_optab.specs.declared.closed.Closed.{Closed}
use Rattle.k_optab.specs.declared.event.Event.{Event}
use Rattle.k_optab.specs.declared.node.Node.{Node}
use Rattle.k_optab.specs.Events.{Operation, SourcesAreEarlier, made_before, operations}
use Rattle.k_optab.specs.Graph.{Heaviest, work}
use Rattle.k_optab.specs.Instances.{Encloses, IsNearest, IsParent, tracked}
use Rattle.k_optab.specs.InstanceLaws.{IsCounted}
use Rattle.k_optab.specs.Tree.{EachWith, IsTree}
use Rattle.k_optab.proofs.Counting.{intervals_count_operations}
use Rattle.k_optab.proofs.Heaviest.{heaviest_exists}
use Rattle.k_optab.proofs.Trees.{operations-append}
use Rattle.k_graph.specs.declared.tree.Instance.{Instance}
use Rattle.k_graph.specs.Listings.{IsListed, IsListing, node_of}
use Rattle.k_graph.proofs.Progress.{tree_of_listing}

-- an instance encloses another or does not
cases_encloses : (outer inner : Closed) → Encloses outer inner ⊎ (Encloses outer inner → ⊥)
cases_encloses outer inner = elim (cases_lt outer.enter inner.enter) [
  | inl entered ↦ elim (cases_lt inner.exit outer.exit) [
    | inl left ↦ inl (record { entered = entered; left = left })
    | inr out ↦ inr (λ encloses. let left : inner.exit < outer.exit = encloses.left in omega arith)
  ]
  | inr later ↦ inr (λ encloses. let entered : outer.enter < inner.enter = encloses.entered in omega arith)
]

-- no instance of the list that encloses this one is entered behind a place
abbrev NoneLater : List Closed → Closed → ℕ → Type 0
NoneLater list inner enter = (other : ℕ) (instance : Closed) → slice_get list other ≡ Some instance → Encloses instance inner → instance.enter ≤ enter

-- an instance more in front of the list
module _ (x inner : Closed) (list : List Closed) where
  none_more : (Encloses x inner → ⊥) → IsParent list inner None → IsParent (x ∷ list) inner None
  none_more apart none zero outer there encloses =
      let same : outer ≡ x = cc in absurd (apart (subst (λ (c : Closed). Encloses c inner) same encloses))
  none_more apart none (suc place) outer there encloses = none place outer there encloses

  none_later : (enter : ℕ) → (Encloses x inner → x.enter ≤ enter) → NoneLater list inner enter → NoneLater (x ∷ list) inner enter
  none_later enter low nearest zero instance there encloses =
      let same : instance ≡ x = cc in
      let enters : instance.enter ≡ x.enter = ap (λ (c : Closed). c.enter) same in
      let first : x.enter ≤ enter = low (subst (λ (c : Closed). Encloses c inner) same encloses) in
      omega arith
  none_later enter low nearest (suc other) instance there encloses = nearest other instance there encloses

  new_nearest : Encloses x inner → NoneLater list inner x.enter → IsParent (x ∷ list) inner (Some 0)
  new_nearest encloses nearest =
      record { outer = x; there = refl; encloses = encloses; nearest = none_later x.enter (λ _. omega arith) nearest }

  old_nearest : (place : ℕ) (is : IsNearest list inner place) → (Encloses x inner → x.enter ≤ is.outer.enter) → IsParent (x ∷ list) inner (Some (suc place))
  old_nearest place is low =
      record { outer = is.outer; there = is.there; encloses = is.encloses; nearest = none_later is.outer.enter low is.nearest }

  parent_more : (parent : Option ℕ) → IsParent list inner parent → (more : Option ℕ) × IsParent (x ∷ list) inner more
  parent_more None none = elim (cases_encloses x inner) [
    | inl encloses ↦ (Some 0, new_nearest encloses (λ other instance there within. absurd (none other instance there within)))
    | inr apart ↦ (None, none_more apart none)
  ]
  parent_more (Some place) is = elim (cases_encloses x inner) [
    | inl encloses ↦ elim (cases_lt is.outer.enter x.enter) [
      | inl less ↦ (
        Some 0,
        new_nearest encloses (λ other instance there within.
            let low : instance.enter ≤ is.outer.enter = is.nearest other instance there within in omega arith),
      )
      | inr more ↦ (Some (suc place), old_nearest place is (λ _. more))
    ]
    | inr apart ↦ (Some (suc place), old_nearest place is (λ encloses. absurd (apart encloses)))
  ]

-- each instance has a parent in a list, or none encloses it
parent_exists : (list : List Closed) (inner : Closed) → (parent : Option ℕ) × IsParent list inner parent
parent_exists [] inner = (None, λ place outer there encloses. let impossible : ⊥ = cc in impossible)
parent_exists (x ∷ list) inner =
    let rest : (parent : Option ℕ) × IsParent list inner parent = parent_exists list inner in
    parent_more x inner list rest.0 rest.1

-- what is listed of an instance whose interval is one of the operations
listed_exists : (ops : List Operation) → SourcesAreEarlier ops → (all : List Closed) (i : Closed) → i.end ≤ length ops → (n : Instance) × IsListed ops all i n
listed_exists ops earlier all i within =
    let path : (p : ℕ) × Heaviest ops i.start i.end p = heaviest_exists ops earlier i.start i.end within in
    let parent : (parent : Option ℕ) × IsParent all i parent = parent_exists all i in (
      record { region = i.region; depth = i.depth; start = i.start; end = i.end; work = work ops i.start i.end; path = path.0; parent = parent.0 },
      record { node = record { region = refl; depth = refl; work = refl; path = path.1 }; start = refl; end = refl; parent = parent.1 },
    )

-- where something goes with each item of a list, a list goes with it
each_exists : {A B : Type 0} (P : A → Type 0) (R : A → B → Type 0) → ((x : A) → P x → (y : B) × R x y) → (xs : List A) → All P xs
    → (ys : List B) × EachWith R xs ys
each_exists P R found [] all = ([], tt)
each_exists {A} {B} P R found (x ∷ xs) all =
    let one : (y : B) × R x y = found x (all 0 x (omega arith)) in
    let rest : (ys : List B) × EachWith R xs ys = each_exists P R found xs (λ k d low. all (suc k) d (omega arith)) in
    (one.0 ∷ rest.0, (one.1, rest.1))

-- no more operations are made before a place than there are
made_few : (place : ℕ) (events : List Event) → made_before place events ≤ length (operations events)
made_few place events =
    let whole : operations events ≡ operations (take place events) ++ operations (drop place events) =
    ap operations (sym (take-append-drop place events)) ∙ operations-append (take place events) (drop place events) in
    let size : length (operations events) ≡ length (operations (take place events)) + length (operations (drop place events)) =
    ap length whole ∙ length-append (operations (take place events)) (operations (drop place events)) in
    omega arith

-- the interval of a closed instance is one of the operations
counted_within : (events : List Event) (i : Closed) → IsCounted events i → i.end ≤ length (operations events)
counted_within events i is =
    let count : made_before i.exit events ≡ i.end = is.end in
    let few : made_before i.exit events ≤ length (operations events) = made_few i.exit events in
    omega arith

pub listing_exists : (depth : ℕ) (events : List Event) → SourcesAreEarlier (operations events) → (tree : List Instance) × IsListing depth events tree
listing_exists depth events earlier =
    each_exists (IsCounted events) (IsListed (operations events) (tracked depth events))
    (λ i is. listed_exists (operations events) earlier (tracked depth events) i (counted_within events i is))
    (tracked depth events) (intervals_count_operations depth events)

pub tree_exists : (depth : ℕ) (events : List Event) → SourcesAreEarlier (operations events) → (nodes : List Node) × IsTree depth events nodes
tree_exists depth events earlier =
    let listing : (tree : List Instance) × IsListing depth events tree = listing_exists depth events earlier in
    (map node_of listing.0, tree_of_listing (operations events) (tracked depth events) (tracked depth events) listing.0 listing.1)
