-- The parent of an instance, looked for outwards from the one before it.
use Rattle.std.proofs.Common.{◌≡◌, ℕ, zero, suc, ◌+◌, ◌<◌, ◌≤◌, ◌⊎◌, inl, inr, List, [], ◌∷◌, ◌++◌, length, Option, Some, None, refl, sym, ◌∙◌, subst, ap, arith, slice_get, get_or}
use Rattle.std.specs.Prelude.{map, option_map, unwrap_or, MatchOption}
use Rattle.std.specs.Option.{ForSome}
use Rattle.std.proofs.lemmas.Bool.{cases_lt, cases_order}
use Rattle.std.proofs.lemmas.Option.{slice_get_within, slice_get-get_or, slice_get-map, get_or_from_slice_get}
use Rattle.k_optab.specs.declared.closed.Closed.{Closed}
use Rattle.k_optab.specs.Instances.{Encloses, IsNearest, IsParent}
use Rattle.k_optab.specs.InstanceLaws.{Precedes}
use Rattle.k_optab.specs.Tree.{EachWith}
use Rattle.k_graph.specs.declared.level.Measured.{Measured}
use Rattle.k_graph.specs.declared.tree.Instance.{Instance}
use Rattle.k_graph.specs.Listings.{AreNested, EachHasParent, HasParent, closed_of, item_of}

-- o is the instance at this place or encloses it
abbrev pub IsAt : List Closed → Closed → ℕ → ℕ → Type 0
IsAt all o j q = (j ≡ q) ⊎ ((c : Closed) → slice_get all q ≡ Some c → Encloses o c)

abbrev pub IsAtSome : List Closed → Closed → ℕ → Option ℕ → Type 0
IsAtSome all o j None = ⊥
IsAtSome all o j (Some q) = IsAt all o j q

-- each instance that encloses this one is the candidate or encloses it
abbrev pub IsAround : List Closed → Closed → Option ℕ → Type 0
IsAround all i candidate = (j : ℕ) (o : Closed) → slice_get all j ≡ Some o → Encloses o i → IsAtSome all o j candidate

module _ (all : List Closed) (nested : AreNested all) where
  pub precedes_at : (i j : ℕ) (a b : Closed) → slice_get all i ≡ Some a → slice_get all j ≡ Some b → i < j → Precedes a b
  precedes_at i j a b one other less =
      let within : j < length all = slice_get_within all j b other in
      let pair : Precedes (get_or all i a) (get_or all j a) = nested.apart i j a less within in
      let first : get_or all i a ≡ a = get_or_from_slice_get all i a a one in
      let second : get_or all j a ≡ b = get_or_from_slice_get all j b a other in
      subst (λ c. Precedes c b) first (subst (λ c. Precedes (get_or all i a) c) second pair)

  left_at : (i : ℕ) (a : Closed) → slice_get all i ≡ Some a → a.enter < a.exit
  left_at i a there =
      let within : i < length all = slice_get_within all i a there in
      let is : get_or all i a ≡ a = get_or_from_slice_get all i a a there in
      subst (λ (c : Closed). c.enter < c.exit) is (nested.left i a within)

  -- an instance that encloses another stands before it
  pub encloses_before : (i j : ℕ) (a b : Closed) → slice_get all i ≡ Some a → slice_get all j ≡ Some b → Encloses a b → i < j
  encloses_before i j a b one other encloses = elim (cases_order i j) [
    | inl same ↦ (let is : a ≡ b = (let there : slice_get all i ≡ Some b = ap (λ n. slice_get all n) same ∙ other in cc) in
        let entered : a.enter < b.enter = encloses.entered in
        let equal : a.enter ≡ b.enter = ap (λ (c : Closed). c.enter) is in absurd (omega arith))
    | inr order ↦ elim order [
      | inl less ↦ less
      | inr more ↦ (let back : Precedes b a = precedes_at j i b a other one more in
          let first : b.enter < a.enter = back.entered in
          let second : a.enter < b.enter = encloses.entered in absurd (omega arith))
    ]
  ]

  pub around_none : (i : Closed) → slice_get all 0 ≡ Some i → IsAround all i None
  around_none i there j o at encloses = let before : j < 0 = encloses_before j 0 o i at there encloses in absurd (omega arith)

  pub around_first : (q p : ℕ) (i : Closed) → p ≡ q + 1 → slice_get all p ≡ Some i → IsAround all i (Some q)
  around_first q p i next there j o at encloses =
      let before : j < p = encloses_before j p o i at there encloses in
      elim (cases_lt j q) [
        | inl less ↦ inr (λ c here.
            let one : Precedes o c = precedes_at j q o c at here less in
            let two : Precedes c i = precedes_at q p c i here there (omega arith) in
            let whole : i.enter < i.exit = left_at p i there in
            elim one.left [
              | inl inside ↦ record { entered = one.entered; left = inside }
              | inr outside ↦ absurd (omega (arith, outside, two.entered, encloses.left, whole))
            ])
        | inr more ↦ inl (omega arith)
      ]

  pub around_next : (q p : ℕ) (i c : Closed) (parent : Option ℕ) → slice_get all p ≡ Some i → slice_get all q ≡ Some c → c.exit ≤ i.enter
      → IsParent all c parent → IsAround all i (Some q) → IsAround all i parent
  around_next q p i c None there here left is around j o at encloses = elim (around j o at encloses) [
    | inl same ↦ (let equal : o ≡ c = (let again : slice_get all q ≡ Some o = ap (λ n. slice_get all n) (sym same) ∙ at in cc) in
        let exits : o.exit ≡ c.exit = ap (λ (x : Closed). x.exit) equal in
        let whole : i.enter < i.exit = left_at p i there in
        absurd (omega (arith, encloses.left)))
    | inr further ↦ absurd (is j o at (further c here))
  ]
  around_next q p i c (Some r) there here left is around j o at encloses = elim (around j o at encloses) [
    | inl same ↦ (let equal : o ≡ c = (let again : slice_get all q ≡ Some o = ap (λ n. slice_get all n) (sym same) ∙ at in cc) in
        let exits : o.exit ≡ c.exit = ap (λ (x : Closed). x.exit) equal in
        let whole : i.enter < i.exit = left_at p i there in
        absurd (omega (arith, encloses.left)))
    | inr further ↦
        (let near : o.enter ≤ is.outer.enter = is.nearest j o at (further c here) in
        elim (cases_order j r) [
          | inl same ↦ inl same
          | inr order ↦ elim order [
            | inl less ↦ inr (λ d place.
                let outer_is : is.outer ≡ d = (let both : Some is.outer ≡ Some d = sym is.there ∙ place in cc) in
                let one : Precedes o is.outer = precedes_at j r o is.outer at is.there less in
                let whole : c.enter < c.exit = left_at q c here in
                let it : Encloses o is.outer = elim one.left [
                  | inl inside ↦ record { entered = one.entered; left = inside }
                  | inr outside ↦ absurd (omega (arith, outside, is.encloses.entered, (further c here).left, whole))
                ] in
                subst (λ x. Encloses o x) outer_is it)
            | inr more ↦ (let back : Precedes is.outer o = precedes_at r j is.outer o is.there at more in
                absurd (omega (arith, back.entered, near)))
          ]
        ])
  ]

  pub parent_found : (q p : ℕ) (i c : Closed) → q < p → slice_get all p ≡ Some i → slice_get all q ≡ Some c → i.enter < c.exit
      → IsAround all i (Some q) → IsParent all i (Some q)
  parent_found q p i c less there here inside around =
      let one : Precedes c i = precedes_at q p c i here there less in
      record {
        outer = c;
        there = here;
        encloses = record { entered = one.entered; left = elim one.left [ inl within ↦ within | inr outside ↦ absurd (omega (arith, outside, inside)) ] };
        nearest = λ j o at encloses. elim (around j o at encloses) [
          | inl same ↦ (let equal : o ≡ c = (let again : slice_get all q ≡ Some o = ap (λ n. slice_get all n) (sym same) ∙ at in cc) in
              let enters : o.enter ≡ c.enter = ap (λ (x : Closed). x.enter) equal in omega arith)
          | inr further ↦ omega (arith, (further c here).entered)
        ];
      }

  pub parent_none : (i : Closed) → IsAround all i None → IsParent all i None
  parent_none i around place outer there encloses = around place outer there encloses

-- how far out a candidate lies: the measure of the search
abbrev pub place_of : Option ℕ → ℕ
place_of candidate = unwrap_or (option_map (λ q. q + 1) candidate) 0

pub place_falls : (next candidate : Option ℕ) (q : ℕ) → candidate ≡ Some q → ForSome next (λ r. r < q) → place_of next < place_of candidate
place_falls None candidate q is below = let at : place_of candidate ≡ q + 1 = ap place_of is in omega arith
place_falls (Some r) candidate q is below = let at : place_of candidate ≡ q + 1 = ap place_of is in let less : r < q = below r refl in omega arith

pub starts_below : (place : ℕ) (before : Option ℕ) → MatchOption before (place ≡ 0) (λ b. place ≡ b + 1) → ForSome before (λ q. q < place)
starts_below place None is = λ q same. cc
starts_below place (Some b) is = λ q same. let equal : b ≡ q = cc in omega arith

module _ (list : List Measured) (nested : AreNested (map closed_of list)) where
  closed_at : (p : ℕ) (m : Measured) → slice_get list p ≡ Some m → slice_get (map closed_of list) p ≡ Some (closed_of m)
  closed_at p m there = slice_get-map closed_of list p ∙ ap (λ o. option_map closed_of o) there

  pub starts_around : (place : ℕ) (before : Option ℕ) → MatchOption before (place ≡ 0) (λ b. place ≡ b + 1) → (m : Measured) → slice_get list place ≡ Some m
      → IsAround (map closed_of list) (closed_of m) before
  starts_around place None is m there =
      around_none (map closed_of list) nested (closed_of m) (closed_at 0 m (ap (λ n. slice_get list n) (sym is) ∙ there))
  starts_around place (Some b) is m there = around_first (map closed_of list) nested b place (closed_of m) is (closed_at place m there)

  module _ (place q : ℕ) (d e m : Measured) (outer : Option ℕ) (within : place < length list) (less : q < place) (is : outer ≡ Some q)
      (around : IsAround (map closed_of list) (closed_of m) outer) (there : slice_get list place ≡ Some m) where
    candidate_at : slice_get (map closed_of list) q ≡ Some (closed_of (get_or list q e))
    candidate_at = closed_at q (get_or list q e) (slice_get-get_or list q e (omega arith))

    pub found : (get_or list place d).closed.enter < (get_or list q e).closed.exit → IsParent (map closed_of list) (closed_of m) (Some q)
    found inside =
        let same : get_or list place d ≡ m = get_or_from_slice_get list place m d there in
        let enters : (get_or list place d).closed.enter ≡ m.closed.enter = ap (λ (x : Measured). x.closed.enter) same in
        parent_found (map closed_of list) nested q place (closed_of m) (closed_of (get_or list q e)) less (closed_at place m there) candidate_at
        (omega arith) (subst (λ o. IsAround (map closed_of list) (closed_of m) o) is around)

    pub further : (parent : Option ℕ) → (get_or list q e).closed.exit ≤ (get_or list place d).closed.enter → IsParent (map closed_of list) (closed_of (get_or list q e)) parent
        → IsAround (map closed_of list) (closed_of m) parent
    further parent outside its =
        let same : get_or list place d ≡ m = get_or_from_slice_get list place m d there in
        let enters : (get_or list place d).closed.enter ≡ m.closed.enter = ap (λ (x : Measured). x.closed.enter) same in
        around_next (map closed_of list) nested q place (closed_of m) (closed_of (get_or list q e)) parent (closed_at place m there) candidate_at
        (omega arith) its (subst (λ o. IsAround (map closed_of list) (closed_of m) o) is around)

  -- the parent that is known of an instance so far
  pub known_parent : (tree : List Instance) (q : ℕ) (e : Measured) (f : Instance) → EachHasParent list tree → q < length list → q < length tree
      → IsParent (map closed_of list) (closed_of (get_or list q e)) (get_or tree q f).parent
  known_parent tree q e f parents in_list in_tree =
      (parents q (get_or list q e) (get_or tree q f) (slice_get-get_or list q e in_list) (slice_get-get_or tree q f in_tree)).parent

  pub parent_below : (q : ℕ) (e : Measured) (parent : Option ℕ) → q < length list → IsParent (map closed_of list) (closed_of (get_or list q e)) parent
      → ForSome parent (λ r. r < q)
  parent_below q e parent in_list its r is =
      let near : IsNearest (map closed_of list) (closed_of (get_or list q e)) r =
      subst (λ o. IsParent (map closed_of list) (closed_of (get_or list q e)) o) is its in
      encloses_before (map closed_of list) nested r q near.outer (closed_of (get_or list q e)) near.there
      (closed_at q (get_or list q e) (slice_get-get_or list q e in_list)) near.encloses

-- items that go with each other place by place go with each other as lists
pub each_with : {A B : Type 0} (R : A → B → Type 0) (xs : List A) (ys : List B) → length ys ≡ length xs
    → ((k : ℕ) (x : A) (y : B) → slice_get xs k ≡ Some x → slice_get ys k ≡ Some y → R x y) → EachWith R xs ys
each_with R [] [] same all = tt
each_with R [] (y ∷ ys) same all = absurd (omega arith)
each_with R (x ∷ xs) [] same all = absurd (omega arith)
each_with R (x ∷ xs) (y ∷ ys) same all = (all 0 x y refl refl, each_with R xs ys (omega arith) (λ k. all (suc k)))

-- what a list has at a place after a push
pub slice_get-push : {X : Type 0} (xs : List X) (x y : X) (k : ℕ) → slice_get (xs ++ x ∷ []) k ≡ Some y
    → (slice_get xs k ≡ Some y) ⊎ ((k ≡ length xs) × (x ≡ y))
slice_get-push [] x y zero h = inr (refl, cc)
slice_get-push [] x y (suc k) h = cc
slice_get-push (z ∷ xs) x y zero h = inl h
slice_get-push (z ∷ xs) x y (suc k) h = elim (slice_get-push xs x y k h) [ inl old ↦ inl old | inr new ↦ inr (omega (arith, new.0), new.1) ]

-- an item that is made for what was measured
pub made_item : (all : List Closed) (m it : Measured) (parent : Option ℕ) (n : Instance) → it ≡ m → item_of it parent ≡ n → IsParent all (closed_of m) parent
    → HasParent all m n
made_item all m it parent n same made is =
    subst (λ x. HasParent all m x) made (record { is = ap (λ (x : Measured). item_of x parent) same; parent = is })
