-- The contexts of a tree by their paths: in lexicographic order, each with its parent's path and its own region behind.
use Rattle.std.proofs.Common.{◌≡◌, ℕ, zero, suc, ◌+◌, ◌<◌, ◌≤◌, ◌⊎◌, inl, inr, ◌==◌, List, [], ◌∷◌, ◌++◌, length, map, Some, slice_get, refl, sym, ap, ◌∙◌, subst, arith, if◌then◌else◌}
use Rattle.std.proofs.lemmas.Bool.{cases_eq, cases_lt, eq-eqb, ne_eqb}
use Rattle.std.proofs.lemmas.Option.{none-some, same_Some}
use Rattle.k_optab.specs.declared.region.Region.{Region}
use Rattle.k_optab.specs.Tree.{EachWith}
use Rattle.k_dict_entries.specs.Trees.{Forest, Tree, alone, bare, grown}
use Rattle.k_dict_entries.proofs.Lists.{same_tree}
use Rattle.k_selfpar.specs.Contexts.{AreUnder, IsContext, NoneBelow, inner_forest, chosen, count_in, group, none, others}
use Rattle.k_selfpar.specs.Laws.{at_regions}
use Rattle.k_selfpar.specs.Sums.{one, outer}
use Rattle.k_selfpar.specs.declared.context.Context.{Context}
use Rattle.k_selfpar_laws.specs.Laws.{ComesBefore, ContextsAreInOrder, HasPath, Rise, Tells, at_path}

-- where nothing is, nothing has a path
at_bare : (region : ℕ) (path : List ℕ) → at_regions region path bare ≡ bare
at_bare region [] = refl
at_bare region (next ∷ path) = at_bare next path

-- no instance is of a region below the lowest
chosen-lower : (low region : ℕ) (f : Forest) → NoneBelow region f → low < region → chosen low f ≡ bare
chosen-lower low region bare least lt = refl
chosen-lower low region (grown x i l) least lt =
    let le : region ≤ x.region = least.0 in
    ap (λ b. if b then grown x i (chosen low l) else chosen low l) (ne_eqb x.region low (λ is. absurd (omega arith)))
    ∙ chosen-lower low region l least.1 lt

-- among the instances of other regions than one, that one is of none, and the others are of theirs
chosen-others : (region s : ℕ) (f : Forest) → chosen s (others region f) ≡ (if s == region then bare else chosen s f)
chosen-others region s f = elim (cases_eq s region) [
  | inl is ↦ subst (λ r. chosen r (others region f) ≡ bare) (sym is) (here f) ∙ sym (ap (λ b. if b then bare else chosen s f) (eq-eqb s region is))
  | inr ne ↦ there ne f ∙ sym (ap (λ b. if b then bare else chosen s f) (ne_eqb s region ne))
]
  where
    here : (f : Forest) → chosen region (others region f) ≡ bare
    here bare = refl
    here (grown x i l) = elim (cases_eq x.region region) [
      | inl at ↦ ap (λ b. chosen region (if b then others region l else grown x i (others region l))) (eq-eqb x.region region at) ∙ here l
      | inr off ↦
          ap (λ b. chosen region (if b then others region l else grown x i (others region l))) (ne_eqb x.region region off)
          ∙ ap (λ b. if b then grown x i (chosen region (others region l)) else chosen region (others region l)) (ne_eqb x.region region off)
          ∙ here l
    ]

    there : ¬ (s ≡ region) → (f : Forest) → chosen s (others region f) ≡ chosen s f
    there ne bare = refl
    there ne (grown x i l) = elim (cases_eq x.region region) [
      | inl at ↦
          ap (λ b. chosen s (if b then others region l else grown x i (others region l))) (eq-eqb x.region region at)
          ∙ there ne l
          ∙ sym (ap (λ b. if b then grown x i (chosen s l) else chosen s l) (ne_eqb x.region s (λ is. ne (sym is ∙ at))))
      | inr off ↦
          ap (λ b. chosen s (if b then others region l else grown x i (others region l))) (ne_eqb x.region region off)
          ∙ ap (λ g. if x.region == s then grown x i g else g) (there ne l)
    ]

at-chosen : (s : ℕ) (path : List ℕ) (f g : Forest) → chosen s f ≡ chosen s g → at_regions s path f ≡ at_regions s path g
at-chosen s [] f g same = same
at-chosen s (next ∷ path) f g same = ap (λ h. at_regions next path (inner_forest h)) same

pub at-others : (region s : ℕ) (path : List ℕ) (f : Forest) → ¬ (s ≡ region) → at_regions s path (others region f) ≡ at_regions s path f
at-others region s path f ne =
    at-chosen s path (others region f) f (chosen-others region s f ∙ ap (λ b. if b then bare else chosen s f) (ne_eqb s region ne))

at-none : (s : ℕ) (path : List ℕ) (f : Forest) → chosen s f ≡ bare → at_regions s path f ≡ bare
at-none s path f empty = at-chosen s path f bare empty ∙ at_bare s path

-- instances of other regions than the lowest are of higher ones
pub above : (region s : ℕ) (path : List ℕ) (f : Forest) → NoneBelow region f → 0 < outer one (at_regions s path (others region f)) → region < s
above region s path f least some = elim (cases_eq s region) [
  | inl is ↦ (let e : outer one (at_regions s path (others region f)) ≡ 0 = ap (outer one) (at-none s path (others region f)
      (chosen-others region s f ∙ ap (λ b. if b then bare else chosen s f) (eq-eqb s region is))) in absurd (omega arith))
  | inr ne ↦ elim (cases_lt region s) [
    | inl lt ↦ lt
    | inr le ↦ (let lower : s < region = less le ne in
        let e : outer one (at_regions s path (others region f)) ≡ 0 =
        ap (outer one) (at-others region s path f ne ∙ at-none s path f (chosen-lower s region f least lower)) in absurd (omega arith))
  ]
]
  where
    less : s ≤ region → ¬ (s ≡ region) → s < region
    less le ne = elim (cases_lt s region) [ inl lt ↦ lt | inr ge ↦ absurd (ne (omega arith)) ]

-- lists side by side
pub each-append : {A B : Type 0} (R : A → B → Type 0) (ps qs : List A) (cs ds : List B) → EachWith R ps cs → EachWith R qs ds → EachWith R (ps ++ qs) (cs ++ ds)
each-append R [] qs [] ds each more = more
each-append R [] qs (c ∷ cs) ds each more = absurd each
each-append R (p ∷ ps) qs [] ds each more = absurd each
each-append R (p ∷ ps) qs (c ∷ cs) ds each more = (each.0, each-append R ps qs cs ds each.1 more)

pub each-map : {A B C : Type 0} (R : A → C → Type 0) (S : B → C → Type 0) (g : A → B) → ((p : A) (c : C) → R p c → S (g p) c) → (ps : List A) (cs : List C)
    → EachWith R ps cs → EachWith S (map g ps) cs
each-map R S g so [] [] each = tt
each-map R S g so [] (c ∷ cs) each = absurd each
each-map R S g so (p ∷ ps) [] each = absurd each
each-map R S g so (p ∷ ps) (c ∷ cs) each = (so p c each.0, each-map R S g so ps cs each.1)

each-weaker : {A C : Type 0} (R S : A → C → Type 0) → ((p : A) (c : C) → R p c → S p c) → (ps : List A) (cs : List C) → EachWith R ps cs → EachWith S ps cs
each-weaker R S so [] [] each = tt
each-weaker R S so [] (c ∷ cs) each = absurd each
each-weaker R S so (p ∷ ps) [] each = absurd each
each-weaker R S so (p ∷ ps) (c ∷ cs) each = (so p c each.0, each-weaker R S so ps cs each.1)

length-map-each : {A B C : Type 0} (R : A → C → Type 0) (g : A → B) (ps : List A) (cs : List C) → EachWith R ps cs → length (map g ps) ≡ length cs
length-map-each R g [] [] each = refl
length-map-each R g [] (c ∷ cs) each = absurd each
length-map-each R g (p ∷ ps) [] each = absurd each
length-map-each R g (p ∷ ps) (c ∷ cs) each = ap suc (length-map-each R g ps cs each.1)

at-left : {A B : Type 0} (g : A → B) (ps : List A) (qs : List B) (k : ℕ) (p : A) → slice_get ps k ≡ Some p → slice_get (map g ps ++ qs) k ≡ Some (g p)
at-left g [] qs k p at = absurd (none-some p at)
at-left g (q ∷ ps) qs zero p at = ap (λ x. Some (g x)) (same_Some q p at)
at-left g (q ∷ ps) qs (suc k) p at = at-left g ps qs k p at

at-right : {A : Type 0} (ps qs : List A) (n k : ℕ) (q : A) → n ≡ length ps + k → slice_get qs k ≡ Some q → slice_get (ps ++ qs) n ≡ Some q
at-right [] qs n k q is at = let place : k ≡ n = omega arith in subst (λ m. slice_get qs m ≡ Some q) place at
at-right (p ∷ ps) qs zero k q is at = absurd (omega arith)
at-right (p ∷ ps) qs (suc n) k q is at = at-right ps qs n k q (omega arith) at

-- lists that rise
before-append : (p : List ℕ) (ps qs : List (List ℕ)) → ComesBefore p ps → ComesBefore p qs → ComesBefore p (ps ++ qs)
before-append p [] qs one_part other_part = other_part
before-append p (q ∷ ps) qs one_part other_part = (one_part.0, before-append p ps qs one_part.1 other_part)

before-inside : (region : ℕ) (p : List ℕ) (ps : List (List ℕ)) → ComesBefore p ps → ComesBefore (region ∷ p) (map (λ q. region ∷ q) ps)
before-inside region p [] before = tt
before-inside region p (q ∷ ps) before = (inr (refl, before.0), before-inside region p ps before.1)

rise-inside : (region : ℕ) (ps qs : List (List ℕ)) → Rise ps → Rise qs → ((p : List ℕ) → ComesBefore (region ∷ p) qs)
    → Rise (map (λ q. region ∷ q) ps ++ qs)
rise-inside region [] qs rise behind before = behind
rise-inside region (p ∷ ps) qs rise behind before = (
  before-append (region ∷ p) (map (λ q. region ∷ q) ps) qs (before-inside region p ps rise.0) (before p),
  rise-inside region ps qs rise.1 behind before,
)

-- no path is empty
pub some-path : (regions : List Region) (f : Forest) (p : List ℕ) (c : Context) → Tells regions f p c → 0 < outer one (at_path p f)
some-path regions f p c tells = subst (λ n. 0 < n) tells.1.instances tells.0

before-more : (regions : List Region) (f : Forest) (ps : List (List ℕ)) (cs : List Context) → EachWith (Tells regions f) ps cs → ComesBefore [] ps
before-more regions f [] [] each = tt
before-more regions f [] (c ∷ cs) each = absurd each
before-more regions f (p ∷ ps) [] each = absurd each
before-more regions f ([] ∷ ps) (c ∷ cs) each = absurd (let some = some-path regions f [] c each.0 in omega arith)
before-more regions f ((r ∷ p) ∷ ps) (c ∷ cs) each = (tt, before-more regions f ps cs each.1)

before-others : (regions : List Region) (region : ℕ) (f : Forest) → NoneBelow region f → (p : List ℕ) (ps : List (List ℕ)) (cs : List Context)
    → EachWith (Tells regions (others region f)) ps cs → ComesBefore (region ∷ p) ps
before-others regions region f least p [] [] each = tt
before-others regions region f least p [] (c ∷ cs) each = absurd each
before-others regions region f least p (q ∷ ps) [] each = absurd each
before-others regions region f least p ([] ∷ ps) (c ∷ cs) each = absurd (let some = some-path regions (others region f) [] c each.0 in omega arith)
before-others regions region f least p ((s ∷ q) ∷ ps) (c ∷ cs) each = (
  inl (above region s q f least (some-path regions (others region f) (s ∷ q) c each.0)),
  before-others regions region f least p ps cs each.1,
)

-- what is told of the instances within those of a region, and of those of other regions
tells-inside : (regions : List Region) (region : ℕ) (f : Forest) (p : List ℕ) (c : Context) → Tells regions (inner_forest (chosen region f)) p c
    → Tells regions f (region ∷ p) c
tells-inside regions region f [] c tells = absurd (let some = some-path regions (inner_forest (chosen region f)) [] c tells in omega arith)
tells-inside regions region f (s ∷ p) c tells = tells

tells-others : (regions : List Region) (region : ℕ) (f : Forest) → NoneBelow region f → (p : List ℕ) (c : Context) → Tells regions (others region f) p c
    → Tells regions f p c
tells-others regions region f least [] c tells = absurd (let some = some-path regions (others region f) [] c tells in omega arith)
tells-others regions region f least (s ∷ p) c tells =
    let lt : region < s = above region s p f least (some-path regions (others region f) (s ∷ p) c tells) in (
      tells.0,
      subst (λ g. IsContext regions c.parent c.region g c) (at-others region s p f (λ is. absurd (omega arith))) tells.1,
    )

-- what is told of the lowest region's instances, of those within these, and of those of other regions
pub tells-joined : (regions : List Region) (parent region : ℕ) (f : Forest) (c : Context) (ps qs : List (List ℕ)) (below later : List Context) → 0 < count_in region f
    → NoneBelow region f → IsContext regions parent region (chosen region f) c → EachWith (Tells regions (inner_forest (chosen region f))) ps below
    → EachWith (Tells regions (others region f)) qs later
    → EachWith (Tells regions f) ((region ∷ []) ∷ (map (λ p. region ∷ p) ps ++ qs)) (c ∷ (below ++ later))
tells-joined regions parent region f c ps qs below later some least is inner rest = (
  (
    subst (λ n. 0 < n) (sym is.instances) some,
    subst (λ p. IsContext regions p c.region (chosen region f) c) (sym is.parent_is)
        (subst (λ r. IsContext regions parent r (chosen region f) c) (sym is.region_is) is),
  ),
  each-append (Tells regions f) (map (λ p. region ∷ p) ps) qs below later
      (each-map (Tells regions (inner_forest (chosen region f))) (Tells regions f) (λ p. region ∷ p) (tells-inside regions region f) ps below inner)
      (each-weaker (Tells regions (others region f)) (Tells regions f) (tells-others regions region f least) qs later rest),
)

-- a context's path among those of contexts that are numbered from a number on
abbrev Linked : ℕ → ℕ → List (List ℕ) → List ℕ → Context → Type 0
Linked parent number paths path c =
    ((c.parent ≡ parent) × (path ≡ c.region ∷ []))
    ⊎ ((j : ℕ) × (up : List ℕ) × (c.parent ≡ number + j) × (slice_get paths j ≡ Some up) × (path ≡ up ++ c.region ∷ []))

-- contexts by their paths, numbered from a number on
record ByPaths (regions : List Region) (parent number : ℕ) (f : Forest) (cs : List Context) : Type 0 where
  paths : List (List ℕ)
  each : EachWith (Tells regions f) paths cs
  whole : (path : List ℕ) → 0 < outer one (at_path path f) → (k : ℕ) × (slice_get paths k ≡ Some path)
  linked : EachWith (Linked parent number paths) paths cs
  rise : Rise paths

by_paths : (regions : List Region) (parent number : ℕ) (f : Forest) (cs : List Context) → AreUnder regions parent number f cs → ByPaths regions parent number f cs
by_paths regions parent number _ _ (none _ _ _) = record {
  paths = [];
  each = tt;
  whole = λ path some. nowhere path some;
  linked = tt;
  rise = tt;
}
  where
    nowhere : (path : List ℕ) → 0 < outer one (at_path path bare) → (k : ℕ) × (slice_get [] k ≡ Some path)
    nowhere [] some = absurd (omega arith)
    nowhere (s ∷ path) some = absurd (let e : outer one (at_regions s path bare) ≡ 0 = ap (outer one) (at_bare s path) in omega arith)
by_paths regions parent number f _ (group _ _ _ region _ c below later some least is under behind) =
    joined (by_paths regions number (number + 1) (inner_forest (chosen region f)) below under)
    (by_paths regions parent ((number + 1) + length below) (others region f) later behind)
  where
    joined : ByPaths regions number (number + 1) (inner_forest (chosen region f)) below → ByPaths regions parent ((number + 1) + length below) (others region f) later
        → ByPaths regions parent number f (c ∷ (below ++ later))
    joined inner rest = record {
      paths = all;
      each = tells-joined regions parent region f c inner.paths rest.paths below later some least is inner.each rest.each;
      whole = whole;
      linked = (
        inl (is.parent_is, ap (λ r. r ∷ []) (sym is.region_is)),
        each-append (Linked parent number all) within rest.paths below later
            (each-map (Linked number (number + 1) inner.paths) (Linked parent number all) (λ p. region ∷ p) link-inside inner.paths below inner.linked)
            (each-weaker (Linked parent ((number + 1) + length below) rest.paths) (Linked parent number all) link-behind rest.paths later rest.linked),
      );
      rise = (
        before-append (region ∷ []) within rest.paths (before-inside region [] inner.paths (before-more regions (inner_forest (chosen region f)) inner.paths below inner.each))
            (before-others regions region f least [] rest.paths later rest.each),
        rise-inside region inner.paths rest.paths inner.rise rest.rise (λ p. before-others regions region f least p rest.paths later rest.each),
      );
    }
      where
        within : List (List ℕ)
        within = map (λ p. region ∷ p) inner.paths

        all : List (List ℕ)
        all = (region ∷ []) ∷ (within ++ rest.paths)

        counted : length within ≡ length below
        counted = length-map-each (Tells regions (inner_forest (chosen region f))) (λ p. region ∷ p) inner.paths below inner.each

        link-inside : (p : List ℕ) (d : Context) → Linked number (number + 1) inner.paths p d → Linked parent number all (region ∷ p) d
        link-inside p d (inl first) = inr (0, region ∷ [], (let e : d.parent ≡ number = first.0 in omega arith), refl, ap (λ q. region ∷ q) first.1)
        link-inside p d (inr (j, up, at, there, whole_is)) = inr (
          suc j,
          region ∷ up,
          omega arith,
          at-left (λ q. region ∷ q) inner.paths rest.paths j up there,
          ap (λ q. region ∷ q) whole_is,
        )

        link-behind : (p : List ℕ) (d : Context) → Linked parent ((number + 1) + length below) rest.paths p d → Linked parent number all p d
        link-behind p d (inl first) = inl first
        link-behind p d (inr (j, up, at, there, whole_is)) =
            inr (suc (length within + j), up, (let size = counted in omega arith), at-right within rest.paths (length within + j) j up refl there, whole_is)

        whole : (path : List ℕ) → 0 < outer one (at_path path f) → (k : ℕ) × (slice_get all k ≡ Some path)
        whole [] there = absurd (omega arith)
        whole (s ∷ path) there = elim (cases_eq s region) [
          | inl at ↦ here path at (subst (λ r. 0 < outer one (at_regions r path f)) at there)
          | inr ne ↦ (let found = rest.whole (s ∷ path) (subst (λ g. 0 < outer one g) (sym (at-others region s path f ne)) there) in
              (suc (length within + found.0), at-right within rest.paths (length within + found.0) found.0 (s ∷ path) refl found.1))
        ]
          where
            here : (l : List ℕ) → s ≡ region → 0 < outer one (at_regions region l f) → (k : ℕ) × (slice_get all k ≡ Some (s ∷ l))
            here [] at so = (0, ap (λ r. Some (r ∷ [])) (sym at))
            here (next ∷ l) at so =
                let found = inner.whole (next ∷ l) so in (
                  suc found.0,
                  subst (λ r. slice_get all (suc found.0) ≡ Some (r ∷ next ∷ l)) (sym at)
                      (at-left (λ q. region ∷ q) inner.paths rest.paths found.0 (next ∷ l) found.1),
                )

-- numbered from 0 on, a context's parent has the number of its path
pub contexts_are_in_order : ContextsAreInOrder
contexts_are_in_order regions t contexts are =
    let is : are.0 ≡ t = same_tree are.0 t (sym are.1) in
    let by = by_paths regions 0 0 (alone t) contexts (subst (λ (u : Tree). AreUnder regions 0 0 (alone u) contexts) is are.2) in
    record { paths = by.paths; each = by.each; whole = by.whole; parents = each-weaker (Linked 0 0 by.paths) (HasPath by.paths) (link by.paths) by.paths contexts by.linked; rise = by.rise }
  where
    link : (paths : List (List ℕ)) (p : List ℕ) (c : Context) → Linked 0 0 paths p c → HasPath paths p c
    link paths p c (inl first) = inl first
    link paths p c (inr (j, up, at, there, whole_is)) =
        let place : j ≡ c.parent = omega arith in inr (up, subst (λ k. slice_get paths k ≡ Some up) place there, whole_is)
