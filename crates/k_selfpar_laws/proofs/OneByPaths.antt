-- There is one list of contexts by their paths.
use Rattle.std.proofs.Common.{◌≡◌, ℕ, zero, suc, ◌<◌, inl, inr, List, [], ◌∷◌, ◌++◌, Some, slice_get, refl, sym, ap, ◌∙◌, subst, arith}
use Rattle.std.proofs.lemmas.Option.{none-some, same_Some}
use Rattle.k_optab.specs.declared.region.Region.{Region}
use Rattle.k_optab.specs.Tree.{EachWith}
use Rattle.k_dict_entries.specs.Trees.{Forest}
use Rattle.k_dict_entries.proofs.Walking.{EachWith-at}
use Rattle.k_selfpar.specs.Contexts.{IsContext}
use Rattle.k_selfpar.specs.Sums.{one, outer, outer_paths, serial_in}
use Rattle.k_selfpar.specs.declared.context.Context.{Context}
use Rattle.k_selfpar.proofs.Lowest.{one_ratio}
use Rattle.k_selfpar_laws.specs.Laws.{ComesBefore, ContextsAreOneByPaths, HasPath, Precedes, Rise, Tells, at_path}

never_both : (p q : List ℕ) → Precedes p q → Precedes q p → ⊥
never_both [] [] one_way other_way = one_way
never_both [] (s ∷ q) one_way other_way = other_way
never_both (r ∷ p) [] one_way other_way = one_way
never_both (r ∷ p) (s ∷ q) one_way other_way = elim one_way [
  | inl lt ↦ elim other_way [ inl gt ↦ absurd (omega arith) | inr same ↦ (let is : s ≡ r = same.0 in absurd (omega arith)) ]
  | inr same ↦ (let is : r ≡ s = same.0 in elim other_way [ inl gt ↦ absurd (omega arith) | inr also ↦ never_both p q same.1 also.1 ])
]

before_at : (p : List ℕ) (paths : List (List ℕ)) (n : ℕ) (q : List ℕ) → ComesBefore p paths → slice_get paths n ≡ Some q → Precedes p q
before_at p [] n q before at = absurd (none-some q at)
before_at p (x ∷ paths) zero q before at = subst (Precedes p) (same_Some x q at) before.0
before_at p (x ∷ paths) (suc n) q before at = before_at p paths n q before.1 at

-- a list of regions has one place in those that rise
one_place : (paths : List (List ℕ)) (m n : ℕ) (p : List ℕ) → Rise paths → slice_get paths m ≡ Some p → slice_get paths n ≡ Some p → m ≡ n
one_place [] m n p rise at also = absurd (none-some p at)
one_place (x ∷ paths) zero zero p rise at also = refl
one_place (x ∷ paths) zero (suc n) p rise at also =
    let before : Precedes p p = subst (λ y. Precedes y p) (same_Some x p at) (before_at x paths n p rise.0 also) in absurd (never_both p p before before)
one_place (x ∷ paths) (suc m) zero p rise at also =
    let before : Precedes p p = subst (λ y. Precedes y p) (same_Some x p also) (before_at x paths m p rise.0 at) in absurd (never_both p p before before)
one_place (x ∷ paths) (suc m) (suc n) p rise at also = ap suc (one_place paths m n p rise.1 at also)

abbrev IsThere : List (List ℕ) → List ℕ → Type 0
IsThere paths p = (k : ℕ) × (slice_get paths k ≡ Some p)

-- the first of both is the same
same_first : (x y : List ℕ) (xs ys : List (List ℕ)) → ComesBefore x xs → ComesBefore y ys → IsThere (y ∷ ys) x → IsThere (x ∷ xs) y → x ≡ y
same_first x y xs ys before also (zero, at) back = sym (same_Some y x at)
same_first x y xs ys before also (suc n, at) (zero, is) = same_Some x y is
same_first x y xs ys before also (suc n, at) (suc m, is) = absurd (never_both x y (before_at x xs m y before is) (before_at y ys n x also at))

-- without it, the others are the same
others_there : (x y : List ℕ) (xs ys : List (List ℕ)) → x ≡ y → ComesBefore x xs → ((p : List ℕ) → IsThere (x ∷ xs) p → IsThere (y ∷ ys) p)
    → (p : List ℕ) → IsThere xs p → IsThere ys p
others_there x y xs ys same before there p at = by (there p (suc at.0, at.1))
  where
    by : IsThere (y ∷ ys) p → IsThere ys p
    by (zero, is) =
        let is_first : x ≡ p = same ∙ same_Some y p is in
        let again : Precedes p p = subst (λ z. Precedes z p) is_first (before_at x xs at.0 p before at.1) in absurd (never_both p p again again)
    by (suc n, is) = (n, is)

same_paths : (xs ys : List (List ℕ)) → Rise xs → Rise ys → ((p : List ℕ) → IsThere xs p → IsThere ys p) → ((p : List ℕ) → IsThere ys p → IsThere xs p) → xs ≡ ys
same_paths [] [] rise also there back = refl
same_paths [] (y ∷ ys) rise also there back = absurd (none-some y (back y (0, refl)).1)
same_paths (x ∷ xs) [] rise also there back = absurd (none-some x (there x (0, refl)).1)
same_paths (x ∷ xs) (y ∷ ys) rise also there back =
    let first : x ≡ y = same_first x y xs ys rise.0 also.0 (there x (0, refl)) (back y (0, refl)) in
    let rest : xs ≡ ys =
    same_paths xs ys rise.1 also.1 (others_there x y xs ys first rise.0 there) (others_there y x ys xs (sym first) also.0 back) in
    λ i. first i ∷ rest i

-- what stands before the last of a list, and the last
abbrev front : List ℕ → List ℕ
front [] = []
front (x ∷ []) = []
front (x ∷ y ∷ xs) = x ∷ front (y ∷ xs)

abbrev last : List ℕ → ℕ
last [] = 0
last (x ∷ []) = x
last (x ∷ y ∷ xs) = last (y ∷ xs)

front_is : (xs : List ℕ) (x : ℕ) → front (xs ++ x ∷ []) ≡ xs
front_is [] x = refl
front_is (y ∷ []) x = refl
front_is (y ∷ z ∷ xs) x = ap (λ l. y ∷ l) (front_is (z ∷ xs) x)

last_is : (xs : List ℕ) (x : ℕ) → last (xs ++ x ∷ []) ≡ x
last_is [] x = refl
last_is (y ∷ []) x = refl
last_is (y ∷ z ∷ xs) x = last_is (z ∷ xs) x

region_is : (paths : List (List ℕ)) (p : List ℕ) (c : Context) → HasPath paths p c → c.region ≡ last p
region_is paths p c has = elim has [
  | inl first ↦ sym (ap last first.1)
  | inr under ↦ sym (ap last under.2 ∙ last_is under.0 c.region)
]

-- paths that are not empty and rise give one parent
one_parent : (paths : List (List ℕ)) → Rise paths → ¬ IsThere paths [] → (p : List ℕ) (c d : Context) → HasPath paths p c → HasPath paths p d → c.parent ≡ d.parent
one_parent paths rise some p c d has also = elim has [
  | inl first ↦ elim also [
    | inl other ↦ first.0 ∙ sym other.0
    | inr under ↦ absurd (some (d.parent, subst (λ u. slice_get paths d.parent ≡ Some u) (up d under.0 under.2 ∙ ap front first.1) under.1))
  ]
  | inr under ↦ elim also [
    | inl other ↦ absurd (some (c.parent, subst (λ u. slice_get paths c.parent ≡ Some u) (up c under.0 under.2 ∙ ap front other.1) under.1))
    | inr over ↦ one_place paths c.parent d.parent under.0 rise under.1
        (subst (λ u. slice_get paths d.parent ≡ Some u) (up d over.0 over.2 ∙ sym (up c under.0 under.2)) over.1)
  ]
]
  where
    up : (c : Context) (u : List ℕ) → p ≡ u ++ c.region ∷ [] → u ≡ front p
    up c u is = sym (ap front is ∙ front_is u c.region)

-- one context tells of a group
one_context : (regions : List Region) (g : Forest) (c d : Context) → c.parent ≡ d.parent → c.region ≡ d.region → IsContext regions c.parent c.region g c
    → IsContext regions d.parent d.region g d → c ≡ d
one_context regions g c d parents same is also = λ i. record {
  parent = parents i;
  region = same i;
  kind = same_Some c.kind d.kind (sym here.kind ∙ also.kind) i;
  instances = (here.instances ∙ sym also.instances) i;
  turns = (here.turns ∙ sym also.turns) i;
  work = (here.work ∙ sym also.work) i;
  path = (here.path ∙ sym also.path) i;
  sp = (sp.0 i, sp.1 i);
}
  where
    here : IsContext regions c.parent d.region g c
    here = subst (λ r. IsContext regions c.parent r g c) same is

    sp : (c.sp.0 ≡ d.sp.0) × (c.sp.1 ≡ d.sp.1)
    sp = one_ratio (outer serial_in g) (outer_paths g) c.sp.0 c.sp.1 d.sp.0 d.sp.1 here.sp also.sp

same_contexts : (regions : List Region) (f : Forest) (paths : List (List ℕ)) → Rise paths → ¬ IsThere paths [] → (ps : List (List ℕ)) (cs ds : List Context)
    → EachWith (Tells regions f) ps cs → EachWith (HasPath paths) ps cs → EachWith (Tells regions f) ps ds → EachWith (HasPath paths) ps ds → cs ≡ ds
same_contexts regions f paths rise some [] [] [] tells have tell also = refl
same_contexts regions f paths rise some [] [] (d ∷ ds) tells have tell also = absurd tell
same_contexts regions f paths rise some [] (c ∷ cs) ds tells have tell also = absurd tells
same_contexts regions f paths rise some (p ∷ ps) [] ds tells have tell also = absurd tells
same_contexts regions f paths rise some (p ∷ ps) (c ∷ cs) [] tells have tell also = absurd tell
same_contexts regions f paths rise some (p ∷ ps) (c ∷ cs) (d ∷ ds) tells have tell also =
    let parents : c.parent ≡ d.parent = one_parent paths rise some p c d have.0 also.0 in
    let same : c.region ≡ d.region = region_is paths p c have.0 ∙ sym (region_is paths p d also.0) in
    let first : c ≡ d = one_context regions (at_path p f) c d parents same tells.0.1 tell.0.1 in
    let rest : cs ≡ ds = same_contexts regions f paths rise some ps cs ds tells.1 have.1 tell.1 also.1 in
    λ i. first i ∷ rest i

-- each path of contexts is that of an instance
has_some : (regions : List Region) (f : Forest) (paths : List (List ℕ)) (cs : List Context) → EachWith (Tells regions f) paths cs → (p : List ℕ) → IsThere paths p
    → 0 < outer one (at_path p f)
has_some regions f paths cs each p at =
    let tells = EachWith-at (Tells regions f) paths cs at.0 p each at.1 in subst (λ n. 0 < n) tells.2.1.instances tells.2.0

pub contexts_are_one_by_paths : ContextsAreOneByPaths
contexts_are_one_by_paths regions f cs ds by also =
    let same : also.paths ≡ by.paths =
    same_paths also.paths by.paths also.rise by.rise (λ p at. by.whole p (has_some regions f also.paths ds also.each p at))
    (λ p at. also.whole p (has_some regions f by.paths cs by.each p at)) in
    same_contexts regions f by.paths by.rise (λ at. absurd (let some = has_some regions f by.paths cs by.each [] at in omega arith)) by.paths cs ds by.each by.parents
    (subst (λ (ps : List (List ℕ)). EachWith (Tells regions f) ps ds) same also.each)
    (subst (λ (ps : List (List ℕ)). EachWith (HasPath ps) ps ds) same also.parents)
