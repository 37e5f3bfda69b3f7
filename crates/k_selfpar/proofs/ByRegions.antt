-- The contexts of a tree are its instances, grouped by their lists of regions from the root.
use Rattle.std.proofs.Common.{◌≡◌, ℕ, ◌+◌, ◌<◌, ◌⊎◌, inl, inr, ◌==◌, List, [], ◌∷◌, ◌++◌, length, map, refl, sym, ap, ◌∙◌, subst, arith, if◌then◌else◌}
use Rattle.std.proofs.lemmas.Bool.{cases_eq, eq-eqb, ne_eqb}
use Rattle.k_optab.specs.declared.region.Region.{Region}
use Rattle.k_optab.specs.Tree.{EachWith}
use Rattle.k_dict_entries.specs.Trees.{Forest, Tree, alone, bare, grown}
use Rattle.k_dict_entries.proofs.Lists.{same_tree}
use Rattle.k_selfpar.specs.Contexts.{AreUnder, IsContext, inner_forest, chosen, group, none, others}
use Rattle.k_selfpar.specs.Laws.{AreApart, AreByRegions, ContextsAreByRegions, IsAmong, at_regions, last_of}
use Rattle.k_selfpar.specs.Sums.{one, outer}
use Rattle.k_selfpar.specs.declared.context.Context.{Context}

abbrev Path : Type 0
Path = ℕ × List ℕ

-- a list of regions behind one more
abbrev inside : ℕ → Path → Path
inside region p = (region, p.0 ∷ p.1)

at_bare : (region : ℕ) (regions : List ℕ) → at_regions region regions bare ≡ bare
at_bare region [] = refl
at_bare region (next ∷ regions) = at_bare next regions

-- among the instances of other regions than one, that one is of none, and the others are of theirs
chosen-others-none : (region : ℕ) (f : Forest) → chosen region (others region f) ≡ bare
chosen-others-none region bare = refl
chosen-others-none region (grown x i l) = elim (cases_eq x.region region) [
  | inl is ↦
      ap (λ b. chosen region (if b then others region l else grown x i (others region l))) (eq-eqb x.region region is) ∙ chosen-others-none region l
  | inr ne ↦
      ap (λ b. chosen region (if b then others region l else grown x i (others region l))) (ne_eqb x.region region ne)
      ∙ ap (λ b. if b then grown x i (chosen region (others region l)) else chosen region (others region l)) (ne_eqb x.region region ne)
      ∙ chosen-others-none region l
]

chosen-others-same : (one_region region : ℕ) (f : Forest) → ¬ (one_region ≡ region) → chosen one_region (others region f) ≡ chosen one_region f
chosen-others-same s region bare ne = refl
chosen-others-same s region (grown x i l) ne = elim (cases_eq x.region region) [
  | inl is ↦
      ap (λ b. chosen s (if b then others region l else grown x i (others region l))) (eq-eqb x.region region is)
      ∙ chosen-others-same s region l ne
      ∙ sym (ap (λ b. if b then grown x i (chosen s l) else chosen s l) (ne_eqb x.region s (λ at. ne (sym at ∙ is))))
  | inr other ↦
      ap (λ b. chosen s (if b then others region l else grown x i (others region l))) (ne_eqb x.region region other)
      ∙ ap (λ g. if x.region == s then grown x i g else g) (chosen-others-same s region l ne)
]

at-others-same : (region s : ℕ) (regions : List ℕ) (f : Forest) → ¬ (s ≡ region) → at_regions s regions (others region f) ≡ at_regions s regions f
at-others-same region s [] f ne = chosen-others-same s region f ne
at-others-same region s (next ∷ regions) f ne = ap (λ g. at_regions next regions (inner_forest g)) (chosen-others-same s region f ne)

at-others-none : (region : ℕ) (regions : List ℕ) (f : Forest) → at_regions region regions (others region f) ≡ bare
at-others-none region [] f = chosen-others-none region f
at-others-none region (next ∷ regions) f = ap (λ g. at_regions next regions (inner_forest g)) (chosen-others-none region f) ∙ at_bare next regions

-- an instance of other regions than one has another region
first_other : (region s : ℕ) (regions : List ℕ) (f : Forest) → 0 < outer one (at_regions s regions (others region f)) → ¬ (s ≡ region)
first_other region s regions f some is =
    let none_there : outer one (at_regions s regions (others region f)) ≡ 0 =
    ap (outer one) (subst (λ r. at_regions s regions (others r f) ≡ bare) is (at-others-none s regions f)) in
    absurd (omega arith)

-- lists of lists of regions
among-map : (region : ℕ) (paths : List Path) (p : Path) → IsAmong paths p → IsAmong (map (inside region) paths) (inside region p)
among-map region [] p there = there
among-map region (q ∷ paths) p (inl is) = inl (ap (inside region) is)
among-map region (q ∷ paths) p (inr there) = inr (among-map region paths p there)

-- what a list of regions within one has behind it
abbrev tail_of : Path → Path
tail_of (region, []) = (region, [])
tail_of (region, next ∷ regions) = (next, regions)

among-unmap : (region : ℕ) (paths : List Path) (p : Path) → IsAmong (map (inside region) paths) (inside region p) → IsAmong paths p
among-unmap region [] p there = there
among-unmap region (q ∷ paths) p (inl is) = inl (λ i. ((ap (λ (x : Path). (tail_of x).0) is) i, (ap (λ (x : Path). (tail_of x).1) is) i))
among-unmap region (q ∷ paths) p (inr there) = inr (among-unmap region paths p there)

-- one within a region begins with it, and has more
among-inside : (region s : ℕ) (rest : List ℕ) (paths : List Path) → IsAmong (map (inside region) paths) (s, rest) → (s ≡ region) × (rest ≡ [] → ⊥)
among-inside region s rest [] there = absurd there
among-inside region s rest (q ∷ paths) (inl is) =
    (sym (ap (λ (x : Path). x.0) is), λ empty. absurd (let e : q.0 ∷ q.1 ≡ [] = ap (λ (x : Path). x.1) is ∙ empty in cc))
among-inside region s rest (q ∷ paths) (inr there) = among-inside region s rest paths there

among-left : (xs ys : List Path) (p : Path) → IsAmong xs p → IsAmong (xs ++ ys) p
among-left [] ys p there = absurd there
among-left (x ∷ xs) ys p (inl is) = inl is
among-left (x ∷ xs) ys p (inr there) = inr (among-left xs ys p there)

among-right : (xs ys : List Path) (p : Path) → IsAmong ys p → IsAmong (xs ++ ys) p
among-right [] ys p there = there
among-right (x ∷ xs) ys p there = inr (among-right xs ys p there)

among-both : (xs ys : List Path) (p : Path) → IsAmong (xs ++ ys) p → IsAmong xs p ⊎ IsAmong ys p
among-both [] ys p there = inr there
among-both (x ∷ xs) ys p (inl is) = inl (inl is)
among-both (x ∷ xs) ys p (inr there) = elim (among-both xs ys p there) [ inl left ↦ inl (inr left) | inr right ↦ inr right ]

apart-map : (region : ℕ) (paths : List Path) → AreApart paths → AreApart (map (inside region) paths)
apart-map region [] apart = tt
apart-map region (p ∷ paths) apart = (λ there. apart.0 (among-unmap region paths p there), apart-map region paths apart.1)

apart-append : (xs ys : List Path) → AreApart xs → AreApart ys → ((p : Path) → IsAmong xs p → ¬ IsAmong ys p) → AreApart (xs ++ ys)
apart-append [] ys one_apart other_apart differ = other_apart
apart-append (x ∷ xs) ys one_apart other_apart differ = (
  λ there. elim (among-both xs ys x there) [ inl left ↦ one_apart.0 left | inr right ↦ differ x (inl refl) right ],
  apart-append xs ys one_apart.1 other_apart (λ p left. differ p (inr left)),
)

-- what is told of each
abbrev Tells : List Region → Forest → Path → Context → Type 0
Tells regions f p c = IsContext regions c.parent (last_of p.0 p.1) (at_regions p.0 p.1 f) c

each-append : (R : Path → Context → Type 0) (ps qs : List Path) (cs ds : List Context) → EachWith R ps cs → EachWith R qs ds → EachWith R (ps ++ qs) (cs ++ ds)
each-append R [] qs [] ds one_each other_each = other_each
each-append R [] qs (c ∷ cs) ds one_each other_each = absurd one_each
each-append R (p ∷ ps) qs [] ds one_each other_each = absurd one_each
each-append R (p ∷ ps) qs (c ∷ cs) ds one_each other_each = (one_each.0, each-append R ps qs cs ds one_each.1 other_each)

each-inside : (regions : List Region) (region : ℕ) (f : Forest) (paths : List Path) (cs : List Context) → EachWith (Tells regions (inner_forest (chosen region f))) paths cs
    → EachWith (Tells regions f) (map (inside region) paths) cs
each-inside regions region f [] [] each = tt
each-inside regions region f [] (c ∷ cs) each = absurd each
each-inside regions region f (p ∷ paths) [] each = absurd each
each-inside regions region f (p ∷ paths) (c ∷ cs) each = (each.0, each-inside regions region f paths cs each.1)

each-others : (regions : List Region) (region : ℕ) (f : Forest) (paths : List Path) (cs : List Context)
    → ((s : ℕ) (rest : List ℕ) → IsAmong paths (s, rest) → 0 < outer one (at_regions s rest (others region f)))
    → EachWith (Tells regions (others region f)) paths cs → EachWith (Tells regions f) paths cs
each-others regions region f [] [] some each = tt
each-others regions region f [] (c ∷ cs) some each = absurd each
each-others regions region f (p ∷ paths) [] some each = absurd each
each-others regions region f (p ∷ paths) (c ∷ cs) some each = (
  subst (λ g. IsContext regions c.parent (last_of p.0 p.1) g c)
      (at-others-same region p.0 p.1 f (first_other region p.0 p.1 f (some p.0 p.1 (inl refl)))) each.0,
  each-others regions region f paths cs (λ s rest there. some s rest (inr there)) each.1,
)

by_regions : (regions : List Region) (parent number : ℕ) (f : Forest) (cs : List Context) → AreUnder regions parent number f cs → AreByRegions regions f cs
by_regions regions parent number _ _ (none _ _ _) = record {
  paths = [];
  each = tt;
  whole = λ region rest some. absurd (let e : outer one (at_regions region rest bare) ≡ 0 = ap (outer one) (at_bare region rest) in omega arith);
  some = λ region rest there. absurd there;
  apart = tt;
}
by_regions regions parent number f _ (group _ _ _ region _ c below later some least is under behind) =
    joined (by_regions regions number (number + 1) (inner_forest (chosen region f)) below under)
    (by_regions regions parent ((number + 1) + length below) (others region f) later behind)
  where
    joined : AreByRegions regions (inner_forest (chosen region f)) below → AreByRegions regions (others region f) later → AreByRegions regions f (c ∷ (below ++ later))
    joined inner rest = record {
      paths = (region, []) ∷ (map (inside region) inner.paths ++ rest.paths);
      each = (
        subst (λ p. IsContext regions p region (chosen region f) c) (sym is.parent_is) is,
        each-append (Tells regions f) (map (inside region) inner.paths) rest.paths below later
            (each-inside regions region f inner.paths below inner.each) (each-others regions region f rest.paths later rest.some rest.each),
      );
      whole = whole;
      some = there_some;
      apart = (
        λ there. first_apart there,
        apart-append (map (inside region) inner.paths) rest.paths (apart-map region inner.paths inner.apart) rest.apart
            (λ p left right. first_other region p.0 p.1 f (rest.some p.0 p.1 right) (among-inside region p.0 p.1 inner.paths left).0),
      );
    }
      where
        first_apart : IsAmong (map (inside region) inner.paths ++ rest.paths) (region, []) → ⊥
        first_apart there = elim (among-both (map (inside region) inner.paths) rest.paths (region, []) there) [
          | inl left ↦ (among-inside region region [] inner.paths left).1 refl
          | inr right ↦ first_other region region [] f (rest.some region [] right) refl
        ]

        whole : (s : ℕ) (others_are : List ℕ) → 0 < outer one (at_regions s others_are f)
            → IsAmong ((region, []) ∷ (map (inside region) inner.paths ++ rest.paths)) (s, others_are)
        whole s others_are some_there = elim (cases_eq s region) [
          | inl at ↦ here s others_are at some_there
          | inr ne ↦ inr (among-right (map (inside region) inner.paths) rest.paths (s, others_are)
              (rest.whole s others_are (subst (λ g. 0 < outer one g) (sym (at-others-same region s others_are f ne)) some_there)))
        ]
          where
            here : (s : ℕ) (l : List ℕ) → s ≡ region → 0 < outer one (at_regions s l f)
                → IsAmong ((region, []) ∷ (map (inside region) inner.paths ++ rest.paths)) (s, l)
            here s [] at some_here = inl (λ i. (sym at i, []))
            here s (next ∷ l) at some_here =
                inr (subst (λ r. IsAmong (map (inside region) inner.paths ++ rest.paths) (r, next ∷ l)) (sym at)
                (among-left (map (inside region) inner.paths) rest.paths (region, next ∷ l)
                (among-map region inner.paths (next, l) (inner.whole next l (subst (λ r. 0 < outer one (at_regions next l (inner_forest (chosen r f)))) at some_here)))))

        there_some : (s : ℕ) (l : List ℕ) → IsAmong ((region, []) ∷ (map (inside region) inner.paths ++ rest.paths)) (s, l) → 0 < outer one (at_regions s l f)
        there_some s l (inl is_first) = subst (λ (p : Path). 0 < outer one (at_regions p.0 p.1 f)) is_first some
        there_some s l (inr there) = elim (among-both (map (inside region) inner.paths) rest.paths (s, l) there) [
          | inl left ↦ inside_some l left (among-inside region s l inner.paths left)
          | inr right ↦ subst (λ g. 0 < outer one g) (at-others-same region s l f (first_other region s l f (rest.some s l right))) (rest.some s l right)
        ]
          where
            inside_some : (l : List ℕ) → IsAmong (map (inside region) inner.paths) (s, l) → (s ≡ region) × (l ≡ [] → ⊥) → 0 < outer one (at_regions s l f)
            inside_some [] left begins = absurd (begins.1 refl)
            inside_some (next ∷ l) left begins =
                subst (λ r. 0 < outer one (at_regions next l (inner_forest (chosen r f)))) (sym begins.0)
                (inner.some next l (among-unmap region inner.paths (next, l)
                (subst (λ r. IsAmong (map (inside region) inner.paths) (r, next ∷ l)) begins.0 left)))

pub contexts_are_by_regions : ContextsAreByRegions
contexts_are_by_regions regions t contexts are =
    let is : are.0 ≡ t = same_tree are.0 t (sym are.1) in
    by_regions regions 0 0 (alone t) contexts (subst (λ (u : Tree). AreUnder regions 0 0 (alone u) contexts) is are.2)
