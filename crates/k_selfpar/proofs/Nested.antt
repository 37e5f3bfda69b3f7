-- The contexts of a profile's tree have a plan.
use Rattle.std.proofs.Common.{◌≡◌, ℕ, zero, suc, ◌+◌, ◌^◌, ◌<◌, ◌≤◌, ◌⊎◌, inl, inr, Bool, true, false, ◌==◌, List, [], ◌∷◌, ◌++◌, length, length-append, Some, slice_get, refl, sym, ap, ◌∙◌, subst, arith, if◌then◌else◌}
use Rattle.std.proofs.lemmas.Bool.{cases_eq, cond-true, cond-false, eq-eqb, ne_eqb}
use Rattle.std.proofs.lemmas.Option.{none-some, same_Some, slice_get_within}
use Rattle.k_optab.specs.declared.region.Region.{Region}
use Rattle.k_dict_entries.specs.Entries.{tree_at}
use Rattle.k_dict_entries.specs.Rules.{AreProfile}
use Rattle.k_dict_entries.specs.Trees.{Forest, Tree, alone, bare, grown}
use Rattle.k_dict_entries.specs.declared.entry.Entry.{Entry}
use Rattle.k_selfpar.specs.Contexts.{AreUnder, inner_forest, chosen, count_in, group, none, others}
use Rattle.k_selfpar.specs.Nested.{CanPlan, ParentsComeFirst, StandBehindParents, behind_root, works_under}
use Rattle.k_selfpar.specs.Sums.{one, outer, outer_works}
use Rattle.k_selfpar.specs.declared.context.Context.{Context}
use Rattle.k_selfpar.proofs.Besides.{works-beside}
use Rattle.k_selfpar.proofs.Profile.{Bounded, bounded_tree, work_small}
use Rattle.k_selfpar.proofs.Under.{bounded_children, bounded_chosen, bounded_others, opened}

behind_append : (k : ℕ) (xs ys : List Context) → StandBehindParents k xs → StandBehindParents (k + length xs) ys → StandBehindParents k (xs ++ ys)
behind_append k [] ys one_behind other_behind = subst (λ n. StandBehindParents n ys) (nothing k) other_behind
  where
    nothing : (k : ℕ) → k + 0 ≡ k
    nothing k = omega arith
behind_append k (c ∷ xs) ys one_behind other_behind =
    (one_behind.0, behind_append (k + 1) xs ys one_behind.1 (subst (λ n. StandBehindParents n ys) (more k (length xs)) other_behind))
  where
    more : (k n : ℕ) → k + suc n ≡ (k + 1) + n
    more k n = omega arith

-- each context stands behind its parent
parents_first : (regions : List Region) (parent number : ℕ) (f : Forest) (cs : List Context) → AreUnder regions parent number f cs → parent < number
    → StandBehindParents number cs
parents_first regions parent number _ _ (none _ _ _) lt = tt
parents_first regions parent number f _ (group _ _ _ region _ c below later some least is under behind) lt = (
  let e = is.parent_is in omega arith,
  behind_append (number + 1) below later
      (parents_first regions number (number + 1) (inner_forest (chosen region f)) below under (omega arith))
      (parents_first regions parent ((number + 1) + length below) (others region f) later behind (omega arith)),
)

under-append : (p : ℕ) (xs ys : List Context) → works_under p (xs ++ ys) ≡ works_under p xs + works_under p ys
under-append p [] ys = omega arith
under-append p (c ∷ xs) ys = let rest = under-append p xs ys in omega arith

under-here : (p : ℕ) (c : Context) (cs : List Context) → c.parent ≡ p → works_under p (c ∷ cs) ≡ c.work + works_under p cs
under-here p c cs is = ap (λ x. x + works_under p cs) (cond-true (c.parent == p) c.work 0 (eq-eqb c.parent p is))

under-other : (p : ℕ) (c : Context) (cs : List Context) → ¬ (c.parent ≡ p) → works_under p (c ∷ cs) ≡ works_under p cs
under-other p c cs other = ap (λ x. x + works_under p cs) (cond-false (c.parent == p) c.work 0 (ne_eqb c.parent p other)) ∙ nothing (works_under p cs)
  where
    nothing : (n : ℕ) → 0 + n ≡ n
    nothing n = omega arith

-- none has a parent of a lower number but the one of all, nor of a number behind them
none_before : (p : ℕ) (regions : List Region) (parent number : ℕ) (f : Forest) (cs : List Context) → AreUnder regions parent number f cs → ¬ (p ≡ parent) → p < number
    → works_under p cs ≡ 0
none_before p regions parent number _ _ (none _ _ _) ne lt = refl
none_before p regions parent number f _ (group _ _ _ region _ c below later some least is under behind) ne lt =
    let a = under-other p c (below ++ later) (λ at. ne (sym at ∙ is.parent_is)) in
    let b = under-append p below later in
    let d = none_before p regions number (number + 1) (inner_forest (chosen region f)) below under (λ at. absurd (omega arith)) (omega arith) in
    let e = none_before p regions parent ((number + 1) + length below) (others region f) later behind ne (omega arith) in
    omega arith

none_behind : (p : ℕ) (regions : List Region) (parent number : ℕ) (f : Forest) (cs : List Context) → AreUnder regions parent number f cs → ¬ (p ≡ parent)
    → number + length cs ≤ p → works_under p cs ≡ 0
none_behind p regions parent number _ _ (none _ _ _) ne le = refl
none_behind p regions parent number f _ (group _ _ _ region _ c below later some least is under behind) ne le =
    let size : length (below ++ later) ≡ length below + length later = length-append below later in
    let a = under-other p c (below ++ later) (λ at. ne (sym at ∙ is.parent_is)) in
    let b = under-append p below later in
    let d = none_behind p regions number (number + 1) (inner_forest (chosen region f)) below under (λ at. absurd (omega arith)) (omega arith) in
    let e = none_behind p regions parent ((number + 1) + length below) (others region f) later behind ne (omega arith) in
    omega arith

works_parts : (region : ℕ) (f : Forest) → outer_works (chosen region f) + outer_works (others region f) ≡ outer_works f
works_parts region bare = refl
works_parts region (grown x i l) = by (x.region == region) (chosen region l) (others region l) (works_parts region l)
  where
    by : (b : Bool) (c o : Forest) → outer_works c + outer_works o ≡ outer_works l
        → outer_works (if b then grown x i c else c) + outer_works (if b then o else grown x i o) ≡ x.work + outer_works l
    by true c o e = omega arith
    by false c o e = omega arith

-- the children's works are part of the works
works_of_children : (f : Forest) → Bounded f → outer_works (inner_forest f) ≤ outer_works f
works_of_children bare bounded = omega arith
works_of_children (grown x i l) bounded =
    let a = works-beside i (inner_forest l) in let b : outer_works i ≤ x.work = bounded.0.part in let c = works_of_children l bounded.2 in omega arith

-- those of one parent have the works of its instances' children
works_whole : (regions : List Region) (parent number : ℕ) (f : Forest) (cs : List Context) → AreUnder regions parent number f cs → parent < number
    → works_under parent cs ≡ outer_works f
works_whole regions parent number _ _ (none _ _ _) lt = refl
works_whole regions parent number f _ (group _ _ _ region _ c below later some least is under behind) lt =
    let a = under-here parent c (below ++ later) is.parent_is in
    let b = under-append parent below later in
    let d = none_before parent regions number (number + 1) (inner_forest (chosen region f)) below under (λ at. absurd (omega arith)) (omega arith) in
    let e = works_whole regions parent ((number + 1) + length below) (others region f) later behind (omega arith) in
    let g = works_parts region f in
    let h = is.work in
    omega arith

-- where an item of two lists stands
place_either : (xs ys : List Context) (n : ℕ) (c : Context) → slice_get (xs ++ ys) n ≡ Some c
    → (slice_get xs n ≡ Some c) ⊎ ((m : ℕ) × (n ≡ length xs + m) × (slice_get ys m ≡ Some c))
place_either [] ys n c at = inr (n, omega arith, at)
place_either (x ∷ xs) ys zero c at = inl at
place_either (x ∷ xs) ys (suc n) c at = elim (place_either xs ys n c at) [
  | inl left ↦ inl left
  | inr right ↦ inr (right.0, (let e = right.1 in omega arith), right.2)
]

works_within : (regions : List Region) (parent number : ℕ) (f : Forest) (cs : List Context) → AreUnder regions parent number f cs → parent < number → Bounded f
    → (j : ℕ) (d : Context) → slice_get cs j ≡ Some d → works_under (number + j) cs ≤ d.work
works_within regions parent number _ _ (none _ _ _) lt bounded j d at = absurd (none-some d at)
works_within regions parent number f _ (group _ _ _ region _ c below later some least is under behind) lt bounded zero d at =
    let here : number + 0 ≡ number = omega arith in
    let move : works_under (number + 0) (c ∷ (below ++ later)) ≡ works_under number (c ∷ (below ++ later)) = ap (λ n. works_under n (c ∷ (below ++ later))) here in
    let first : c.work ≡ d.work = ap (λ (x : Context). x.work) (same_Some c d at) in
    let e = is.parent_is in
    let a = under-other number c (below ++ later) (λ is_number. absurd (omega arith)) in
    let b = under-append number below later in
    let g = works_whole regions number (number + 1) (inner_forest (chosen region f)) below under (omega arith) in
    let h = none_before number regions parent ((number + 1) + length below) (others region f) later behind (λ is_parent. absurd (omega arith)) (omega arith) in
    let k = works_of_children (chosen region f) (bounded_chosen region f bounded) in
    let w = is.work in
    omega arith
works_within regions parent number f _ (group _ _ _ region _ c below later some least is under behind) lt bounded (suc j) d at =
    let e = is.parent_is in
    let a = under-other (number + suc j) c (below ++ later) (λ is_that. absurd (omega arith)) in
    let b = under-append (number + suc j) below later in
    elim (place_either below later j d at) [
      | inl left ↦
          let g = works_within regions number (number + 1) (inner_forest (chosen region f)) below under (omega arith)
          (bounded_children (chosen region f) (bounded_chosen region f bounded)) j d left in
          let on : works_under (number + suc j) below ≡ works_under ((number + 1) + j) below = ap (λ n. works_under n below) (more number j) in
          let short = slice_get_within below j d left in
          let h = none_before (number + suc j) regions parent ((number + 1) + length below) (others region f) later behind (λ is_parent. absurd (omega arith)) (omega arith) in
          omega arith
      | inr right ↦
          let place = right.1 in
          let g = works_within regions parent ((number + 1) + length below) (others region f) later behind (omega arith) (bounded_others region f bounded) right.0 d right.2 in
          let on : works_under (number + suc j) later ≡ works_under (((number + 1) + length below) + right.0) later =
          ap (λ n. works_under n later) (further number j (length below) right.0 place) in
          let h = none_behind (number + suc j) regions number (number + 1) (inner_forest (chosen region f)) below under (λ is_number. absurd (omega arith)) (omega arith) in
          omega arith
    ]
  where
    more : (n j : ℕ) → n + suc j ≡ (n + 1) + j
    more n j = omega arith

    further : (n j l m : ℕ) → j ≡ l + m → n + suc j ≡ ((n + 1) + l) + m
    further n j l m e = omega arith

-- no context has more work than all have together
works_small : (most : ℕ) (regions : List Region) (parent number : ℕ) (f : Forest) (cs : List Context) → AreUnder regions parent number f cs → Bounded f
    → outer_works f ≤ most → (j : ℕ) (d : Context) → slice_get cs j ≡ Some d → d.work ≤ most
works_small most regions parent number _ _ (none _ _ _) bounded le j d at = absurd (none-some d at)
works_small most regions parent number f _ (group _ _ _ region _ c below later some least is under behind) bounded le zero d at =
    let first : c.work ≡ d.work = ap (λ (x : Context). x.work) (same_Some c d at) in
    let parts = works_parts region f in let w = is.work in omega arith
works_small most regions parent number f _ (group _ _ _ region _ c below later some least is under behind) bounded le (suc j) d at =
    let parts = works_parts region f in
    let k = works_of_children (chosen region f) (bounded_chosen region f bounded) in
    elim (place_either below later j d at) [
      | inl left ↦ works_small most regions number (number + 1) (inner_forest (chosen region f)) below under
          (bounded_children (chosen region f) (bounded_chosen region f bounded)) (omega arith) j d left
      | inr right ↦ works_small most regions parent ((number + 1) + length below) (others region f) later behind (bounded_others region f bounded) (omega arith)
          right.0 d right.2
    ]

no_contexts : (regions : List Region) (parent number : ℕ) (f : Forest) (cs : List Context) → f ≡ bare → AreUnder regions parent number f cs → cs ≡ []
no_contexts regions parent number _ _ empty (none _ _ _) = refl
no_contexts regions parent number f _ empty (group _ _ _ region _ c below later some least is under behind) =
    absurd (let nothing : 0 < 0 = subst (λ g. 0 < count_in region g) empty some in omega arith)

-- beside the root there is no other instance
root_alone : (region : ℕ) (t : Tree) → 0 < count_in region (alone t) → others region (alone t) ≡ bare
root_alone region t some = elim (cases_eq t.label.region region) [
  | inl is ↦ ap (λ b. if b then bare else grown t.label t.inner bare) (eq-eqb t.label.region region is)
  | inr other ↦ absurd (let nothing : 0 < 0 =
      subst (λ b. 0 < count_all (if b then grown t.label t.inner bare else bare)) (ne_eqb t.label.region region other) some in omega arith)
]
  where
    count_all : Forest → ℕ
    count_all f = outer one f

-- the contexts of instances side by side that are of one region have a plan
pub forest_can_be_planned : (regions : List Region) (f : Forest) (contexts : List Context) → Bounded f → outer_works f ≤ 2 ^ 44 → 0 < outer one f
    → ((region : ℕ) → 0 < count_in region f → others region f ≡ bare) → AreUnder regions 0 0 f contexts → length contexts ≤ 65536 → CanPlan contexts
forest_can_be_planned regions f contexts bounded most some_there alone_there whole few =
    let o = opened regions 0 0 f contexts whole some_there in
    let empty : o.later ≡ [] = no_contexts regions 0 ((0 + 1) + length o.below) (others o.region f) o.later (alone_there o.region o.some) o.behind in
    let mine : Forest = chosen o.region f in
    let inner_bounded : Bounded (inner_forest mine) = bounded_children mine (bounded_chosen o.region f bounded) in
    record {
      few = few;
      parents = subst ParentsComeFirst (sym o.whole) (
        o.is.parent_is,
        behind_append 1 o.below o.later (parents_first regions 0 1 (inner_forest mine) o.below o.under (omega arith))
            (parents_first regions 0 ((0 + 1) + length o.below) (others o.region f) o.later o.behind (omega arith)),
      );
      small = λ k c at.
          let small : c.work ≤ 2 ^ 44 = works_small (2 ^ 44) regions 0 0 f contexts whole bounded most k c at in omega arith;
      works = subst (λ (l : List Context). (k : ℕ) (c : Context) → slice_get l k ≡ Some c → works_under k (behind_root l) ≤ c.work) (sym o.whole)
          (within o.below o.later (o.first) mine o.under inner_bounded (works_of_children mine (bounded_chosen o.region f bounded)) o.is.work empty);
    }
  where
    within : (below later : List Context) (first : Context) (mine : Forest) → AreUnder regions 0 (0 + 1) (inner_forest mine) below → Bounded (inner_forest mine)
        → outer_works (inner_forest mine) ≤ outer_works mine → first.work ≡ outer_works mine → later ≡ []
        → (k : ℕ) (c : Context) → slice_get (first ∷ (below ++ later)) k ≡ Some c → works_under k (below ++ later) ≤ c.work
    within below later first mine under bounded le work empty zero c at =
        let is : first.work ≡ c.work = ap (λ (x : Context). x.work) (same_Some first c at) in
        let a = under-append 0 below later in
        let b : works_under 0 later ≡ 0 = ap (works_under 0) empty in
        let d = works_whole regions 0 1 (inner_forest mine) below under (omega arith) in
        omega arith
    within below later first mine under bounded le work empty (suc k) c at =
        let a = under-append (suc k) below later in
        let b : works_under (suc k) later ≡ 0 = ap (works_under (suc k)) empty in
        elim (place_either below later k c at) [
          | inl left ↦
              let g = works_within regions 0 1 (inner_forest mine) below under (omega arith) bounded k c left in
              let on : works_under (suc k) below ≡ works_under (1 + k) below = ap (λ n. works_under n below) (one_more k) in
              omega arith
          | inr right ↦ absurd (none-some c (subst (λ (l : List Context). slice_get l right.0 ≡ Some c) empty right.2))
        ]
      where
        one_more : (k : ℕ) → suc k ≡ 1 + k
        one_more k = omega arith

pub contexts_can_be_planned : (regions : List Region) (entries : List Entry) (root : ℕ) (contexts : List Context) → AreProfile entries → root < length entries
    → AreUnder regions 0 0 (alone (tree_at entries root)) contexts → length contexts ≤ 65536 → CanPlan contexts
contexts_can_be_planned regions entries root contexts profile lt whole few =
    let t : Tree = tree_at entries root in
    let most = work_small entries profile root lt in
    forest_can_be_planned regions (alone t) contexts (bounded_tree entries profile.interned.earlier profile.numbers root lt) (omega arith) (omega arith)
    (λ region some. root_alone region t some) whole few
