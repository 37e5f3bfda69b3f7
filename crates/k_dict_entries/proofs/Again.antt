-- The dictionary of what a dictionary expands to has the same entries, up to their numbers and the order of siblings.
use Rattle.std.proofs.Common.{◌≡◌, ℕ, zero, suc, ◌+◌, ◌<◌, ◌⊎◌, inl, inr, List, [], ◌∷◌, ◌++◌, length, Some, slice_get, refl, sym, ap, ◌∙◌, subst, arith}
use Rattle.std.proofs.lemmas.Option.{none-some, same_Some, slice_get_within}
use Rattle.k_dict_entries.specs.Trees.{Label, Forest, Tree, bare, grown, Alike, neither, both, exchanged, further, SameShape, alone, post_order}
use Rattle.k_dict_entries.specs.Entries.{tree_at, trees_of}
use Rattle.k_dict_entries.specs.Dictionary.{Firsts, ended, again, anew, IsDictionaryOf}
use Rattle.k_dict_entries.specs.Laws.{HaveLikes, GatheredAgain}
use Rattle.k_dict_entries.specs.declared.entry.Entry.{Entry}
use Rattle.k_dict_entries.proofs.EntryTrees.{length-trees}
use Rattle.k_dict_entries.proofs.Forests.{SameShape-further, SameShape-refl, SameShape-sym, grown_alike}
use Rattle.k_dict_entries.proofs.Lists.{same_tree}
use Rattle.k_dict_entries.proofs.Places.{place_behind, place_kept, place_of_push}
use Rattle.k_dict_entries.proofs.Unique.{root_is}
use Rattle.k_dict_entries.proofs.Walking.{EachWith-at, EachWith-back, tree_there}

-- a tree of this shape stands in a forest
abbrev pub Has : Tree → Forest → Type 0
Has u bare = ⊥
Has u (grown label inner later) = SameShape u (record { label = label; inner = inner }) ⊎ (Has u inner ⊎ Has u later)

-- alike forests have the same shapes
has_alike : (u : Tree) (f g : Forest) → Alike f g → Has u f → Has u g
has_alike u _ _ neither has = has
has_alike u _ _ (both x i i' l l' inner later) has = elim has [
  | inl here ↦ inl (SameShape-further u (record { label = x; inner = i }) (record { label = x; inner = i' }) here (record { label = refl; inner = inner }))
  | inr rest ↦ elim rest [
    | inl within ↦ inr (inl (has_alike u i i' inner within))
    | inr behind ↦ inr (inr (has_alike u l l' later behind))
  ]
]
has_alike u _ _ (exchanged x y i j l) has = elim has [
  | inl first ↦ inr (inr (inl first))
  | inr rest ↦ elim rest [
    | inl within ↦ inr (inr (inr (inl within)))
    | inr behind ↦ elim behind [
      | inl second ↦ inl second
      | inr more ↦ elim more [
        | inl inside ↦ inr (inl inside)
        | inr last ↦ inr (inr (inr (inr last)))
      ]
    ]
  ]
]
has_alike u _ _ (further f g h one other) has = has_alike u g h other (has_alike u f g one has)

-- a tree stands in a list
abbrev pub IsAt : List Tree → Tree → Type 0
IsAt trees u = (n : ℕ) × (slice_get trees n ≡ Some u)

place_of_append : (xs ys : List Tree) (n : ℕ) (u : Tree) → slice_get (xs ++ ys) n ≡ Some u → IsAt xs u ⊎ IsAt ys u
place_of_append [] ys n u at = inr (n, at)
place_of_append (x ∷ xs) ys zero u at = inl (0, at)
place_of_append (x ∷ xs) ys (suc n) u at = elim (place_of_append xs ys n u at) [
  | inl there ↦ inl (suc there.0, there.1)
  | inr there ↦ inr there
]

place_behind_all : (xs ys : List Tree) (n : ℕ) (u : Tree) → slice_get ys n ≡ Some u → IsAt (xs ++ ys) u
place_behind_all [] ys n u at = (n, at)
place_behind_all (x ∷ xs) ys n u at = let rest = place_behind_all xs ys n u at in (suc rest.0, rest.1)

-- the trees in post-order are those of the forest
has_listed : (f : Forest) (n : ℕ) (u : Tree) → slice_get (post_order f) n ≡ Some u → Has u f
has_listed bare n u at = absurd (none-some u at)
has_listed (grown x i l) n u at = elim (place_of_append (post_order i) (record { label = x; inner = i } ∷ post_order l) n u at) [
  | inl within ↦ inr (inl (has_listed i within.0 u within.1))
  | inr behind ↦ here_or_later x i l u behind.0 behind.1 (λ m. has_listed l m u)
]
  where
    here_or_later : (x : Label) (i l : Forest) (u : Tree) (n : ℕ) → slice_get (record { label = x; inner = i } ∷ post_order l) n ≡ Some u
        → ((m : ℕ) → slice_get (post_order l) m ≡ Some u → Has u l) → Has u (grown x i l)
    here_or_later x i l u zero at rest =
        let t : Tree = record { label = x; inner = i } in
        let P : Tree → Type 0 = λ v. SameShape v t in inl (subst P (same_Some t u at) (SameShape-refl t))
    here_or_later x i l u (suc n) at rest = inr (inr (rest n at))

-- a shape that stands in a forest is that of a tree in post-order
abbrev pub IsShapeAt : List Tree → Tree → Type 0
IsShapeAt trees u = (n : ℕ) × (v : Tree) × (slice_get trees n ≡ Some v) × SameShape u v

listed_has : (u : Tree) (f : Forest) → Has u f → IsShapeAt (post_order f) u
listed_has u bare has = absurd has
listed_has u (grown x i l) has = elim has [
  | inl here ↦ (let t : Tree = record { label = x; inner = i } in
      let at = place_behind_all (post_order i) (t ∷ post_order l) 0 t refl in (at.0, t, at.1, here))
  | inr rest ↦ elim rest [
    | inl within ↦ (let there = listed_has u i within in
        (there.0, there.1, place_kept (post_order i) (record { label = x; inner = i } ∷ post_order l) there.0 there.1 there.2, there.3))
    | inr behind ↦ (let there = listed_has u l behind in
        let at = place_behind_all (post_order i) (record { label = x; inner = i } ∷ post_order l) (suc there.0) there.1 there.2 in (at.0, there.1, at.1, there.3))
  ]
]

-- what was kept stays
kept_stays : (kept trees all : List Tree) → Firsts SameShape kept trees all → (n : ℕ) (k : Tree) → slice_get kept n ≡ Some k → slice_get all n ≡ Some k
kept_stays _ _ _ (ended kept) n k at = at
kept_stays _ _ all (again t kept trees _ m j there same first) n k at = kept_stays kept trees all first n k at
kept_stays _ _ all (anew t kept trees _ none first) n k at = kept_stays (kept ++ t ∷ []) trees all first n k (place_kept kept (t ∷ []) n k at)

-- each tree of the list has the shape of one that is kept
pub covered : (kept trees all : List Tree) → Firsts SameShape kept trees all → (n : ℕ) (u : Tree) → slice_get trees n ≡ Some u → IsShapeAt all u
covered _ _ _ (ended kept) n u at = absurd (none-some u at)
covered _ _ all (again t kept trees _ m j there same first) zero u at =
    let P : Tree → Type 0 = λ v. SameShape v j in (m, j, kept_stays kept trees all first m j there, subst P (same_Some t u at) same)
covered _ _ all (again t kept trees _ m j there same first) (suc n) u at = covered kept trees all first n u at
covered _ _ all (anew t kept trees _ none first) zero u at =
    let P : Tree → Type 0 = λ v. SameShape v t in
    (length kept, t, kept_stays (kept ++ t ∷ []) trees all first (length kept) t (place_behind kept t []), subst P (same_Some t u at) (SameShape-refl t))
covered _ _ all (anew t kept trees _ none first) (suc n) u at = covered (kept ++ t ∷ []) trees all first n u at

-- each tree that is kept was kept before or is one of the list
pub from_list : (kept trees all : List Tree) → Firsts SameShape kept trees all → (n : ℕ) (k : Tree) → slice_get all n ≡ Some k → IsAt kept k ⊎ IsAt trees k
from_list _ _ _ (ended kept) n k at = inl (n, at)
from_list _ _ all (again t kept trees _ m j there same first) n k at = elim (from_list kept trees all first n k at) [
  | inl before ↦ inl before
  | inr listed ↦ inr (suc listed.0, listed.1)
]
from_list _ _ all (anew t kept trees _ none first) n k at = elim (from_list (kept ++ t ∷ []) trees all first n k at) [
  | inl before ↦ elim (place_of_push kept t before.0 k before.1) [
    | inl there ↦ inl (before.0, there)
    | inr last ↦ inr (0, ap Some (sym last.1))
  ]
  | inr listed ↦ inr (suc listed.0, listed.1)
]

-- each entry of the dictionary of a tree has its like in that of a tree of the same shape
likes : (s t : Tree) (one other : List Entry) → SameShape s t → IsDictionaryOf s one → IsDictionaryOf t other → (n : ℕ) → n < length one
    → (m : ℕ) × (m < length other) × SameShape (tree_at one n) (tree_at other m)
likes s t one other same first second n within =
    let back = EachWith-back SameShape first.shapes (trees_of one) n (tree_at one n) first.stands (tree_there one n within) in
    let k : Tree = back.0 in
    let whole : Alike (alone s) (alone t) = grown_alike s t bare bare same neither in
    elim (from_list [] (post_order (alone s)) first.shapes first.firsts n k back.1) [
      | inl none ↦ absurd (none-some k none.1)
      | inr listed ↦ (let has : Has k (alone t) = has_alike k (alone s) (alone t) whole (has_listed (alone s) listed.0 k listed.1) in
          let there = listed_has k (alone t) has in
          let kept = covered [] (post_order (alone t)) second.shapes second.firsts there.0 there.1 there.2 in
          let stands = EachWith-at SameShape second.shapes (trees_of other) kept.0 kept.1 second.stands kept.2 in
          let count = length-trees other in
          let inside = slice_get_within (trees_of other) kept.0 stands.0 stands.1 in
          let less : kept.0 < length other = omega arith in
          let is : stands.0 ≡ tree_at other kept.0 = same_Some stands.0 (tree_at other kept.0) (sym stands.1 ∙ tree_there other kept.0 less) in
          let P : Tree → Type 0 = λ v. SameShape kept.1 v in (
            kept.0,
            less,
            SameShape-further (tree_at one n) k (tree_at other kept.0) (SameShape-sym k (tree_at one n) back.2)
                (SameShape-further k there.1 (tree_at other kept.0) there.3 (SameShape-further there.1 kept.1 (tree_at other kept.0) kept.3 (subst P is stands.2))),
          ))
    ]

as_expansions : (one other : List Entry) → ((n : ℕ) → n < length one → (m : ℕ) × (m < length other) × SameShape (tree_at one n) (tree_at other m))
    → HaveLikes one other
as_expansions one other each n within =
    let like = each n within in (like.0, like.1, (tree_at one n, tree_at other like.0, refl, refl, like.2))

pub gathered_again : GatheredAgain
gathered_again nodes entries root list first count second =
    let t : Tree = first.0 in
    let s : Tree = tree_at entries root in
    let last = root_is t entries first.2 in
    let place : last.0 ≡ root = (let size = last.1 in omega arith) in
    let P : ℕ → Type 0 = λ n. SameShape t (tree_at entries n) in
    let same : SameShape t s = subst P place last.2 in
    let is : second.0 ≡ s = same_tree second.0 s (sym second.1) in
    let Q : Tree → Type 0 = λ u. IsDictionaryOf u list in
    let other : IsDictionaryOf s list = subst Q is second.2 in
    (as_expansions entries list (likes t s entries list same first.2 other), as_expansions list entries (likes s t list entries (SameShape-sym t s same) other first.2))
