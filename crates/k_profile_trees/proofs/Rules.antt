-- The dictionary of a tree keeps the rules of a profile, where the tree's instances have bounds.
use Rattle.std.proofs.Common.{◌≡◌, ℕ, zero, suc, ◌+◌, ◌-◌, ◌<◌, ◌≤◌, ◌⊎◌, inl, inr, List, [], ◌∷◌, ◌++◌, length, Some, slice_get, sym, ap, ◌∙◌, subst, arith}
use Rattle.std.proofs.lemmas.Option.{none-some, same_Some, slice_get_within}
use Rattle.k_dict_entries.specs.Dictionary.{IsDictionaryOf}
use Rattle.k_dict_entries.specs.Entries.{AreInterned, NameBelow, label_of, laid, tree_at, tree_of, trees_of}
use Rattle.k_dict_entries.specs.Rules.{AreProfile, HasBoundedNumbers, HaveFewInstances, HaveFewLevels, NameRegions, child_paths, child_works, entry_of}
use Rattle.k_dict_entries.specs.Trees.{Forest, SameShape, Tree, alone, bare, grown, height, post_order, size}
use Rattle.k_dict_entries.specs.declared.entry.Entry.{Entry}
use Rattle.k_dict_entries.proofs.Again.{from_list}
use Rattle.k_dict_entries.proofs.EntryTrees.{below_bound, tree_is}
use Rattle.k_dict_entries.proofs.Forests.{Alike-sym, SameShape-sym}
use Rattle.k_dict_entries.proofs.Unique.{root_is}
use Rattle.k_dict_entries.proofs.Walking.{EachWith-back, tree_there}
use Rattle.k_profile_trees.proofs.Labels.{label_is, wider}
use Rattle.k_profile_trees.proofs.Shapes.{TopsUpTo, height_of_shape, laid_up_to, paths_laid, size_of_shape, tops, tops_alike, up_to_alike, works_laid}
use Rattle.k_profile_trees.proofs.Children.{HasBounds, HaveBounds}
use Rattle.k_profile_trees.proofs.Grown.{AreWithin}

-- a tree of this forest, with those within it: its numbers are bounded, its region is one of the list, and it is no higher or larger than the forest
record IsPart (count bound high large : ℕ) (t : Tree) : Type 0 where
  region : t.label.region < count
  most : t.label.work ≤ bound
  bounds : HasBounds t.label t.inner
  levels : height (alone t) ≤ high
  instances : size (alone t) ≤ large

-- .. of a larger forest too
part_wider : (count most levels instances levels' instances' : ℕ) (t : Tree) → levels ≤ levels' → instances ≤ instances' → IsPart count most levels instances t
    → IsPart count most levels' instances' t
part_wider count most levels instances levels' instances' t higher larger is =
    let low : height (alone t) ≤ levels = is.levels in let few : size (alone t) ≤ instances = is.instances in
    record { region = is.region; most = is.most; bounds = is.bounds; levels = omega arith; instances = omega arith }

-- where an item of two lists stands
place_either : (xs ys : List Tree) (n : ℕ) (t : Tree) → slice_get (xs ++ ys) n ≡ Some t
    → ((m : ℕ) × (slice_get xs m ≡ Some t)) ⊎ ((m : ℕ) × (slice_get ys m ≡ Some t))
place_either [] ys n t at = inr (n, at)
place_either (x ∷ xs) ys zero t at = inl (0, at)
place_either (x ∷ xs) ys (suc n) t at = elim (place_either xs ys n t at) [ inl there ↦ inl (suc there.0, there.1) | inr there ↦ inr there ]

part_at : (count most : ℕ) (f : Forest) → AreWithin count most f → HaveBounds f → (n : ℕ) (t : Tree) → slice_get (post_order f) n ≡ Some t
    → IsPart count most (height f) (size f) t
part_at count most bare within have n t at = absurd (none-some t at)
part_at count most (grown x i l) within have n t at =
    elim (place_either (post_order i) (record { label = x; inner = i } ∷ post_order l) n t at) [
      | inl inside ↦ part_wider count most (height i) (size i) (height (grown x i l)) (size (grown x i l)) t (omega arith) (omega arith)
          (part_at count most i within.2 have.1 inside.0 t inside.1)
      | inr behind ↦ here_or_later behind.0 behind.1 (λ m later. part_at count most l within.3 have.2 m t later)
    ]
  where
    here_or_later : (m : ℕ) → slice_get (record { label = x; inner = i } ∷ post_order l) m ≡ Some t
        → ((k : ℕ) → slice_get (post_order l) k ≡ Some t → IsPart count most (height l) (size l) t)
        → IsPart count most (height (grown x i l)) (size (grown x i l)) t
    here_or_later zero here rest =
        let P : Tree → Type 0 = λ u. IsPart count most (height (grown x i l)) (size (grown x i l)) u in
        subst P (same_Some (record { label = x; inner = i }) t here)
        (record { region = within.0; most = within.1; bounds = have.0; levels = omega arith; instances = omega arith })
    here_or_later (suc m) later rest =
        part_wider count most (height l) (size l) (height (grown x i l)) (size (grown x i l)) t (omega arith) (omega arith) (rest m later)

-- the dictionary of a tree of few levels and few instances, whose works are small
module _ (t : Tree) (dict : List Entry) (is : IsDictionaryOf t dict) (count : ℕ) (within : AreWithin count 17592186044416 (alone t)) (have : HaveBounds (alone t)) where
  -- each entry has the shape of a part of the tree
  like : (n : ℕ) → n < length dict → (u : Tree) × IsPart count 17592186044416 (height (alone t)) (size (alone t)) u × SameShape (tree_at dict n) u
  like n less = elim (from_list [] (post_order (alone t)) is.shapes is.firsts n k.0 k.1) [
    | inl before ↦ absurd (none-some k.0 before.1)
    | inr listed ↦ (k.0, part_at count 17592186044416 (alone t) within have listed.0 k.0 listed.1, SameShape-sym k.0 (tree_at dict n) k.2)
  ]
    where
      k : (u : Tree) × (slice_get is.shapes n ≡ Some u) × SameShape u (tree_at dict n)
      k = EachWith-back SameShape is.shapes (trees_of dict) n (tree_at dict n) is.stands (tree_there dict n less)

  few_levels : height (alone t) ≤ 32 → HaveFewLevels dict
  few_levels low n less =
      let l = like n less in
      let part : height (alone l.0) ≤ height (alone t) = l.1.levels in
      let same : height (alone (tree_at dict n)) ≡ height (alone l.0) = height_of_shape (tree_at dict n) l.0 l.2 in
      omega arith

  few_instances : size (alone t) ≤ 576460752303423488 → HaveFewInstances dict
  few_instances few n less =
      let l = like n less in
      let part : size (alone l.0) ≤ size (alone t) = l.1.instances in
      let same : size (alone (tree_at dict n)) ≡ size (alone l.0) = size_of_shape (tree_at dict n) l.0 l.2 in
      omega arith

  labels : (n : ℕ) → n < length dict → (tree_at dict n).label ≡ label_of (entry_of dict n)
  labels n less = label_is dict is.earlier n less

  -- an entry and the part whose shape it has
  module _ (n : ℕ) (d : Entry) (at : slice_get dict n ≡ Some d) where
    there : n < length dict
    there = slice_get_within dict n d at

    abbrev part : Tree
    part = (like n there).0

    shape : SameShape (tree_of (trees_of dict) d) part
    shape = let P : Tree → Type 0 = λ u. SameShape u part in subst P (tree_is dict n d at (is.earlier n d at)) (like n there).2

    same_label : label_of d ≡ part.label
    same_label = shape.label

    named : d.region < count
    named =
        let region : d.region ≡ part.label.region = ap (λ x. x.region) same_label in
        let here : part.label.region < count = (like n there).1.region in
        omega arith

    wide : NameBelow (length dict) d.runs
    wide = wider n (length dict) d.runs (let less = there in omega arith) (below_bound 0 n d.runs (is.earlier n d at))

    same_works : child_works dict d.runs ≡ tops (λ x. x.work) part.inner
    same_works = sym (works_laid dict (length dict) labels d.runs wide) ∙ tops_alike (λ x. x.work) (laid (trees_of dict) d.runs) part.inner shape.inner

    same_paths : child_paths dict d.runs ≡ tops (λ x. x.path) part.inner
    same_paths = sym (paths_laid dict (length dict) labels d.runs wide) ∙ tops_alike (λ x. x.path) (laid (trees_of dict) d.runs) part.inner shape.inner

    bounded : HasBoundedNumbers dict d
    bounded =
        let work : d.work ≡ part.label.work = ap (λ x. x.work) same_label in
        let path : d.path ≡ part.label.path = ap (λ x. x.path) same_label in
        let works = same_works in
        let paths = same_paths in
        let most : part.label.work ≤ 17592186044416 = (like n there).1.most in
        let its : HasBounds part.label part.inner = (like n there).1.bounds in
        let inside : tops (λ x. x.work) part.inner ≤ part.label.work = its.part in
        let least : part.label.path ≤ part.label.work = its.work in
        let sums : part.label.path ≤ tops (λ x. x.path) part.inner + (part.label.work - tops (λ x. x.work) part.inner) = its.parts in
        let P : ℕ → Type 0 = λ p. TopsUpTo p (laid (trees_of dict) d.runs) in
        let up : TopsUpTo d.path (laid (trees_of dict) d.runs) =
        subst P (sym path) (up_to_alike part.label.path part.inner (laid (trees_of dict) d.runs) (Alike-sym (laid (trees_of dict) d.runs) part.inner shape.inner) its.child) in
        record {
          most = omega arith;
          part = omega arith;
          work = omega arith;
          child = laid_up_to dict (length dict) labels d.path d.runs wide up;
          parts = omega arith;
        }

  pub name_regions : NameRegions count dict
  name_regions n d at = named n d at

  pub are_profile : AreInterned dict → height (alone t) ≤ 32 → size (alone t) ≤ 576460752303423488 → AreProfile dict
  are_profile interned low few =
      let root = root_is t dict is in
      let last : length dict ≡ root.0 + 1 = root.1 in
      record {
        some = omega arith;
        interned = interned;
        numbers = λ n d at. bounded n d at;
        levels = few_levels low;
        instances = few_instances few;
      }
