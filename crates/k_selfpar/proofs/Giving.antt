-- What a tree gives is what its entry gives of its own and what the trees of its runs give.
use Rattle.std.proofs.Common.{◌≡◌, ℕ, zero, suc, ◌+◌, ◌*◌, List, [], ◌∷◌, slice_index_or, refl, ap, ◌∙◌, arith, suc-mul}
use Rattle.k_dict_entries.specs.Trees.{Label, Forest, Tree, alone}
use Rattle.k_dict_entries.specs.Entries.{NameEarlier, copies, laid, no_tree, tree_at, tree_of, trees_of}
use Rattle.k_dict_entries.specs.declared.entry.Entry.{Entry}
use Rattle.k_dict_entries.specs.declared.entry.Run.{Run}
use Rattle.k_dict_entries.proofs.EntryTrees.{tree_is}
use Rattle.k_selfpar.specs.Counts.{Adds, weighed}
use Rattle.k_selfpar.specs.Sums.{all_of, own_of, outer_paths, outer_works, sum_of}

-- one more of n equal numbers
plus_copy : (x c n l : ℕ) → c ≡ n * x + l → x + c ≡ suc n * x + l
plus_copy x c n l e = omega (arith, e, suc-mul n x)

-- copies of a tree, before others
sum_of-copies : (own : Label → Forest → ℕ) (n : ℕ) (t : Tree) (later : Forest) → sum_of own (copies n t later) ≡ n * sum_of own (alone t) + sum_of own later
sum_of-copies own zero t later = omega arith
sum_of-copies own (suc n) t later =
    one_more (own t.label t.inner) (sum_of own t.inner) (sum_of own (copies n t later))
    ∙ plus_copy (sum_of own (alone t)) (sum_of own (copies n t later)) n (sum_of own later) (sum_of-copies own n t later)
  where
    one_more : (a b c : ℕ) → a + (b + c) ≡ (a + (b + 0)) + c
    one_more a b c = omega arith

-- the children that runs stand for
sum_of-laid : (own : Label → Forest → ℕ) (trees : List Tree) (runs : List Run)
    → sum_of own (laid trees runs) ≡ weighed (λ m. sum_of own (alone (slice_index_or trees m no_tree))) runs
sum_of-laid own trees [] = refl
sum_of-laid own trees (run ∷ runs) =
    sum_of-copies own run.count (slice_index_or trees run.entry no_tree) (laid trees runs)
    ∙ ap (λ x. run.count * sum_of own (alone (slice_index_or trees run.entry no_tree)) + x) (sum_of-laid own trees runs)

-- the works of copies of a tree
outer_works-copies : (n : ℕ) (t : Tree) (later : Forest) → outer_works (copies n t later) ≡ n * t.label.work + outer_works later
outer_works-copies zero t later = omega arith
outer_works-copies (suc n) t later = plus_copy t.label.work (outer_works (copies n t later)) n (outer_works later) (outer_works-copies n t later)

outer_paths-copies : (n : ℕ) (t : Tree) (later : Forest) → outer_paths (copies n t later) ≡ n * t.label.path + outer_paths later
outer_paths-copies zero t later = omega arith
outer_paths-copies (suc n) t later = plus_copy t.label.path (outer_paths (copies n t later)) n (outer_paths later) (outer_paths-copies n t later)

pub outer_works-laid : (trees : List Tree) (runs : List Run) → outer_works (laid trees runs) ≡ weighed (λ m. (slice_index_or trees m no_tree).label.work) runs
outer_works-laid trees [] = refl
outer_works-laid trees (run ∷ runs) =
    outer_works-copies run.count (slice_index_or trees run.entry no_tree) (laid trees runs)
    ∙ ap (λ x. run.count * (slice_index_or trees run.entry no_tree).label.work + x) (outer_works-laid trees runs)

pub outer_paths-laid : (trees : List Tree) (runs : List Run) → outer_paths (laid trees runs) ≡ weighed (λ m. (slice_index_or trees m no_tree).label.path) runs
outer_paths-laid trees [] = refl
outer_paths-laid trees (run ∷ runs) =
    outer_paths-copies run.count (slice_index_or trees run.entry no_tree) (laid trees runs)
    ∙ ap (λ x. run.count * (slice_index_or trees run.entry no_tree).label.path + x) (outer_paths-laid trees runs)

-- whatever instances give, each entry gives of its own and what its children give
pub sums_add : (own : Label → Forest → ℕ) (entries : List Entry) → NameEarlier entries → Adds entries (own_of own entries) (all_of own entries)
sums_add own entries earlier n e at =
    let is : tree_at entries n ≡ tree_of (trees_of entries) e = tree_is entries n e at (earlier n e at) in
    ap (λ x. own_of own entries n + x) (nothing_behind (sum_of own (tree_at entries n).inner))
    ∙ ap (λ (t : Tree). own_of own entries n + sum_of own t.inner) is
    ∙ ap (λ x. own_of own entries n + x) (sum_of-laid own (trees_of entries) e.runs)
  where
    nothing_behind : (x : ℕ) → x + 0 ≡ x
    nothing_behind x = omega arith
