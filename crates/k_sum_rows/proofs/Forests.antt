-- What the trees of runs give.
use Rattle.std.proofs.Common.{◌≡◌, ℕ, zero, suc, ◌+◌, ◌*◌, ◌==◌, List, [], ◌∷◌, slice_index_or, refl, ap, ◌∙◌, arith, suc-mul, if◌then◌else◌}
use Rattle.k_dict_entries.specs.Entries.{copies, laid, no_tree, trees_of}
use Rattle.k_dict_entries.specs.Trees.{Alike, Forest, Label, Tree, alone, bare, both, exchanged, further, grown, neither}
use Rattle.k_dict_entries.specs.declared.entry.Entry.{Entry}
use Rattle.k_dict_entries.specs.declared.entry.Run.{Run}
use Rattle.k_selfpar.specs.Counts.{weighed}
use Rattle.k_selfpar.specs.Sums.{all_of, sum_of, within}
use Rattle.k_sum.specs.Laws.{together}
use Rattle.k_sum_rows.specs.Runs.{run_trees}

sum_of-copies : (own : Label → Forest → ℕ) (n : ℕ) (t : Tree) (later : Forest) → sum_of own (copies n t later) ≡ n * sum_of own (alone t) + sum_of own later
sum_of-copies own zero t later = omega arith
sum_of-copies own (suc n) t later =
    let more = sum_of-copies own n t later in omega (arith, more, suc-mul n (sum_of own (alone t)))

-- what the trees of runs give is what the trees of their roots give, each as often as it is one
pub gives_trees : (own : Label → Forest → ℕ) (entries : List Entry) (roots : List Run) → sum_of own (run_trees entries roots) ≡ weighed (all_of own entries) roots
gives_trees own entries [] = refl
gives_trees own entries (root ∷ roots) =
    sum_of-copies own root.count (slice_index_or (trees_of entries) root.entry no_tree) (laid (trees_of entries) roots)
    ∙ ap (λ x. root.count * all_of own entries root.entry + x) (gives_trees own entries roots)

-- trees beside others
pub sum_together : (own : Label → Forest → ℕ) (f g : Forest) → sum_of own (together f g) ≡ sum_of own f + sum_of own g
sum_together own bare g = omega arith
sum_together own (grown x i l) g = let more = sum_together own l g in omega arith

-- alike trees give the same, where alike children change nothing
pub sum_alike : (own : Label → Forest → ℕ) → ((x : Label) (i j : Forest) → Alike i j → own x i ≡ own x j) → (f g : Forest) → Alike f g → sum_of own f ≡ sum_of own g
sum_alike own same _ _ neither = let P : sum_of own bare ≡ sum_of own bare = refl in P
sum_alike own same _ _ (both x i i' l l' inner later) =
    let a = same x i i' inner in let b = sum_alike own same i i' inner in let c = sum_alike own same l l' later in omega arith
sum_alike own same _ _ (exchanged x y i j l) = turned (own x i) (sum_of own i) (own y j) (sum_of own j) (sum_of own l)
  where
    turned : (a b c d e : ℕ) → a + (b + (c + (d + e))) ≡ c + (d + (a + (b + e)))
    turned a b c d e = omega arith
sum_alike own same _ _ (further f g h first second) = sum_alike own same f g first ∙ sum_alike own same g h second

pub within_alike : (region : ℕ) (own : Label → Forest → ℕ) → ((x : Label) (i j : Forest) → Alike i j → own x i ≡ own x j) → (f g : Forest) → Alike f g
    → sum_of (within region own) f ≡ sum_of (within region own) g
within_alike region own same =
    sum_alike (within region own) (λ x i j are. ap (λ n. if x.region == region then n else 0) (same x i j are))
