-- The trees that entries stand for.
use Rattle.std.proofs.Common.{◌≡◌, ℕ, zero, suc, ◌+◌, ◌<◌, List, [], ◌∷◌, ◌++◌, length, get_or, Some, slice_get, refl, sym, ap, ◌∙◌, subst, arith, append-nil, append_assoc, zero-add, length-append}
use Rattle.std.proofs.lemmas.List.{get_or_append_left, get_or_at}
use Rattle.std.proofs.lemmas.Option.{none-some, same_Some}
use Rattle.k_dict_entries.specs.Trees.{Tree}
use Rattle.k_dict_entries.specs.Entries.{AreRuns, NameBelow, copies, label_of, laid, no_tree, tree_at, tree_of, trees_behind, trees_of}
use Rattle.k_dict_entries.specs.declared.entry.Entry.{Entry}
use Rattle.k_dict_entries.specs.declared.entry.Run.{Run}

-- runs that rise name entries below their bound
pub below_bound : (low high : ℕ) (runs : List Run) → AreRuns low high runs → NameBelow high runs
below_bound low high [] are = tt
below_bound low high (run ∷ runs) are = (are.1, are.2, below_bound (run.entry + 1) high runs are.3)

-- runs stand for the same children where trees follow
pub laid-prefix : (trees more : List Tree) (runs : List Run) → NameBelow (length trees) runs → laid (trees ++ more) runs ≡ laid trees runs
laid-prefix trees more [] are = refl
laid-prefix trees more (run ∷ runs) are =
    ap (λ t. copies run.count t (laid (trees ++ more) runs)) (get_or_append_left trees more no_tree run.entry are.0)
    ∙ ap (copies run.count (get_or trees run.entry no_tree)) (laid-prefix trees more runs are.2)

-- the trees of entries behind those of others
pub trees_begin : (trees : List Tree) (entries : List Entry) → (more : List Tree) × (trees_behind trees entries ≡ trees ++ more) × (length more ≡ length entries)
trees_begin trees [] = ([], sym (append-nil trees), refl)
trees_begin trees (e ∷ entries) =
    let r = trees_begin (trees ++ tree_of trees e ∷ []) entries in
    (tree_of trees e ∷ r.0, r.1 ∙ append_assoc trees (tree_of trees e ∷ []) r.0, ap suc r.2)

-- there are as many trees as entries
pub length-trees : (entries : List Entry) → length (trees_of entries) ≡ length entries
length-trees entries = let r = trees_begin [] entries in ap length r.1 ∙ r.2

tree_first : (trees : List Tree) (d e : Entry) (entries : List Entry) → d ≡ e → NameBelow (length trees) e.runs
    → get_or (trees_behind trees (d ∷ entries)) (length trees) no_tree ≡ tree_of (trees_behind trees (d ∷ entries)) e
tree_first trees d e entries same are =
    let whole : List Tree = trees_behind trees (d ∷ entries) in
    let more = trees_begin (trees ++ tree_of trees d ∷ []) entries in
    let is : whole ≡ trees ++ tree_of trees d ∷ more.0 = more.1 ∙ append_assoc trees (tree_of trees d ∷ []) more.0 in
    let P : Entry → Type 0 = λ x. NameBelow (length trees) x.runs in
    let kept : laid whole d.runs ≡ laid trees d.runs =
    ap (λ l. laid l d.runs) is ∙ laid-prefix trees (tree_of trees d ∷ more.0) d.runs (subst P (sym same) are) in
    let there : get_or whole (length trees) no_tree ≡ tree_of trees d =
    ap (λ l. get_or l (length trees) no_tree) is ∙ get_or_at trees (tree_of trees d) more.0 no_tree (length trees) refl in
    let moved : tree_of trees d ≡ tree_of whole d = λ i. record { label = label_of d; inner = sym kept i } in
    there ∙ moved ∙ ap (tree_of whole) same

tree_behind : (trees : List Tree) (entries : List Entry) (n : ℕ) (e : Entry) → slice_get entries n ≡ Some e → NameBelow (length trees + n) e.runs
    → get_or (trees_behind trees entries) (length trees + n) no_tree ≡ tree_of (trees_behind trees entries) e
tree_behind trees [] n e at are = absurd (none-some e at)
tree_behind trees (d ∷ entries) zero e at are =
    let place : length trees + 0 ≡ length trees = omega arith in
    let P : ℕ → Type 0 = λ k. NameBelow k e.runs in
    ap (λ k. get_or (trees_behind trees (d ∷ entries)) k no_tree) place ∙ tree_first trees d e entries (same_Some d e at) (subst P place are)
tree_behind trees (d ∷ entries) (suc n) e at are =
    let place : length trees + suc n ≡ length (trees ++ tree_of trees d ∷ []) + n = omega (arith, length-append trees (tree_of trees d ∷ [])) in
    let P : ℕ → Type 0 = λ k. NameBelow k e.runs in
    ap (λ k. get_or (trees_behind trees (d ∷ entries)) k no_tree) place
    ∙ tree_behind (trees ++ tree_of trees d ∷ []) entries n e at (subst P place are)

-- the tree of an entry that names earlier ones has the children that its runs stand for
pub tree_named : (entries : List Entry) (n : ℕ) (e : Entry) → slice_get entries n ≡ Some e → NameBelow n e.runs
    → tree_at entries n ≡ tree_of (trees_of entries) e
tree_named entries n e at are =
    let P : ℕ → Type 0 = λ k. NameBelow k e.runs in
    ap (λ k. get_or (trees_of entries) k no_tree) (sym (zero-add n)) ∙ tree_behind [] entries n e at (subst P (sym (zero-add n)) are)

-- .. where they rise too
pub tree_is : (entries : List Entry) (n : ℕ) (e : Entry) → slice_get entries n ≡ Some e → AreRuns 0 n e.runs
    → tree_at entries n ≡ tree_of (trees_of entries) e
tree_is entries n e at are = tree_named entries n e at (below_bound 0 n e.runs are)

-- the trees of entries and one more
pub trees-push : (trees : List Tree) (entries : List Entry) (e : Entry)
    → trees_behind trees (entries ++ e ∷ []) ≡ trees_behind trees entries ++ tree_of (trees_behind trees entries) e ∷ []
trees-push trees [] e = refl
trees-push trees (d ∷ entries) e = trees-push (trees ++ tree_of trees d ∷ []) entries e

-- the trees of entries are kept where entries follow
pub trees-kept : (entries more : List Entry) → (trees : List Tree) × (trees_of (entries ++ more) ≡ trees_of entries ++ trees)
trees-kept entries more = by [] entries more
  where
    by : (trees : List Tree) (entries more : List Entry) → (others : List Tree) × (trees_behind trees (entries ++ more) ≡ trees_behind trees entries ++ others)
    by trees [] more = let r = trees_begin trees more in (r.0, r.1)
    by trees (e ∷ entries) more = by (trees ++ tree_of trees e ∷ []) entries more
