-- Lines that are written one behind the other.
use Rattle.std.proofs.Common.{◌≡◌, ℕ, ◌+◌, ◌<◌, ◌≤◌, List, [], ◌∷◌, ◌++◌, length, drop, get_or, Some, slice_get, refl, ap, sym, subst, ◌∙◌, append_assoc, append-nil}
use Rattle.std.proofs.lemmas.List.{drop_all, drop_more}
use Rattle.std.proofs.lemmas.Option.{get_or_from_slice_get, slice_get_within}
use Rattle.k_optab.specs.Events.{Operation}
use Rattle.k_dict_entries.specs.declared.entry.Entry.{Entry}
use Rattle.k_graph.specs.declared.tree.Instance.{Instance}
use Rattle.k_report.specs.DictLines.{entry_line, entry_lines}
use Rattle.k_report.specs.Graph.{AreInstanceLines, IsHeaviestPath, instance_line}
use Rattle.k_report.specs.Writing.{AddsInstanceLines}

-- what is left of a list from an item on
pub drop_found : {X : Type 0} (xs : List X) (k : ℕ) (x : X) → slice_get xs k ≡ Some x → drop k xs ≡ x ∷ drop (k + 1) xs
drop_found xs k x h = drop_more xs k x (slice_get_within xs k x h) ∙ ap (λ y. y ∷ drop (k + 1) xs) (get_or_from_slice_get xs k x x h)

-- the line of an entry more
pub entry_added : (entries : List Entry) (k : ℕ) (e : Entry) (text new rest : List ℕ) → slice_get entries k ≡ Some e → new ≡ text ++ entry_line k e
    → text ++ entry_lines k (drop k entries) ≡ rest → new ++ entry_lines (k + 1) (drop (k + 1) entries) ≡ rest
entry_added entries k e text new rest found is so_far =
    ap (λ t. t ++ entry_lines (k + 1) (drop (k + 1) entries)) is ∙ append_assoc text (entry_line k e) (entry_lines (k + 1) (drop (k + 1) entries))
    ∙ ap (λ l. text ++ entry_lines k l) (sym (drop_found entries k e found)) ∙ so_far

-- the line of an instance more
pub instance_added : (ops : List Operation) (tree : List Instance) (k : ℕ) (d : Instance) (nodes slice old text new : List ℕ) → k < length tree
    → IsHeaviestPath ops (get_or tree k d) nodes → slice ≡ nodes → new ≡ text ++ instance_line k (get_or tree k d) slice
    → ((later : List ℕ) → AreInstanceLines ops k (drop k tree) later → AddsInstanceLines ops tree old (text ++ later))
    → (later : List ℕ) → AreInstanceLines ops (k + 1) (drop (k + 1) tree) later → AddsInstanceLines ops tree old (new ++ later)
instance_added ops tree k d nodes slice old text new within chosen lent is so_far later are =
    let n : Instance = get_or tree k d in
    let here : AreInstanceLines ops k (n ∷ drop (k + 1) tree) (instance_line k n nodes ++ later) = (nodes, later, chosen, are, refl) in
    let line : new ≡ text ++ instance_line k n nodes = is ∙ ap (λ l. text ++ instance_line k n l) lent in
    let same : text ++ (instance_line k n nodes ++ later) ≡ new ++ later = sym (append_assoc text (instance_line k n nodes) later) ∙ ap (λ t. t ++ later) (sym line) in
    subst (λ t. AddsInstanceLines ops tree old t) same
    (so_far (instance_line k n nodes ++ later) (subst (λ l. AreInstanceLines ops k l (instance_line k n nodes ++ later)) (sym (drop_more tree k d within)) here))

-- no instance is left
pub instances_end : (ops : List Operation) (tree : List Instance) (k : ℕ) (old text : List ℕ) → length tree ≤ k
    → ((later : List ℕ) → AreInstanceLines ops k (drop k tree) later → AddsInstanceLines ops tree old (text ++ later)) → AddsInstanceLines ops tree old text
instances_end ops tree k old text past so_far =
    let here : AreInstanceLines ops k [] [] = refl in
    subst (λ t. AddsInstanceLines ops tree old t) (append-nil text) (so_far [] (subst (λ l. AreInstanceLines ops k l []) (sym (drop_all k tree past)) here))
