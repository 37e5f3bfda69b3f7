-- The entries that are kept, behind the exit of an instance.
use Rattle.std.proofs.Common.{◌≡◌, ℕ, ◌+◌, ◌<◌, ◌⊎◌, inl, inr, Bool, true, false, cond, nat_lt, ◌||◌, List, [], ◌∷◌, ◌++◌, length, Some, None, slice_get, refl, sym, ap, ◌∙◌, subst, arith, append_assoc, length-append}
use Rattle.std.proofs.lemmas.Bool.{lt-ltb, ltb-true}
use Rattle.std.proofs.lemmas.List.Sums.{sum_by-append}
use Rattle.k_dict_entries.specs.Entries.{AreRuns, all_runs, label_of, laid, trees_of, tree_at}
use Rattle.k_dict_entries.specs.Gathering.{number_of, with_entry}
use Rattle.k_dict_entries.specs.Tallies.{counted}
use Rattle.k_dict_entries.specs.Trees.{Label, Forest, bare, grown, Tree, Alike, further, post_order}
use Rattle.k_dict_entries.specs.declared.entry.Entry.{Entry}
use Rattle.k_dict_entries.specs.declared.entry.Run.{Run}
use Rattle.k_dict_entries.proofs.Coding.{Knows, Knows-kept, code, code_alike, code-kept, code-of_laid, beside-bare, entry_at, laid_counted, tree_alike}
use Rattle.k_dict_entries.proofs.Counting.{AreRuns-counted}
use Rattle.k_dict_entries.proofs.EntryTrees.{below_bound, laid-prefix, length-trees, trees-kept}
use Rattle.k_dict_entries.proofs.Forests.{beside, beside_front, grown_alike, Alike-same, Alike-sym, SameShape-sym}
use Rattle.k_dict_entries.proofs.Numbers.{number_found}
use Rattle.k_dict_entries.proofs.Sound.{AreRuns-wider, longer}
use Rattle.k_dict_entries.proofs.Walking.{closing, has_added}
use Rattle.k_dict_entries.proofs.Walking.{AreEntriesOf as AreSeen}
use Rattle.k_hcpa_meaning.specs.Summed.{AreEntriesOf, AreKept, AreRunsOf, HaveChildren, trees_in}
use Rattle.k_hcpa_meaning.specs.Summing.{Opened, counted_if_kept, is_over, summary_of, with_child, within_limits}
use Rattle.k_hcpa_summed.proofs.Closed.{with_tree}
use Rattle.k_hcpa_summed.proofs.Each.{each_back}
use Rattle.k_hcpa_summed.proofs.Known.{HasShape, all_seen, knows_each}

-- what the walk over a tree knows of entries, and what the meaning says of them
seen_of : (forests : List Forest) (entries : List Entry) → AreEntriesOf forests entries → AreSeen entries (trees_in forests)
seen_of forests entries are =
    record { proper = record { earlier = are.earlier; apart = are.apart }; shapes = are.shapes; firsts = are.firsts; stands = are.stands }

pub told_of : (forests : List Forest) (seen : List Tree) (entries : List Entry) → seen ≡ trees_in forests → AreSeen entries seen → AreEntriesOf forests entries
told_of forests seen entries is are =
    let P : List Tree → Type 0 = AreSeen entries in
    let these : AreSeen entries (trees_in forests) = subst P is are in
    record { shapes = these.shapes; firsts = these.firsts; stands = these.stands; earlier = these.proper.earlier; apart = these.proper.apart }

-- the tree of an instance
abbrev tree_with : Label → Forest → Tree
tree_with label f = record { label = label; inner = f }

-- the trees of forests side by side
post_beside : (f g : Forest) → post_order (beside f g) ≡ post_order f ++ post_order g
post_beside bare g = refl
post_beside (grown x i l) g =
    ap (λ rest. post_order i ++ tree_with x i ∷ rest) (post_beside l g)
    ∙ sym (append_assoc (post_order i) (tree_with x i ∷ post_order l) (post_order g))

-- behind the exit there is one tree more, which is left last
one_more : (label : Label) (f g : Forest) (outer : List Forest)
    → trees_in (f ∷ g ∷ outer) ++ tree_with label f ∷ [] ≡ trees_in (with_tree label f (g ∷ outer))
one_more label f g outer =
    append_assoc (trees_in outer ++ post_order g) (post_order f) (tree_with label f ∷ [])
    ∙ append_assoc (trees_in outer) (post_order g) (post_order f ++ tree_with label f ∷ [])
    ∙ ap (λ rest. trees_in outer ++ rest) (sym (post_beside g (grown label f bare)))

-- the innermost forest is known
knows_first : (f : Forest) (outer : List Forest) (entries : List Entry) → AreEntriesOf (f ∷ outer) entries → Knows entries f
knows_first f outer entries are =
    let seen = seen_of (f ∷ outer) entries are in
    knows_each entries (trees_in (f ∷ outer)) seen f
    (each_back (HasShape seen.shapes) (trees_in outer) (post_order f) (all_seen entries (trees_in (f ∷ outer)) seen))

-- the entries with that of the instance that is left
entries_more : (label : Label) (f g : Forest) (outer : List Forest) (entries : List Entry) → AreEntriesOf (f ∷ g ∷ outer) entries
    → AreEntriesOf (with_tree label f (g ∷ outer)) (with_entry entries (entry_at label (code entries f [])))
entries_more label f g outer entries are =
    told_of (with_tree label f (g ∷ outer)) (trees_in (f ∷ g ∷ outer) ++ tree_with label f ∷ []) (with_entry entries (entry_at label (code entries f [])))
    (one_more label f g outer)
    (closing entries (trees_in (f ∷ g ∷ outer)) (seen_of (f ∷ g ∷ outer) entries are) label f (knows_first f (g ∷ outer) entries are))

-- the runs of a level are those by which its forest is coded
runs_are : (forests : List Forest) (entries : List Entry) → AreEntriesOf forests entries → (f : Forest) (runs : List Run) → AreRunsOf entries f runs
    → code entries f [] ≡ runs
runs_are forests entries are f runs of =
    let seen = seen_of forests entries are in
    sym (code_alike entries (laid (trees_of entries) runs) f of.alike []) ∙ code-of_laid entries seen.proper 0 runs of.rising

-- runs stay those of their forest where entries follow
runs_stay : (entries more : List Entry) (f : Forest) (runs : List Run) → AreRunsOf entries f runs → AreRunsOf (entries ++ more) f runs
runs_stay entries more f runs of =
    let count = length-append entries more in
    let kept = trees-kept entries more in
    let trees = length-trees entries in
    let N : ℕ → Type 0 = λ n. AreRuns 0 n runs in
    let same : laid (trees_of (entries ++ more)) runs ≡ laid (trees_of entries) runs =
    ap (λ list. laid list runs) kept.1
    ∙ laid-prefix (trees_of entries) kept.0 runs (below_bound 0 (length (trees_of entries)) runs (subst N (sym trees) of.rising)) in
    record {
      rising = AreRuns-wider 0 (length entries) (length (entries ++ more)) runs (omega arith) of.rising;
      alike = further (laid (trees_of (entries ++ more)) runs) (laid (trees_of entries) runs) f
          (Alike-same (laid (trees_of (entries ++ more)) runs) (laid (trees_of entries) runs) same) of.alike;
    }

children_stay : (entries more : List Entry) (forests : List Forest) (levels : List Opened) → HaveChildren entries forests levels
    → HaveChildren (entries ++ more) forests levels
children_stay entries more [] levels have = tt
children_stay entries more (f ∷ outer) [] have = tt
children_stay entries more (f ∷ outer) (l ∷ levels) have = (runs_stay entries more f l.runs have.0, children_stay entries more outer levels have.1)

module _ (forests : List Forest) (list : List Entry) (are : AreEntriesOf forests list) (label : Label) (f : Forest) (knows : Knows list f) (n : ℕ)
    (at : slice_get list n ≡ Some (entry_at label (code list f []))) (within : n < length list) where
  -- one child more of this entry
  child_more : (g : Forest) (runs : List Run) → AreRunsOf list g runs → AreRunsOf list (beside g (grown label f bare)) (counted n 1 runs)
  child_more g runs of =
      let trees : List Tree = trees_of list in
      let t : Tree = tree_at list n in
      let seen = seen_of forests list are in
      let one : Alike (laid trees (counted n 1 runs)) (grown t.label t.inner (laid trees runs)) = laid_counted trees n 1 runs in
      let two : Alike (grown t.label t.inner (laid trees runs)) (grown label f g) =
      grown_alike t (tree_with label f) (laid trees runs) g (SameShape-sym (tree_with label f) t (tree_alike list seen.proper label f knows n at)) of.alike in
      let three : Alike (beside g (grown label f bare)) (grown label f g) =
      further (beside g (grown label f bare)) (grown label f (beside g bare)) (grown label f g) (beside_front g label f bare)
      (Alike-same (grown label f (beside g bare)) (grown label f g) (ap (grown label f) (beside-bare g))) in
      record {
        rising = AreRuns-counted 0 (length list) n 1 runs (omega arith) within (omega arith) of.rising;
        alike = further (laid trees (counted n 1 runs)) (grown t.label t.inner (laid trees runs)) (beside g (grown label f bare)) one
            (further (grown t.label t.inner (laid trees runs)) (grown label f g) (beside g (grown label f bare)) two
            (Alike-sym (beside g (grown label f bare)) (grown label f g) three));
      }

  children_more : (g : Forest) (outer : List Forest) (levels : List Opened) → HaveChildren list (g ∷ outer) levels
      → HaveChildren list (with_tree label f (g ∷ outer)) (with_child n levels)
  children_more g outer [] have = tt
  children_more g outer (l ∷ levels) have = (child_more g l.runs have.0, have.1)

-- one of two tests is true
either : (a b : Bool) → (a || b) ≡ true → (a ≡ true) ⊎ (b ≡ true)
either true b is = inl refl
either false b is = inr is

or_first : (a b : Bool) → a ≡ true → (a || b) ≡ true
or_first true b is = refl
or_first false b is = cc

or_second : (a b : Bool) → b ≡ true → (a || b) ≡ true
or_second true b is = refl
or_second false b is = is

-- the limits once passed stay passed
over_stays : (entries more : List Entry) → is_over entries ≡ true → is_over (entries ++ more) ≡ true
over_stays entries more over = elim (either (nat_lt 1048576 (length entries)) (nat_lt 16777216 (all_runs entries)) over) [
  | inl many ↦ (let size = length-append entries more in let passed = ltb-true 1048576 (length entries) many in
      or_first (nat_lt 1048576 (length (entries ++ more))) (nat_lt 16777216 (all_runs (entries ++ more))) (lt-ltb 1048576 (length (entries ++ more)) (omega arith)))
  | inr many ↦ (let size : all_runs (entries ++ more) ≡ all_runs entries + all_runs more = sum_by-append (λ e. length e.runs) entries more in
      let passed = ltb-true 16777216 (all_runs entries) many in
      or_second (nat_lt 1048576 (length (entries ++ more))) (nat_lt 16777216 (all_runs (entries ++ more))) (lt-ltb 16777216 (all_runs (entries ++ more)) (omega arith)))
]

-- within the limits the entries are kept, and the children counted; past them no more
by_limit : (forests : List Forest) (list : List Entry) (number : ℕ) (levels : List Opened) (over : Bool) → is_over list ≡ over → AreEntriesOf forests list
    → HaveChildren list forests (with_child number levels)
    → AreKept forests (counted_if_kept (cond over None (Some list)) number levels) (cond over None (Some list))
by_limit forests list number levels true is are have = (list, are, is)
by_limit forests list number levels false is are have = (are, is, have)

-- an instance is left while the entries are kept
pub left_kept : (f g : Forest) (outer : List Forest) (l : Opened) (levels : List Opened) (entries : List Entry) (work path : ℕ)
    → AreKept (f ∷ g ∷ outer) (l ∷ levels) (Some entries)
    → AreKept (with_tree (label_of (summary_of l work path)) f (g ∷ outer))
    (counted_if_kept (within_limits (with_entry entries (summary_of l work path))) (number_of entries (summary_of l work path)) levels)
    (within_limits (with_entry entries (summary_of l work path)))
left_kept f g outer l levels entries work path kept =
    let e : Entry = summary_of l work path in
    let label : Label = label_of e in
    let forests : List Forest = with_tree label f (g ∷ outer) in
    let list : List Entry = with_entry entries e in
    let number : ℕ = number_of entries e in
    let coded : code entries f [] ≡ l.runs = runs_are (f ∷ g ∷ outer) entries kept.0 f l.runs kept.2.0 in
    let same : entry_at label (code entries f []) ≡ e = ap (entry_at label) coded in
    let P : Entry → Type 0 = λ d. AreEntriesOf forests (with_entry entries d) in
    let are : AreEntriesOf forests list = subst P same (entries_more label f g outer entries kept.0) in
    let added = has_added entries e in
    let knows_before = knows_first f (g ∷ outer) entries kept.0 in
    let K : List Entry → Type 0 = λ es. Knows es f in
    let knows : Knows list f = subst K (sym added.kept) (Knows-kept entries added.more f knows_before) in
    let C : List Entry → Type 0 = λ es. code es f [] ≡ l.runs in
    let coded_now : code list f [] ≡ l.runs = subst C (sym added.kept) (code-kept entries added.more f knows_before [] ∙ coded) in
    let S : Entry → Type 0 = λ d. slice_get list number ≡ Some d in
    let N : ℕ → Type 0 = λ n. slice_get list n ≡ Some e in
    let found : slice_get list number ≡ Some e = subst N added.number (number_found list e added.there.0 added.there.1) in
    let at : slice_get list number ≡ Some (entry_at label (code list f [])) = subst S (sym (ap (entry_at label) coded_now)) found in
    let have : HaveChildren list (g ∷ outer) levels =
    (let H : List Entry → Type 0 = λ es. HaveChildren es (g ∷ outer) levels in
    subst H (sym added.kept) (children_stay entries added.more (g ∷ outer) levels kept.2.1)) in
    by_limit forests list number levels (is_over list) refl are
    (children_more forests list are label f knows number at (longer entries e).1 g outer levels have)

-- and while they are over the limits
pub left_over : (label : Label) (f g : Forest) (outer : List Forest) (levels more : List Opened) → AreKept (f ∷ g ∷ outer) more None
    → AreKept (with_tree label f (g ∷ outer)) levels None
left_over label f g outer levels more kept =
    let e : Entry = entry_at label (code kept.0 f []) in
    let added = has_added kept.0 e in
    let O : List Entry → Type 0 = λ es. is_over es ≡ true in
    (with_entry kept.0 e, entries_more label f g outer kept.0 kept.1, subst O (sym added.kept) (over_stays kept.0 added.more kept.2))
