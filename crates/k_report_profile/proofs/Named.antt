-- The rows and the contexts of a profile name its regions.
use Rattle.std.proofs.Common.{◌≡◌, ℕ, zero, suc, ◌+◌, ◌<◌, ◌==◌, inl, inr, List, [], ◌∷◌, ◌++◌, length, get_or, Option, Some, None, slice_get, refl, sym, ap, ◌∙◌, subst, arith}
use Rattle.std.specs.Prelude.{All, option_map}
use Rattle.std.proofs.lemmas.Bool.{cases_eq, cases_lt, cond-false, ne_eqb}
use Rattle.std.proofs.lemmas.List.Elements.{All-append, All-cons, All-from_get_or, All-nil}
use Rattle.std.proofs.lemmas.Option.{none-some, slice_get-get_or, slice_get_within}
use Rattle.k_optab.specs.declared.region.Region.{Region}
use Rattle.k_optab.specs.declared.region.RegionKind.{RegionKind}
use Rattle.k_dict_entries.specs.Trees.{Forest, Tree, alone, bare, grown, list_of, nodes_of}
use Rattle.k_dict_entries.specs.Entries.{AreRuns, NameEarlier, copies, laid, no_tree, tree_at, trees_of}
use Rattle.k_dict_entries.specs.Rules.{NameRegions, entry_of, no_entry}
use Rattle.k_dict_entries.specs.declared.entry.Entry.{Entry}
use Rattle.k_dict_entries.specs.declared.entry.Run.{Run}
use Rattle.k_dict_entries.proofs.EntryTrees.{tree_is}
use Rattle.k_selfpar.specs.Contexts.{AreUnder, group, none}
use Rattle.k_selfpar.specs.Rows.{AreRows, IsRow, of_region}
use Rattle.k_selfpar.specs.Sums.{one, sum_of, within}
use Rattle.k_selfpar.specs.declared.context.Context.{Context}
use Rattle.k_selfpar.specs.declared.row.Row.{Row}
use Rattle.k_selfpar.proofs.Listed.{gross_is_sum, length_is_gross}

-- each instance of a forest is of one of so many regions
abbrev pub AreNamed : ℕ → Forest → Type 0
AreNamed count bare = Unit {0}
AreNamed count (grown label inner later) = (label.region < count) × AreNamed count inner × AreNamed count later

named_copies : (count n : ℕ) (t : Tree) (later : Forest) → AreNamed count (alone t) → AreNamed count later → AreNamed count (copies n t later)
named_copies count zero t later is rest = rest
named_copies count (suc n) t later is rest = (is.0, is.1, named_copies count n t later is rest)

-- each instance of trees that runs name is, where that is so of the trees
pub named_laid : (count : ℕ) (trees : List Tree) (low high : ℕ) (runs : List Run) → AreRuns low high runs
    → ((m : ℕ) → m < high → AreNamed count (alone (get_or trees m no_tree))) → AreNamed count (laid trees runs)
named_laid count trees low high [] are each = tt
named_laid count trees low high (run ∷ runs) are each =
    named_copies count run.count (get_or trees run.entry no_tree) (laid trees runs) (each run.entry are.1)
    (named_laid count trees (run.entry + 1) high runs are.3 each)

module _ (count : ℕ) (entries : List Entry) (earlier : NameEarlier entries) (names : NameRegions count entries) where
  named_below : (bound n : ℕ) → n < bound → n < length entries → AreNamed count (alone (tree_at entries n))
  named_below zero n less lt = absurd (omega arith)
  named_below (suc bound) n less lt =
      let e : Entry = entry_of entries n in
      let at : slice_get entries n ≡ Some e = slice_get-get_or entries n no_entry lt in
      subst (λ (t : Tree). AreNamed count (alone t)) (sym (tree_is entries n e at (earlier n e at))) (
        names n e at,
        named_laid count (trees_of entries) 0 n e.runs (earlier n e at) (λ m before. named_below bound m (omega arith) (omega arith)),
        tt,
      )

  -- each instance of an entry's tree is
  pub named_tree : (n : ℕ) → n < length entries → AreNamed count (alone (tree_at entries n))
  named_tree n lt = named_below (suc n) n (omega arith) lt

-- a region that has an instance is one of these
occurs : (count region : ℕ) (f : Forest) → AreNamed count f → 0 < sum_of (within region one) f → region < count
occurs count region bare named lt = absurd (omega arith)
occurs count region (grown label inner later) named lt = elim (cases_eq label.region region) [
  | inl same ↦ (let here : label.region < count = named.0 in omega arith)
  | inr other ↦
      (let nothing : within region one label inner ≡ 0 = cond-false (label.region == region) 1 0 (ne_eqb label.region region other) in
      elim (cases_lt 0 (sum_of (within region one) inner)) [
        | inl some ↦ occurs count region inner named.1 some
        | inr less ↦ occurs count region later named.2 (omega (arith, lt, nothing, less))
      ])
]

-- each row of a forest names one of its regions
pub rows_named_in : (count : ℕ) (f : Forest) (rows : List Row) → AreNamed count f → AreRows (nodes_of 0 f) rows → All (λ (row : Row). row.region < count) rows
rows_named_in count f [] named are = All-nil (λ (row : Row). row.region < count)
rows_named_in count f (row ∷ rows) named are =
    All-from_get_or (λ (r : Row). r.region < count) (row ∷ rows) row (λ i lt. one_named i (get_or (row ∷ rows) i row) (slice_get-get_or (row ∷ rows) i row lt))
  where
    one_named : (i : ℕ) (r : Row) → slice_get (row ∷ rows) i ≡ Some r → r.region < count
    one_named i r at =
        let is : IsRow (nodes_of 0 f) r = are.each i r at in
        let some : 0 < r.instances = is.some in
        let instances : r.instances ≡ length (of_region r.region (nodes_of 0 f)) = is.instances in
        let sum : length (of_region r.region (nodes_of 0 f)) ≡ sum_of (within r.region one) f =
        length_is_gross r.region (nodes_of 0 f) ∙ gross_is_sum r.region (λ n. 1) (λ l. 1) (λ d l. refl) f 0 in
        occurs count r.region f named (omega (arith, some, instances, sum))

-- and each row of a tree
pub rows_named : (count : ℕ) (t : Tree) (rows : List Row) → AreNamed count (alone t) → AreRows (list_of t) rows → All (λ (row : Row). row.region < count) rows
rows_named count t rows named are = rows_named_in count (alone t) rows named are

-- a region of a known kind is one of the list
known : (regions : List Region) (region : ℕ) (kind : RegionKind) (found : Option Region) → slice_get regions region ≡ found
    → option_map (λ (r : Region). r.kind) found ≡ Some kind → region < length regions
known regions region kind None at is = absurd (none-some kind is)
known regions region kind (Some r) at is = slice_get_within regions region r at

-- each context names one of the regions
pub contexts_named : (regions : List Region) (parent number : ℕ) (f : Forest) (cs : List Context) → AreUnder regions parent number f cs
    → All (λ (c : Context). c.region < length regions) cs
contexts_named regions parent number _ _ (none _ _ _) = All-nil (λ (c : Context). c.region < length regions)
contexts_named regions parent number f _ (group _ _ _ region _ c below later some least is under behind) =
    let here : region < length regions = known regions region c.kind (slice_get regions region) refl is.kind in
    let same : c.region ≡ region = is.region_is in
    All-cons (λ (d : Context). d.region < length regions) c (below ++ later) (omega (arith, here, same))
    (All-append (λ (d : Context). d.region < length regions) below later
    (contexts_named regions number (number + 1) _ below under)
    (contexts_named regions parent ((number + 1) + length below) _ later behind))
