-- What the rules on entries keep where an entry is added, and that the entries before one are enough for its own rules.
use Rattle.std.proofs.Common.{◌≡◌, ℕ, ◌+◌, ◌*◌, ◌<◌, ◌≤◌, ◌⊎◌, inl, inr, List, [], ◌∷◌, ◌++◌, length, get_or, refl, sym, ap, ◌∙◌, subst, arith, length-append}
use Rattle.std.proofs.lemmas.List.{get_or_append_left, get_or_at}
use Rattle.std.proofs.lemmas.Bool.{cases_lt}
use Rattle.std.proofs.lemmas.Option.{none-some, slice_get_within}
use Rattle.k_dict_entries.specs.Entries.{AreRuns, NameBelow, no_tree, tree_at, tree_of, trees_of}
use Rattle.k_dict_saved.specs.Formats.{AreRunsOf, HaveRuns}
use Rattle.k_dict_saved.specs.Lines.{IsNextEntry}
use Rattle.k_dict_saved.specs.Reading.{HaveRules}
use Rattle.k_dict_entries.specs.Rules.{HasBoundedNumbers, HavePathsUpTo, child_paths, child_works, entry_of, no_entry}
use Rattle.k_dict_entries.specs.Trees.{Tree, alone, height, size}
use Rattle.k_dict_entries.specs.declared.entry.Entry.{Entry}
use Rattle.k_dict_entries.specs.declared.entry.Run.{Run}
use Rattle.k_dict_saved.specs.declared.format.Format.{Format}
use Rattle.k_dict_saved.specs.declared.format.Format.TheVariants.{One, Two}
use Rattle.k_dict_entries.proofs.EntryTrees.{below_bound, length-trees, trees-push}
use Rattle.k_dict_entries.proofs.Places.{place_of_push}

-- runs that rise are no more than their bound
pub few_bound : (low high : ℕ) (runs : List Run) → low ≤ high → AreRuns low high runs → low + length runs ≤ high
few_bound low high [] fits are = omega arith
few_bound low high (run ∷ runs) fits are =
    let above = are.0 in let under = are.1 in let more = few_bound (run.entry + 1) high runs (omega arith) are.3 in omega arith

-- runs of either format name entries below their bound
pub below_of : (format : Format) (high : ℕ) (runs : List Run) → AreRunsOf format high runs → NameBelow high runs
below_of One high runs are = are.0
below_of Two high runs are = below_bound 0 high runs are

-- and are not too many
pub few_of : (format : Format) (high : ℕ) (runs : List Run) → high ≤ 1048576 → AreRunsOf format high runs → length runs ≤ 1048576
few_of One high runs most are = are.2
few_of Two high runs most are = let few = few_bound 0 high runs (omega arith) are in omega arith

-- entries have runs of their format with one more that has
pub HaveRuns-push : (format : Format) (entries : List Entry) (e : Entry) → HaveRuns format entries → AreRunsOf format (length entries) e.runs
    → HaveRuns format (entries ++ e ∷ [])
HaveRuns-push format entries e have are n x h = elim (place_of_push entries e n x h) [
  | inl k ↦ have n x k
  | inr k ↦ let P : ℕ → Type 0 = λ m. AreRunsOf format m x.runs in let Q : Entry → Type 0 = λ y. AreRunsOf format (length entries) y.runs in
      subst P (sym k.0) (subst Q (sym k.1) are)
]

module _ (entries more : List Entry) where
  same_works : (runs : List Run) → NameBelow (length entries) runs → child_works (entries ++ more) runs ≡ child_works entries runs
  same_works [] below = refl
  same_works (run ∷ runs) below =
      let here : entry_of (entries ++ more) run.entry ≡ entry_of entries run.entry = get_or_append_left entries more no_entry run.entry below.0 in
      λ i. run.count * (here i).work + same_works runs below.2 i

  same_paths : (runs : List Run) → NameBelow (length entries) runs → child_paths (entries ++ more) runs ≡ child_paths entries runs
  same_paths [] below = refl
  same_paths (run ∷ runs) below =
      let here : entry_of (entries ++ more) run.entry ≡ entry_of entries run.entry = get_or_append_left entries more no_entry run.entry below.0 in
      λ i. run.count * (here i).path + same_paths runs below.2 i

  paths_up : (path : ℕ) (runs : List Run) → NameBelow (length entries) runs → HavePathsUpTo path entries runs → HavePathsUpTo path (entries ++ more) runs
  paths_up path [] below are = tt
  paths_up path (run ∷ runs) below are =
      let here : entry_of (entries ++ more) run.entry ≡ entry_of entries run.entry = get_or_append_left entries more no_entry run.entry below.0 in
      let P : Entry → Type 0 = λ e. e.path ≤ path in (subst P (sym here) are.0, paths_up path runs below.2 are.1)

  paths_down : (path : ℕ) (runs : List Run) → NameBelow (length entries) runs → HavePathsUpTo path (entries ++ more) runs → HavePathsUpTo path entries runs
  paths_down path [] below are = tt
  paths_down path (run ∷ runs) below are =
      let here : entry_of (entries ++ more) run.entry ≡ entry_of entries run.entry = get_or_append_left entries more no_entry run.entry below.0 in
      let P : Entry → Type 0 = λ e. e.path ≤ path in (subst P here are.0, paths_down path runs below.2 are.1)

  -- numbers that are bounded stay so where entries follow
  pub numbers_up : (e : Entry) → NameBelow (length entries) e.runs → HasBoundedNumbers entries e → HasBoundedNumbers (entries ++ more) e
  numbers_up e below has =
      let works = same_works e.runs below in let paths = same_paths e.runs below in
      let part = has.part in let parts = has.parts in
      record { most = has.most; part = omega arith; work = has.work; child = paths_up e.path e.runs below has.child; parts = omega arith }

  -- and were so before they did
  pub numbers_down : (e : Entry) → NameBelow (length entries) e.runs → HasBoundedNumbers (entries ++ more) e → HasBoundedNumbers entries e
  numbers_down e below has =
      let works = same_works e.runs below in let paths = same_paths e.runs below in
      let part = has.part in let parts = has.parts in
      record { most = has.most; part = omega arith; work = has.work; child = paths_down e.path e.runs below has.child; parts = omega arith }

-- the tree of an entry stays where an entry follows
kept_tree : (entries : List Entry) (e : Entry) (n : ℕ) → n < length entries → tree_at (entries ++ e ∷ []) n ≡ tree_at entries n
kept_tree entries e n less =
    let count = length-trees entries in
    ap (λ l. get_or l n no_tree) (trees-push [] entries e)
    ∙ get_or_append_left (trees_of entries) (tree_of (trees_of entries) e ∷ []) no_tree n (omega arith)

-- the tree of the entry that was added
pub added_tree : (entries : List Entry) (e : Entry) → tree_at (entries ++ e ∷ []) (length entries) ≡ tree_of (trees_of entries) e
added_tree entries e =
    ap (λ l. get_or l (length entries) no_tree) (trees-push [] entries e)
    ∙ get_or_at (trees_of entries) (tree_of (trees_of entries) e) [] no_tree (length entries) (length-trees entries)

-- the rules hold of no entries
pub no_rules : (regions : ℕ) → HaveRules regions []
no_rules regions = record {
  numbers = λ n e h. absurd (none-some e h);
  levels = λ n less. absurd (omega arith);
  instances = λ n less. absurd (omega arith);
  in_list = λ n e h. absurd (none-some e h);
}

-- and of one more that may stand behind them
pub rules_more : (format : Format) (regions : ℕ) (entries : List Entry) (e : Entry) → HaveRuns format entries → HaveRules regions entries → IsNextEntry format regions entries e
    → HaveRules regions (entries ++ e ∷ [])
rules_more format regions entries e runs have next = record {
  numbers = λ n x h. elim (place_of_push entries e n x h) [
    | inl k ↦ (let within = slice_get_within entries n x k in
        numbers_up entries (e ∷ []) x (lower n (length entries) x.runs (omega arith) (below_of format n x.runs (runs n x k))) (have.numbers n x k))
    | inr k ↦ (let P : Entry → Type 0 = HasBoundedNumbers (entries ++ e ∷ []) in
        subst P (sym k.1) (numbers_up entries (e ∷ []) e (below_of format (length entries) e.runs next.runs) next.numbers))
  ];
  levels = λ n less. elim (last_or n less) [
    | inl k ↦ (let P : Tree → Type 0 = λ t. height (alone t) ≤ 32 in subst P (sym (kept_tree entries e n k)) (have.levels n k))
    | inr k ↦ (let P : Tree → Type 0 = λ t. height (alone t) ≤ 32 in subst P (sym (ap (tree_at (entries ++ e ∷ [])) k ∙ added_tree entries e)) next.levels)
  ];
  instances = λ n less. elim (last_or n less) [
    | inl k ↦ (let P : Tree → Type 0 = λ t. size (alone t) ≤ 576460752303423488 in subst P (sym (kept_tree entries e n k)) (have.instances n k))
    | inr k ↦ (let P : Tree → Type 0 = λ t. size (alone t) ≤ 576460752303423488 in
        subst P (sym (ap (tree_at (entries ++ e ∷ [])) k ∙ added_tree entries e)) next.instances)
  ];
  in_list = λ n x h. elim (place_of_push entries e n x h) [
    | inl k ↦ have.in_list n x k
    | inr k ↦ (let P : Entry → Type 0 = λ y. y.region < regions in subst P (sym k.1) next.region)
  ];
}
  where
    lower : (n m : ℕ) (runs : List Run) → n ≤ m → NameBelow n runs → NameBelow m runs
    lower n m [] le below = tt
    lower n m (run ∷ runs) le below = let here = below.0 in (omega arith, below.1, lower n m runs le below.2)

    last_or : (n : ℕ) → n < length (entries ++ e ∷ []) → (n < length entries) ⊎ (n ≡ length entries)
    last_or n less = let count = length-append entries (e ∷ []) in elim (cases_lt n (length entries)) [ inl k ↦ inl k | inr k ↦ inr (omega arith) ]
