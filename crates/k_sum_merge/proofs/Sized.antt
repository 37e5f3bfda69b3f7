-- How many instances the trees of entries have.
use Rattle.std.proofs.Common.{◌≡◌, ℕ, ◌+◌, ◌*◌, ◌<◌, ◌≤◌, ◌⊎◌, inl, inr, Bool, IsTrue, ◌↔◌, List, [], ◌∷◌, ◌++◌, length, get_or, Some, slice_get, refl, sym, ap, ◌∙◌, subst, length-append, arith}
use Rattle.std.proofs.lemmas.Bool.{cases_lt}
use Rattle.std.proofs.lemmas.List.{get_or_append_left, get_or_at}
use Rattle.k_dict_entries.specs.Entries.{NameBelow, NameEarlier, laid, tree_at, tree_of, trees_of}
use Rattle.k_dict_entries.specs.Rules.{entry_of}
use Rattle.k_dict_entries.specs.Trees.{Tree, alone, size}
use Rattle.k_dict_entries.specs.declared.entry.Entry.{Entry}
use Rattle.k_dict_entries.specs.declared.entry.Run.{Run}
use Rattle.k_dict_entries.proofs.EntryTrees.{below_bound, tree_is}
use Rattle.k_dict_saved.specs.Extents.{capped}
use Rattle.k_dict_saved.proofs.RunSums.{size-copies}
use Rattle.k_sum.specs.Laws.{forest_of}
use Rattle.k_sum.specs.declared.sum.Sum.{Sum}
use Rattle.k_sum_merge.specs.Merges.{IsPast}
use Rattle.k_sum_merge.specs.Sizes.{AreSizes, instances_in}
use Rattle.k_sum_order.proofs.OneOrder.{entry_there}

at_least : (a b : ℕ) → 1 ≤ a → b ≤ a * b
at_least a b some = grind arith

-- so many times a number, where that stops at the greatest number of 64 bits
times_capped : (count each more rest : ℕ) → 1 ≤ count → capped more ≡ capped rest → capped (count * capped each + more) ≡ capped (count * each + rest)
times_capped count each more rest some same = elim (cases_lt each 18446744073709551616) [
  | inl small ↦ (let exact : capped each ≡ each = omega arith in
      ap (λ n. capped (count * n + more)) exact ∙ added (count * each) more rest same)
  | inr large ↦ (let one = at_least count (capped each) some in let other = at_least count each some in omega arith)
]
  where
    added : (product more rest : ℕ) → capped more ≡ capped rest → capped (product + more) ≡ capped (product + rest)
    added product more rest same = omega arith

-- what runs have together
pub capped_laid : (entries : List Entry) (high : ℕ) (sizes : List ℕ) → AreSizes entries high sizes → (runs : List Run) → NameBelow high runs
    → capped (instances_in sizes runs) ≡ capped (size (laid (trees_of entries) runs))
capped_laid entries high sizes are [] below = refl
capped_laid entries high sizes are (run ∷ runs) below =
    let t : Tree = tree_at entries run.entry in
    ap (λ n. capped (run.count * n + instances_in sizes runs)) (are.each run.entry below.0)
    ∙ times_capped run.count (size (alone t)) (instances_in sizes runs) (size (laid (trees_of entries) runs)) below.1 (capped_laid entries high sizes are runs below.2)
    ∙ ap capped (sym (size-copies run.count t (laid (trees_of entries) runs)))

-- what runs have together, with that of the first of them counted
pub counted_on : (sizes : List ℕ) (runs rest later : List Run) (run : Run) (count new : ℕ) → rest ≡ run ∷ later → new ≡ capped (count + run.count * get_or sizes run.entry 0)
    → capped (count + instances_in sizes rest) ≡ capped (instances_in sizes runs) → capped (new + instances_in sizes later) ≡ capped (instances_in sizes runs)
counted_on sizes runs rest later run count new is made before =
    ap (λ n. capped (n + instances_in sizes later)) made ∙ goes_on (run.count * get_or sizes run.entry 0) (instances_in sizes later)
    ∙ ap (λ l. capped (count + instances_in sizes l)) (sym is) ∙ before
  where
    goes_on : (more rest : ℕ) → capped (capped (count + more) + rest) ≡ capped (count + (more + rest))
    goes_on more rest = omega arith

-- with all of them counted
pub all_counted : (sizes : List ℕ) (runs rest : List Run) (count : ℕ) → length rest ≡ 0 → count ≤ 18446744073709551615 → capped (count + instances_in sizes rest) ≡ capped (instances_in sizes runs)
    → count ≡ capped (instances_in sizes runs)
all_counted sizes runs [] count none few same = omega arith
all_counted sizes runs (run ∷ rest) count none few same = absurd (omega arith)

module _ (entries : List Entry) (earlier : NameEarlier entries) (n : ℕ) (sizes : List ℕ) (are : AreSizes entries n sizes) (within : n < length entries) where
  abbrev e : Entry
  e = entry_of entries n

  -- the runs of the next entry name those before it
  pub next_below : NameBelow n e.runs
  next_below = below_bound 0 n e.runs (earlier n e (entry_there entries n within))

  next_size : capped (capped (instances_in sizes e.runs) + 1) ≡ capped (size (alone (tree_at entries n)))
  next_size =
      let at : slice_get entries n ≡ Some e = entry_there entries n within in
      let tree : tree_at entries n ≡ tree_of (trees_of entries) e = tree_is entries n e at (earlier n e at) in
      let laid' = capped_laid entries n sizes are e.runs next_below in
      grown (instances_in sizes e.runs) (size (laid (trees_of entries) e.runs)) laid' ∙ ap (λ (t : Tree). capped (size (alone t))) (sym tree)
    where
      grown : (one other : ℕ) → capped one ≡ capped other → capped (capped one + 1) ≡ capped (1 + other + 0)
      grown one other same = omega arith

  -- with the size of the next entry
  pub sizes_more : (new : List ℕ) → new ≡ sizes ++ capped (capped (instances_in sizes e.runs) + 1) ∷ [] → AreSizes entries (n + 1) new
  sizes_more new is =
      let P : List ℕ → Type 0 = AreSizes entries (n + 1) in
      let last : ℕ = capped (capped (instances_in sizes e.runs) + 1) in
      let count = are.count in
      subst P (sym is) (record {
        count = length-append sizes (last ∷ []) ∙ ap (λ k. k + 1) are.count;
        each = λ m less. elim (cases_lt m n) [
          | inl low ↦ get_or_append_left sizes (last ∷ []) 0 m (omega arith) ∙ are.each m low
          | inr high ↦ (let same : m ≡ n = omega arith in
              get_or_at sizes last [] 0 m (are.count ∙ sym same) ∙ next_size ∙ ap (λ k. capped (size (alone (tree_at entries k)))) (sym same))
        ];
      })

-- before the first
pub no_sizes : (entries : List Entry) (sizes : List ℕ) → sizes ≡ [] → AreSizes entries 0 sizes
no_sizes entries sizes none = record { count = ap length none; each = λ n less. absurd (omega arith) }

-- the tests of both limits tell whether a sum is past them
pub past_is : (sum : Sum) (instances : ℕ) → instances ≡ capped (size (forest_of sum)) → (many : Bool)
    → (IsTrue many ↔ ((17592186044416 < sum.work) ⊎ (576460752303423488 < instances))) → IsTrue many ↔ IsPast sum
past_is sum instances is many tells = (
  λ h. elim (tells.0 h) [ inl work ↦ inl work | inr more ↦ inr (omega arith) ],
  λ past. tells.1 (elim past [ inl work ↦ inl work | inr more ↦ inr (omega arith) ]),
)
