-- A tally's map and its runs.
use Rattle.std.proofs.Common.{◌≡◌, ℕ, ◌+◌, ◌<◌, ◌≤◌, inl, inr, Bool, true, false, cond, List, [], ◌∷◌, None, Some, unwrap_or, map, refl, sym, ap, ◌∙◌, subst, arith, Ordering, lt-ltb, le-ltb, eq-eqb, ne_eqb, nat_lt, ◌==◌, if◌then◌else◌}
use Rattle.std.specs.Ordering.{nat_cmp, match_ordering, is_eq}
use Rattle.std.specs.declared.cmp.Ordering.TheVariants.{Less, Equal, Greater}
use Rattle.std.specs.BTreeMap.{insert_entry, is_at}
use Rattle.std.specs.Map.{lookup, keys_of}
use Rattle.std.specs.Cmp.{nat_cmp_total}
use Rattle.std.specs.List.Sorted.{IsStrictlySortedBy}
use Rattle.std.proofs.lemmas.Bool.{cases_order}
use Rattle.std.proofs.lemmas.Map.{lookup-none}
use Rattle.std.proofs.lemmas.Map.Entries.{lookup_head, lookup_tail, none_below_head}
use Rattle.std.proofs.lemmas.Map.Keys.{sorted_tail}
use Rattle.k_dict_entries.specs.Tallies.{run_of, counted, count_of}
use Rattle.k_dict_entries.specs.declared.entry.Run.{Run}
use Rattle.k_dict_entries.proofs.Counting.{counted-at, counted-before, counted-behind}

cmp-less : (n m : ℕ) → n < m → nat_cmp n m ≡ Less
cmp-less n m less = ap (λ b. cond b Less (cond (n == m) Equal Greater)) (lt-ltb n m less)

cmp-more : (n m : ℕ) → m < n → nat_cmp n m ≡ Greater
cmp-more n m more =
    ap (λ b. cond b Less (cond (n == m) Equal Greater)) (le-ltb n m (omega arith)) ∙ ap (λ b. cond b Equal Greater) (ne_eqb n m (λ same. absurd (omega arith)))

cmp-same : (n m : ℕ) → n ≡ m → nat_cmp n m ≡ Equal
cmp-same n m same =
    ap (λ b. cond b Less (cond (n == m) Equal Greater)) (le-ltb n m (omega arith)) ∙ ap (λ b. cond b Equal Greater) (eq-eqb n m same)

-- the test for a key
abbrev pub is_key : ℕ → ℕ → Bool
is_key n = is_at (nat_cmp n)

-- how often the entry of a key occurs
abbrev pub held : ℕ → List (ℕ × ℕ) → ℕ
held n pairs = unwrap_or (lookup (is_key n) pairs) 0

held-here : (n : ℕ) (e : ℕ × ℕ) (pairs : List (ℕ × ℕ)) → n ≡ e.0 → held n (e ∷ pairs) ≡ e.1
held-here n e pairs same = ap (λ o. unwrap_or o 0) (lookup_head (is_key n) e pairs (ap is_eq (cmp-same n e.0 same)))

held-before : (n : ℕ) (e : ℕ × ℕ) (pairs : List (ℕ × ℕ)) → IsStrictlySortedBy nat_cmp (keys_of (e ∷ pairs)) → n < e.0 → held n (e ∷ pairs) ≡ 0
held-before n e pairs sorted less =
    ap (λ o. unwrap_or o 0) (lookup-none (is_key n) (e ∷ pairs) (none_below_head nat_cmp_total n e pairs sorted (cmp-less n e.0 less)))

held-behind : (n : ℕ) (e : ℕ × ℕ) (pairs : List (ℕ × ℕ)) → e.0 < n → held n (e ∷ pairs) ≡ held n pairs
held-behind n e pairs more = ap (λ o. unwrap_or o 0) (lookup_tail (is_key n) e pairs (ap is_eq (cmp-more n e.0 more)))

module _ (n : ℕ) (run : Run) (runs : List Run) where
  pub count-here : n ≡ run.entry → count_of n (run ∷ runs) ≡ run.count
  count-here same =
      ap (λ b. if b then count_of n runs else (if nat_lt n run.entry then 0 else run.count)) (le-ltb run.entry n (omega arith))
      ∙ ap (λ b. if b then 0 else run.count) (le-ltb n run.entry (omega arith))

  pub count-before : n < run.entry → count_of n (run ∷ runs) ≡ 0
  count-before less =
      ap (λ b. if b then count_of n runs else (if nat_lt n run.entry then 0 else run.count)) (le-ltb run.entry n (omega arith))
      ∙ ap (λ b. if b then 0 else run.count) (lt-ltb n run.entry less)

  pub count-behind : run.entry < n → count_of n (run ∷ runs) ≡ count_of n runs
  count-behind more = ap (λ b. if b then count_of n runs else (if nat_lt n run.entry then 0 else run.count)) (lt-ltb run.entry n more)

-- what the map holds of a key is how often its entry occurs
pub held_is : (n : ℕ) (pairs : List (ℕ × ℕ)) → IsStrictlySortedBy nat_cmp (keys_of pairs) → held n pairs ≡ count_of n (map run_of pairs)
held_is n [] sorted = refl
held_is n (e ∷ pairs) sorted = elim (cases_order n e.0) [
  | inl same ↦ held-here n e pairs same ∙ sym (count-here n (run_of e) (map run_of pairs) same)
  | inr order ↦ elim order [
    | inl less ↦ held-before n e pairs sorted less ∙ sym (count-before n (run_of e) (map run_of pairs) less)
    | inr more ↦ held-behind n e pairs more ∙ held_is n pairs (sorted_tail nat_cmp e.0 (keys_of pairs) sorted)
        ∙ sym (count-behind n (run_of e) (map run_of pairs) more)
  ]
]

-- the map with a count raised has the runs with more children
pub counted_is : (n count : ℕ) (pairs : List (ℕ × ℕ)) → IsStrictlySortedBy nat_cmp (keys_of pairs)
    → map run_of (insert_entry nat_cmp pairs n (count + held n pairs)) ≡ counted n count (map run_of pairs)
counted_is n count [] sorted = let none : count + 0 ≡ count = omega arith in ap (λ m. run_of (n, m) ∷ []) none
counted_is n count (e ∷ pairs) sorted = elim (cases_order n e.0) [
  | inl same ↦ (let v : ℕ = count + held n (e ∷ pairs) in
      ap (λ o. map run_of (match_ordering o ((n, v) ∷ e ∷ pairs) ((e.0, v) ∷ pairs) (e ∷ insert_entry nat_cmp pairs n v))) (cmp-same n e.0 same)
      ∙ ap (λ m. run_of (e.0, count + m) ∷ map run_of pairs) (held-here n e pairs same) ∙ sym (counted-at n count (run_of e) (map run_of pairs) same))
  | inr order ↦ elim order [
    | inl less ↦ (let v : ℕ = count + held n (e ∷ pairs) in let none : count + 0 ≡ count = omega arith in
        ap (λ o. map run_of (match_ordering o ((n, v) ∷ e ∷ pairs) ((e.0, v) ∷ pairs) (e ∷ insert_entry nat_cmp pairs n v))) (cmp-less n e.0 less)
        ∙ ap (λ m. run_of (n, m) ∷ run_of e ∷ map run_of pairs) (ap (λ m. count + m) (held-before n e pairs sorted less) ∙ none)
        ∙ sym (counted-before n count (run_of e) (map run_of pairs) less))
    | inr more ↦ (let v : ℕ = count + held n (e ∷ pairs) in
        ap (λ o. map run_of (match_ordering o ((n, v) ∷ e ∷ pairs) ((e.0, v) ∷ pairs) (e ∷ insert_entry nat_cmp pairs n v))) (cmp-more n e.0 more)
        ∙ ap (λ m. run_of e ∷ map run_of (insert_entry nat_cmp pairs n (count + m))) (held-behind n e pairs more)
        ∙ ap (λ l. run_of e ∷ l) (counted_is n count pairs (sorted_tail nat_cmp e.0 (keys_of pairs) sorted))
        ∙ sym (counted-behind n count (run_of e) (map run_of pairs) more))
  ]
]
