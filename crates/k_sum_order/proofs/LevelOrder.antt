-- Levels of entries, and that entries of lower levels come first.
use Rattle.std.proofs.Common.{◌≡◌, ℕ, zero, suc, ◌+◌, ◌<◌, ◌≤◌, inl, inr, max, List, [], ◌∷◌, ◌++◌, length, get_or, refl, sym, ap, ◌∙◌, subst, arith, length-append}
use Rattle.std.proofs.lemmas.Bool.{cases_lt}
use Rattle.std.proofs.lemmas.List.{get_or_append_left, get_or_at}
use Rattle.k_dict_entries.specs.Entries.{NameBelow, NameEarlier}
use Rattle.k_dict_entries.specs.Rules.{entry_of}
use Rattle.k_dict_entries.specs.declared.entry.Entry.{Entry}
use Rattle.k_dict_entries.specs.declared.entry.Run.{Run}
use Rattle.k_dict_entries.proofs.EntryTrees.{below_bound}
use Rattle.k_dict_saved.specs.Formats.{Names}
use Rattle.k_sum_order.specs.Order.{ComesBefore, behind}
use Rattle.k_sum_order.specs.Placing.{AreLevels, AreOrderedTo, Ordering, entry_with, level_over}
use Rattle.k_sum_order.proofs.Comparing.{fewer_before, place_before}
use Rattle.k_sum_order.proofs.Naming.{EachNamed, behind_below, behind_named, each_below, each_both, each_more}
use Rattle.k_sum_order.proofs.OneOrder.{entry_there}

-- ---- finding the levels

pub level_kept : (levels more : List ℕ) (runs : List Run) → NameBelow (length levels) runs → level_over (levels ++ more) runs ≡ level_over levels runs
level_kept levels more [] below = refl
level_kept levels more (run ∷ runs) below =
    let first : get_or (levels ++ more) run.entry 0 ≡ get_or levels run.entry 0 = get_or_append_left levels more 0 run.entry below.0 in
    let rest = level_kept levels more runs below.2 in
    λ i. max (first i + 1) (rest i)

pub level_low : (levels : List ℕ) (high : ℕ) (runs : List Run) → ((n : ℕ) → get_or levels n 0 ≤ n) → NameBelow high runs → level_over levels runs ≤ high
level_low levels high [] low below = omega arith
level_low levels high (run ∷ runs) low below =
    let one = low run.entry in let less : run.entry < high = below.0 in let rest = level_low levels high runs low below.2 in omega arith

-- where the finding of levels stands: the first entries have theirs
pub record Leveling (entries : List Entry) (levels : List ℕ) (count : ℕ) : Type 0 where
  pub count_is : length levels ≡ count
  pub each : (n : ℕ) → n < count → get_or levels n 0 ≡ level_over levels (entry_of entries n).runs
  pub low : (n : ℕ) → get_or levels n 0 ≤ n

module _ (entries : List Entry) (levels : List ℕ) (count : ℕ) (at : Leveling entries levels count) (earlier : NameEarlier entries) (within : count < length entries) where
  abbrev e : Entry
  e = entry_of entries count

  pub level_below : NameBelow count e.runs
  level_below = below_bound 0 count e.runs (earlier count e (entry_there entries count within))

  abbrev level : ℕ
  level = level_over levels e.runs

  behind_end : (n : ℕ) (xs : List ℕ) (x : ℕ) → length xs < n → get_or (xs ++ x ∷ []) n 0 ≡ 0
  behind_end zero xs x less = absurd (omega arith)
  behind_end (suc n) [] x less = refl
  behind_end (suc n) (y ∷ xs) x less = behind_end n xs x (omega arith)

  pub leveling_more : (new : List ℕ) → new ≡ levels ++ level ∷ [] → Leveling entries new (count + 1)
  leveling_more new is = let P : List ℕ → Type 0 = λ l. Leveling entries l (count + 1) in subst P (sym is) (record {
    count_is = length-append levels (level ∷ []) ∙ ap (λ k. k + 1) at.count_is;
    each = each_now;
    low = low_now;
  })
    where
      below_now : (n : ℕ) → n < count + 1 → NameBelow (length levels) (entry_of entries n).runs
      below_now n less =
          let counted = at.count_is in
          let P : ℕ → Type 0 = λ k. NameBelow k (entry_of entries n).runs in
          wider n (length levels) (entry_of entries n).runs (omega arith)
          (below_bound 0 n (entry_of entries n).runs (earlier n (entry_of entries n) (entry_there entries n (omega arith))))
        where
          wider : (low high : ℕ) (runs : List Run) → low ≤ high → NameBelow low runs → NameBelow high runs
          wider low high [] more below = tt
          wider low high (run ∷ runs) more below = (let less : run.entry < low = below.0 in omega arith, below.1, wider low high runs more below.2)

      each_now : (n : ℕ) → n < count + 1 → get_or (levels ++ level ∷ []) n 0 ≡ level_over (levels ++ level ∷ []) (entry_of entries n).runs
      each_now n less =
          let counted = at.count_is in
          let kept = level_kept levels (level ∷ []) (entry_of entries n).runs (below_now n less) in
          elim (cases_lt n count) [
            | inl low ↦ get_or_append_left levels (level ∷ []) 0 n (omega arith) ∙ at.each n low ∙ sym kept
            | inr high ↦ (let same : count ≡ n = omega arith in
                get_or_at levels level [] 0 n (counted ∙ same) ∙ ap (λ k. level_over levels (entry_of entries k).runs) same ∙ sym kept)
          ]

      low_now : (n : ℕ) → get_or (levels ++ level ∷ []) n 0 ≤ n
      low_now n =
          let counted = at.count_is in
          elim (cases_lt n count) [
            | inl low ↦ (let same = get_or_append_left levels (level ∷ []) 0 n (omega arith) in let old = at.low n in omega arith)
            | inr high ↦ elim (cases_lt count n) [
              | inl more ↦ (let none = behind_end n levels level (omega arith) in omega arith)
              | inr not ↦ (let same = get_or_at levels level [] 0 n (omega arith) in let few = level_low levels count e.runs at.low level_below in omega arith)
            ]
          ]

-- ---- what levels are for

-- an entry has a higher level than those that it names
pub each_lower : (levels : List ℕ) (runs : List Run) → EachNamed (λ c. get_or levels c 0 < level_over levels runs) runs
each_lower levels [] = tt
each_lower levels (run ∷ runs) = (
  omega arith,
  each_more (λ c. get_or levels c 0 < level_over levels runs) (λ c. get_or levels c 0 < level_over levels (run ∷ runs)) (λ c less. omega arith) runs (each_lower levels runs),
)

-- and the next level of one of them
pub one_lower : (levels : List ℕ) (runs : List Run) → 0 < level_over levels runs
    → (c : ℕ) × Names c runs × (get_or levels c 0 + 1 ≡ level_over levels runs)
one_lower levels [] some = absurd (omega arith)
one_lower levels (run ∷ runs) some = elim (cases_lt (get_or levels run.entry 0 + 1) (level_over levels runs)) [
  | inl less ↦ (let rest = one_lower levels runs (omega arith) in (rest.0, inr rest.1, let is = rest.2 in omega arith))
  | inr more ↦ (run.entry, inl refl, omega arith)
]

pub names_within : (c high : ℕ) (runs : List Run) → NameBelow high runs → Names c runs → c < high
names_within c high [] below names = absurd names
names_within c high (run ∷ runs) below names = elim names [
  | inl same ↦ (let less : run.entry < high = below.0 in omega arith)
  | inr later ↦ names_within c high runs below.2 later
]

module _ (entries : List Entry) (levels : List ℕ) (earlier : NameEarlier entries) (are : AreLevels entries levels) where
  abbrev level_at : ℕ → ℕ
  level_at n = get_or levels n 0

  pub named_below : (n : ℕ) → n < length entries → NameBelow n (entry_of entries n).runs
  named_below n within = below_bound 0 n (entry_of entries n).runs (earlier n (entry_of entries n) (entry_there entries n within))

  -- the entries that an entry names: they are there, and have lower levels
  pub each_child : (n : ℕ) → n < length entries → EachNamed (λ c. (c < n) × (level_at c < level_at n)) (entry_of entries n).runs
  each_child n within =
      let runs : List Run = (entry_of entries n).runs in
      let P : ℕ → Type 0 = λ k. EachNamed (λ c. level_at c < k) runs in
      each_both (λ c. c < n) (λ c. level_at c < level_at n) runs (each_below n runs (named_below n within)) (subst P (sym (are.each n within)) (each_lower levels runs))

  module _ (level : ℕ) (o : Ordering) (at : AreOrderedTo entries levels level o) where
    abbrev number : ℕ → ℕ
    number n = get_or o.numbers n 0

    abbrev now : ℕ → Entry
    now n = entry_with entries o.numbers n

    -- an entry of a lower level comes before one of a higher level, which may not be there yet
    comes_before : (fuel a b : ℕ) → level_at a < fuel → a < length entries → b < length entries → level_at a < level_at b → level_at b ≤ level
        → ComesBefore (now a) (now b)
    comes_before zero a b less within within' lower few = absurd (omega arith)
    comes_before (suc fuel) a b less within within' lower few =
        let level_is = are.each b within' in
        let child = one_lower levels (entry_of entries b).runs (omega arith) in
        let r : ℕ = child.0 in
        let next = child.2 in
        let inside : r < b = names_within r b (entry_of entries b).runs (named_below b within') child.1 in
        let stands : (c : ℕ) → (c < a) × (level_at c < level_at a) → number c < number r = (λ c both.
        place_before o.dict at.order (number c) (number r) (now c) (now r) (at.each c (omega (arith, both.0)) (omega (arith, both.1)))
        (at.each r (omega arith) (omega arith))
        (comes_before fuel c r (omega (arith, both.1)) (omega (arith, both.0)) (omega arith) (omega (arith, both.1)) (omega arith))) in
        let low : behind (now a).runs ≤ number r =
        behind_below o.numbers (number r) (entry_of entries a).runs []
        (each_more (λ c. (c < a) × (level_at c < level_at a)) (λ c. number c < number r) stands (entry_of entries a).runs (each_child a within)) (omega arith) in
        let high : number r < behind (now b).runs = behind_named o.numbers r (entry_of entries b).runs [] child.1 in
        fewer_before (now a) (now b) (omega arith)

    pub lower_first : (a b : ℕ) → a < length entries → b < length entries → level_at a < level_at b → level_at b ≤ level → ComesBefore (now a) (now b)
    lower_first a b within within' lower few = comes_before (suc (level_at a)) a b (omega arith) within within' lower few
