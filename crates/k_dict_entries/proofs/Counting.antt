-- What counting children gives does not depend on their order.
use Rattle.std.proofs.Common.{◌≡◌, ℕ, ◌+◌, ◌<◌, ◌≤◌, ◌⊎◌, inl, inr, Bool, cond, List, [], ◌∷◌, refl, sym, ap, subst, ◌∙◌, arith, add_assoc, add_comm, lt-ltb, le-ltb, nat_lt, if◌then◌else◌}
use Rattle.std.proofs.lemmas.Bool.{cases_order}
use Rattle.k_dict_entries.specs.Tallies.{counted}
use Rattle.k_dict_entries.specs.Entries.{AreRuns}
use Rattle.k_dict_entries.specs.declared.entry.Run.{Run}

-- a run
abbrev pub run_with : ℕ → ℕ → Run
run_with entry count = record { entry = entry; count = count }

module _ (n count : ℕ) (run : Run) (runs : List Run) where
  pub counted-before : n < run.entry → counted n count (run ∷ runs) ≡ run_with n count ∷ run ∷ runs
  counted-before less =
      ap (λ t. if t then run_with n count ∷ run ∷ runs else (if nat_lt run.entry n then run ∷ counted n count runs else run_with run.entry (count + run.count) ∷ runs))
      (lt-ltb n run.entry less)

  pub counted-behind : run.entry < n → counted n count (run ∷ runs) ≡ run ∷ counted n count runs
  counted-behind more =
      ap (λ t. if t then run_with n count ∷ run ∷ runs else (if nat_lt run.entry n then run ∷ counted n count runs else run_with run.entry (count + run.count) ∷ runs))
      (le-ltb n run.entry (omega arith))
      ∙ ap (λ t. if t then run ∷ counted n count runs else run_with run.entry (count + run.count) ∷ runs) (lt-ltb run.entry n more)

  pub counted-at : n ≡ run.entry → counted n count (run ∷ runs) ≡ run_with run.entry (count + run.count) ∷ runs
  counted-at same =
      ap (λ t. if t then run_with n count ∷ run ∷ runs else (if nat_lt run.entry n then run ∷ counted n count runs else run_with run.entry (count + run.count) ∷ runs))
      (le-ltb n run.entry (omega arith))
      ∙ ap (λ t. if t then run ∷ counted n count runs else run_with run.entry (count + run.count) ∷ runs) (le-ltb run.entry n (omega arith))

-- two entries in either order, the one of which has the smaller number
counted-less : (m a n b : ℕ) (runs : List Run) → m < n → counted m a (counted n b runs) ≡ counted n b (counted m a runs)
counted-less m a n b [] less = counted-before m a (run_with n b) [] less ∙ sym (counted-behind n b (run_with m a) [] less)
counted-less m a n b (run ∷ runs) less = elim (cases_order n run.entry) [
  | inl at ↦ (let e : m < run.entry = omega arith in
      ap (counted m a) (counted-at n b run runs at) ∙ counted-before m a (run_with run.entry (b + run.count)) runs e
      ∙ sym (ap (counted n b) (counted-before m a run runs e) ∙ counted-behind n b (run_with m a) (run ∷ runs) less ∙ ap (λ l. run_with m a ∷ l) (counted-at n b run runs at)))
  | inr order ↦ elim order [
    | inl before ↦ (let e : m < run.entry = omega arith in
        ap (counted m a) (counted-before n b run runs before) ∙ counted-before m a (run_with n b) (run ∷ runs) less
        ∙ sym (ap (counted n b) (counted-before m a run runs e) ∙ counted-behind n b (run_with m a) (run ∷ runs) less ∙ ap (λ l. run_with m a ∷ l) (counted-before n b run runs before)))
    | inr behind ↦ ap (counted m a) (counted-behind n b run runs behind) ∙ elim (cases_order m run.entry) [
      | inl at ↦ counted-at m a run (counted n b runs) at
          ∙ sym (ap (counted n b) (counted-at m a run runs at) ∙ counted-behind n b (run_with run.entry (a + run.count)) runs behind)
      | inr other ↦ elim other [
        | inl before ↦ counted-before m a run (counted n b runs) before
            ∙ sym (ap (counted n b) (counted-before m a run runs before) ∙ counted-behind n b (run_with m a) (run ∷ runs) less ∙ ap (λ l. run_with m a ∷ l) (counted-behind n b run runs behind))
        | inr after ↦ counted-behind m a run (counted n b runs) after ∙ ap (λ l. run ∷ l) (counted-less m a n b runs less)
            ∙ sym (ap (counted n b) (counted-behind m a run runs after) ∙ counted-behind n b run (counted m a runs) behind)
      ]
    ]
  ]
]

-- one entry twice is that entry with the sum
pub counted-sum : (n a b : ℕ) (runs : List Run) → counted n a (counted n b runs) ≡ counted n (a + b) runs
counted-sum n a b [] = counted-at n a (run_with n b) [] refl
counted-sum n a b (run ∷ runs) = elim (cases_order n run.entry) [
  | inl at ↦ ap (counted n a) (counted-at n b run runs at) ∙ counted-at n a (run_with run.entry (b + run.count)) runs at
      ∙ ap (λ c. run_with run.entry c ∷ runs) (sym (add_assoc a b run.count)) ∙ sym (counted-at n (a + b) run runs at)
  | inr order ↦ elim order [
    | inl before ↦ ap (counted n a) (counted-before n b run runs before) ∙ counted-at n a (run_with n b) (run ∷ runs) refl
        ∙ sym (counted-before n (a + b) run runs before)
    | inr behind ↦ ap (counted n a) (counted-behind n b run runs behind) ∙ counted-behind n a run (counted n b runs) behind
        ∙ ap (λ l. run ∷ l) (counted-sum n a b runs) ∙ sym (counted-behind n (a + b) run runs behind)
  ]
]

sums : (a b c : ℕ) → a + (b + c) ≡ b + (a + c)
sums a b c = omega arith

-- one entry twice, in either order
counted-twice : (m a b : ℕ) (runs : List Run) → counted m a (counted m b runs) ≡ counted m b (counted m a runs)
counted-twice m a b [] =
    counted-at m a (run_with m b) [] refl ∙ ap (λ c. run_with m c ∷ []) (add_comm a b) ∙ sym (counted-at m b (run_with m a) [] refl)
counted-twice m a b (run ∷ runs) = elim (cases_order m run.entry) [
  | inl at ↦ ap (counted m a) (counted-at m b run runs at) ∙ counted-at m a (run_with run.entry (b + run.count)) runs at
      ∙ ap (λ c. run_with run.entry c ∷ runs) (sums a b run.count)
      ∙ sym (ap (counted m b) (counted-at m a run runs at) ∙ counted-at m b (run_with run.entry (a + run.count)) runs at)
  | inr order ↦ elim order [
    | inl before ↦ ap (counted m a) (counted-before m b run runs before) ∙ counted-at m a (run_with m b) (run ∷ runs) refl
        ∙ ap (λ c. run_with m c ∷ run ∷ runs) (add_comm a b)
        ∙ sym (ap (counted m b) (counted-before m a run runs before) ∙ counted-at m b (run_with m a) (run ∷ runs) refl)
    | inr behind ↦ ap (counted m a) (counted-behind m b run runs behind) ∙ counted-behind m a run (counted m b runs) behind
        ∙ ap (λ l. run ∷ l) (counted-twice m a b runs)
        ∙ sym (ap (counted m b) (counted-behind m a run runs behind) ∙ counted-behind m b run (counted m a runs) behind)
  ]
]

-- children may be counted in any order
pub counted-exchange : (m a n b : ℕ) (runs : List Run) → counted m a (counted n b runs) ≡ counted n b (counted m a runs)
counted-exchange m a n b runs = elim (cases_order m n) [
  | inl same ↦ (let P : ℕ → Type 0 = λ k. counted m a (counted k b runs) ≡ counted k b (counted m a runs) in subst P same (counted-twice m a b runs))
  | inr order ↦ elim order [
    | inl less ↦ counted-less m a n b runs less
    | inr more ↦ sym (counted-less n b m a runs more)
  ]
]

-- runs with one more child rise too
pub AreRuns-counted : (low high n count : ℕ) (runs : List Run) → low ≤ n → n < high → 1 ≤ count → AreRuns low high runs
    → AreRuns low high (counted n count runs)
AreRuns-counted low high n count [] above below some are = (above, below, some, tt)
AreRuns-counted low high n count (run ∷ runs) above below some are = elim (cases_order n run.entry) [
  | inl at ↦ (let P : List Run → Type 0 = AreRuns low high in
      subst P (sym (counted-at n count run runs at)) (are.0, are.1, omega arith, are.3))
  | inr order ↦ elim order [
    | inl before ↦ (let P : List Run → Type 0 = AreRuns low high in
        subst P (sym (counted-before n count run runs before)) (above, below, some, (omega arith, are.1, are.2, are.3)))
    | inr behind ↦ (let P : List Run → Type 0 = AreRuns low high in
        subst P (sym (counted-behind n count run runs behind)) (are.0, are.1, are.2, AreRuns-counted (run.entry + 1) high n count runs (omega arith) below some are.3))
  ]
]
