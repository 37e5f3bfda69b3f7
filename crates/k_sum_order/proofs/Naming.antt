-- What runs name, and their numbers.
use Rattle.std.proofs.Common.{◌≡◌, ℕ, ◌+◌, ◌<◌, ◌≤◌, inl, inr, max, List, [], ◌∷◌, get_or, refl, ap, ◌∙◌, subst, arith}
use Rattle.std.proofs.lemmas.Bool.{cases_order}
use Rattle.k_dict_entries.specs.Entries.{AreRuns, NameBelow}
use Rattle.k_dict_entries.specs.Tallies.{counted}
use Rattle.k_dict_entries.specs.declared.entry.Run.{Run}
use Rattle.k_dict_entries.proofs.Counting.{AreRuns-counted, counted-at, counted-before, counted-behind}
use Rattle.k_dict_saved.specs.Formats.{Names}
use Rattle.k_dict_saved.specs.Migration.{renumbered}
use Rattle.k_sum_order.specs.Order.{behind}

-- what holds of each entry that runs name
abbrev pub EachNamed : (ℕ → Type 0) → List Run → Type 0
EachNamed P [] = Unit {0}
EachNamed P (run ∷ runs) = P run.entry × EachNamed P runs

pub each_more : (P Q : ℕ → Type 0) → ((n : ℕ) → P n → Q n) → (runs : List Run) → EachNamed P runs → EachNamed Q runs
each_more P Q more [] each = tt
each_more P Q more (run ∷ runs) each = (more run.entry each.0, each_more P Q more runs each.1)

pub each_both : (P Q : ℕ → Type 0) (runs : List Run) → EachNamed P runs → EachNamed Q runs → EachNamed (λ n. P n × Q n) runs
each_both P Q [] one other = tt
each_both P Q (run ∷ runs) one other = ((one.0, other.0), each_both P Q runs one.1 other.1)

pub each_below : (high : ℕ) (runs : List Run) → NameBelow high runs → EachNamed (λ n. n < high) runs
each_below high [] below = tt
each_below high (run ∷ runs) below = (below.0, each_below high runs below.2)

-- runs keep their numbers where those of the entries that they name stay
pub renumbered_same : (numbers numbers' : List ℕ) (runs so_far : List Run) → EachNamed (λ n. get_or numbers n 0 ≡ get_or numbers' n 0) runs
    → renumbered numbers runs so_far ≡ renumbered numbers' runs so_far
renumbered_same numbers numbers' [] so_far same = refl
renumbered_same numbers numbers' (run ∷ runs) so_far same =
    ap (λ n. renumbered numbers runs (counted n run.count so_far)) same.0
    ∙ renumbered_same numbers numbers' runs (counted (get_or numbers' run.entry 0) run.count so_far) same.1

behind_counted : (n count : ℕ) (runs : List Run) → behind (counted n count runs) ≡ max (n + 1) (behind runs)
behind_counted n count [] = refl
behind_counted n count (run ∷ runs) = elim (cases_order n run.entry) [
  | inl at ↦ (let is = ap behind (counted-at n count run runs at) in omega arith)
  | inr order ↦ elim order [
    | inl before ↦ (let is = ap behind (counted-before n count run runs before) in omega arith)
    | inr after ↦ (let is = ap behind (counted-behind n count run runs after) in let rest = behind_counted n count runs in omega arith)
  ]
]

-- runs whose numbers are below one stand behind no more
pub behind_below : (numbers : List ℕ) (high : ℕ) (runs so_far : List Run) → EachNamed (λ n. get_or numbers n 0 < high) runs → behind so_far ≤ high
    → behind (renumbered numbers runs so_far) ≤ high
behind_below numbers high [] so_far each low = low
behind_below numbers high (run ∷ runs) so_far each low =
    let n : ℕ = get_or numbers run.entry 0 in
    let one = behind_counted n run.count so_far in let less : n < high = each.0 in
    behind_below numbers high runs (counted n run.count so_far) each.1 (omega arith)

behind_grows : (numbers : List ℕ) (runs so_far : List Run) → behind so_far ≤ behind (renumbered numbers runs so_far)
behind_grows numbers [] so_far = omega arith
behind_grows numbers (run ∷ runs) so_far =
    let n : ℕ = get_or numbers run.entry 0 in
    let one = behind_counted n run.count so_far in let rest = behind_grows numbers runs (counted n run.count so_far) in omega arith

-- and behind each entry that they name
pub behind_named : (numbers : List ℕ) (c : ℕ) (runs so_far : List Run) → Names c runs → get_or numbers c 0 < behind (renumbered numbers runs so_far)
behind_named numbers c [] so_far names = absurd names
behind_named numbers c (run ∷ runs) so_far names =
    let n : ℕ = get_or numbers run.entry 0 in
    elim names [
      | inl same ↦ (let P : ℕ → Type 0 = λ k. get_or numbers k 0 < behind (renumbered numbers runs (counted n run.count so_far)) in
          let one = behind_counted n run.count so_far in
          let grows = behind_grows numbers runs (counted n run.count so_far) in
          let here : n < behind (renumbered numbers runs (counted n run.count so_far)) = omega arith in subst P same here)
      | inr later ↦ behind_named numbers c runs (counted n run.count so_far) later
    ]

-- runs of entries below a number, where those that they name have numbers below it
pub rise_in : (numbers : List ℕ) (high below : ℕ) (runs so_far : List Run) → NameBelow below runs → EachNamed (λ n. get_or numbers n 0 < high) runs
    → AreRuns 0 high so_far → AreRuns 0 high (renumbered numbers runs so_far)
rise_in numbers high below [] so_far named each are = are
rise_in numbers high below (run ∷ runs) so_far named each are =
    let n : ℕ = get_or numbers run.entry 0 in
    rise_in numbers high below runs (counted n run.count so_far) named.2 each.1 (AreRuns-counted 0 high n run.count so_far (omega arith) each.0 named.1 are)
