-- Each interval with an operation has a chosen heaviest path: what is kept of its operations is made one by one, and the path is read off.
use Rattle.std.proofs.Common.{◌≡◌, ℕ, zero, suc, ◌+◌, ◌-◌, ◌<◌, ◌≤◌, inl, inr, List, [], ◌∷◌, ◌++◌, length, Option, Some, None, refl, subst, arith, get_or, slice_get}
use Rattle.std.proofs.lemmas.Bool.{cases_lt}
use Rattle.std.proofs.lemmas.Option.{slice_get-get_or}
use Rattle.k_optab.specs.Events.{Operation, IsOperation, SourcesAreEarlier}
use Rattle.k_optab.specs.Graph.{Heaviest}
use Rattle.k_graph.specs.Chains.{AreEarlier, Traces, follows, starts}
use Rattle.k_graph.specs.Chosen.{AreChained, IsChosen}
use Rattle.k_graph.proofs.Chaining.{befores_earlier, chained_begin, chained_more, chosen_is, heaviest_is}

-- the first of the greatest of these times stands at this place
record IsFirstGreatest (times : List ℕ) (last : ℕ) : Type 0 where
  within : last < length times
  greatest : (k : ℕ) → k < length times → get_or times k 0 ≤ get_or times last 0
  first : (k : ℕ) → k < last → get_or times k 0 < get_or times last 0

-- a time more in front that is no greater
none_above : (t v : ℕ) (times : List ℕ) → t ≤ v → ((k : ℕ) → k < length times → get_or times k 0 ≤ v) → (k : ℕ) → k < length (t ∷ times)
    → get_or (t ∷ times) k 0 ≤ v
none_above t v times low below zero within = low
none_above t v times low below (suc k) within = below k (omega arith)

-- a time more in front that is less
less_before : (t v last : ℕ) (times : List ℕ) → t < v → ((k : ℕ) → k < last → get_or times k 0 < v) → (k : ℕ) → k < suc last
    → get_or (t ∷ times) k 0 < v
less_before t v last times low below zero within = low
less_before t v last times low below (suc k) within = below k (omega arith)

-- times of which there are some have a first greatest
first_greatest : (t : ℕ) (times : List ℕ) → (last : ℕ) × IsFirstGreatest (t ∷ times) last
first_greatest t [] = (
  0,
  record {
    within = omega arith;
    greatest = none_above t t [] (omega arith) (λ k within. absurd (omega arith));
    first = λ k before. absurd (omega arith);
  },
)
first_greatest t (u ∷ times) =
    let later : (last : ℕ) × IsFirstGreatest (u ∷ times) last = first_greatest u times in
    let inside : later.0 < length (u ∷ times) = later.1.within in
    elim (cases_lt t (get_or (u ∷ times) later.0 0)) [
      | inl less ↦ (
        suc later.0,
        record {
          within = omega arith;
          greatest = none_above t (get_or (u ∷ times) later.0 0) (u ∷ times) (omega arith) later.1.greatest;
          first = less_before t (get_or (u ∷ times) later.0 0) later.0 (u ∷ times) less later.1.first;
        },
      )
      | inr more ↦ (
        0,
        record {
          within = omega arith;
          greatest = none_above t t (u ∷ times) (omega arith)
              (λ k within. let under : get_or (u ∷ times) k 0 ≤ get_or (u ∷ times) later.0 0 = later.1.greatest k within in omega arith);
          first = λ k before. absurd (omega arith);
        },
      )
    ]

-- a path leads to each operation of which it is known what stands before it
module _ (start : ℕ) (befores : List (Option ℕ)) (earlier : AreEarlier start befores) where
  trace_by : (k : ℕ) (before : Option ℕ) → slice_get befores (k - start) ≡ Some before → start ≤ k
      → ((j : ℕ) → start ≤ j → j < k → (nodes : List ℕ) × Traces start befores j nodes) → (nodes : List ℕ) × Traces start befores k nodes
  trace_by k None at from sooner = (k ∷ [], starts k at)
  trace_by k (Some j) at from sooner =
      let lies : (start ≤ j) × (j < start + (k - start)) = earlier (k - start) j at in
      let path : (nodes : List ℕ) × Traces start befores j nodes = sooner j lies.0 (omega (arith, lies.1)) in
      (path.0 ++ k ∷ [], follows j k path.0 path.1 at)

  traces_below : (n k : ℕ) → k < n → start ≤ k → k < start + length befores → (nodes : List ℕ) × Traces start befores k nodes
  traces_below zero k few from within = absurd (omega arith)
  traces_below (suc n) k few from within =
      trace_by k (get_or befores (k - start) None) (slice_get-get_or befores (k - start) None (omega arith)) from
      (λ j low less. traces_below n j (omega arith) low (omega arith))

  traces_exist : (k : ℕ) → start ≤ k → k < start + length befores → (nodes : List ℕ) × Traces start befores k nodes
  traces_exist k from within = traces_below (k + 1) k (omega arith) from within

-- an operation stands at each number
operation_there : (ops : List Operation) (k : ℕ) → k < length ops → (op : Operation) × IsOperation ops k op
operation_there [] k within = absurd (omega arith)
operation_there (op ∷ ops) k within = (get_or (op ∷ ops) k op, slice_get-get_or (op ∷ ops) k op within)

module _ (ops : List Operation) (earlier : SourcesAreEarlier ops) where
  -- what is kept of so many operations from s on
  chains_exist : (s n : ℕ) → s + n ≤ length ops → (times : List ℕ) × (befores : List (Option ℕ)) × AreChained ops s (s + n) times befores
  chains_exist s zero within =
      let same : s ≡ s + zero = omega arith in
      subst (λ e. (times : List ℕ) × (befores : List (Option ℕ)) × AreChained ops s e times befores) same ([], [], chained_begin ops s [] [] refl refl)
  chains_exist s (suc n) within =
      let so_far : (times : List ℕ) × (befores : List (Option ℕ)) × AreChained ops s (s + n) times befores = chains_exist s n (omega arith) in
      let there : (op : Operation) × IsOperation ops (s + n) op = operation_there ops (s + n) (omega arith) in
      let same : s + n + 1 ≡ s + suc n = omega arith in
      subst (λ e. (times : List ℕ) × (befores : List (Option ℕ)) × AreChained ops s e times befores) same
      (_, _, chained_more ops earlier s (s + n) there.0 there.1 (omega arith) so_far.0 so_far.1 so_far.2)

  -- the path that is read off what is kept
  chosen_by : (s e : ℕ) → s < e → (times : List ℕ) (befores : List (Option ℕ)) → AreChained ops s e times befores
      → (p : ℕ) × (nodes : List ℕ) × Heaviest ops s e p × IsChosen ops s e p nodes
  chosen_by s e some [] befores are = let none = are.count in absurd (omega arith)
  chosen_by s e some (t ∷ times) befores are =
      let best : (last : ℕ) × IsFirstGreatest (t ∷ times) last = first_greatest t times in
      let inside : best.0 < length (t ∷ times) = best.1.within in
      let same : length befores ≡ length (t ∷ times) = are.same in
      let path : (nodes : List ℕ) × Traces s befores (s + best.0) nodes =
      traces_exist s befores (befores_earlier ops earlier s e (t ∷ times) befores are) (s + best.0) (omega arith) (omega arith) in (
        get_or (t ∷ times) best.0 0,
        path.0,
        heaviest_is ops earlier s e (t ∷ times) befores are (omega arith) best.0 inside best.1.greatest,
        chosen_is ops earlier s e (t ∷ times) befores are (omega arith) best.0 inside best.1.greatest best.1.first path.0 path.1,
      )

  pub chosen_exists : (s e : ℕ) → s < e → e ≤ length ops → (p : ℕ) × (nodes : List ℕ) × Heaviest ops s e p × IsChosen ops s e p nodes
  chosen_exists s e some within =
      let same : s + (e - s) ≡ e = omega arith in
      let chains : (times : List ℕ) × (befores : List (Option ℕ)) × AreChained ops s e times befores =
      subst (λ n. (times : List ℕ) × (befores : List (Option ℕ)) × AreChained ops s n times befores) same (chains_exist s (e - s) (omega arith)) in
      chosen_by s e some chains.0 chains.1 chains.2
