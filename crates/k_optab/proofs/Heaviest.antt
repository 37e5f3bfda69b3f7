-- The weight of the heaviest path of an interval: there is one, and what it is bounded by.
use Rattle.std.proofs.Common.{◌≡◌, ℕ, zero, suc, ◌+◌, ◌<◌, ◌≤◌, ◌⊎◌, inl, inr, List, [], ◌∷◌, ◌++◌, length, Some, refl, sym, subst, ap, arith, max, true, false}
use Rattle.std.specs.Prelude.{if◌then◌else◌}
use Rattle.std.proofs.Common.{get_or}
use Rattle.std.proofs.lemmas.Bool.{cases_lt, cases_Bool}
use Rattle.std.proofs.lemmas.Option.{slice_get_within, slice_get-get_or}
use Rattle.k_optab.specs.declared.event.Src.{Src}
use Rattle.k_optab.specs.Events.{Operation, IsOperation, ListsUnbroken, SourcesAreEarlier}
use Rattle.k_optab.specs.Graph.{IsNode, Path, alone, joined, Weighs, Heaviest, HeaviestTo, IsTime, work}
use Rattle.k_optab.specs.GraphLaws.{AtMost, IsGreatestTime, greatest_of}
use Rattle.k_optab.proofs.Paths.{last_node, widened, narrowed, source_before, weight_at_most_work}

-- an operation has one number's worth of fields
pub same_operation : (ops : List Operation) (k : ℕ) (a b : Operation) → IsOperation ops k a → IsOperation ops k b → a ≡ b
same_operation ops k a b p q = cc

-- an operation stands at each number
operation_there : (ops : List Operation) (k : ℕ) → k < length ops → (op : Operation) × IsOperation ops k op
operation_there [] k within = absurd (omega arith)
operation_there (op ∷ ops) k within = (get_or (op ∷ ops) k op, slice_get-get_or (op ∷ ops) k op within)

-- the weight of a heaviest path is one number
at_most_other : (ops : List Operation) (s e p q : ℕ) → Heaviest ops s e p → Heaviest ops s e q → p ≤ q
at_most_other ops s e p q one other =
    elim one.reached [ inl none ↦ (let is : p ≡ 0 = none.1 in omega arith) | inr some ↦ other.greatest some.0 p some.1 ]

pub heaviest_unique : (ops : List Operation) (s e p q : ℕ) → Heaviest ops s e p → Heaviest ops s e q → p ≡ q
heaviest_unique ops s e p q one other =
    let low : p ≤ q = at_most_other ops s e p q one other in
    let high : q ≤ p = at_most_other ops s e q p other one in
    omega arith

pub heaviest_to_unique : (ops : List Operation) (s k p q : ℕ) → HeaviestTo ops s k p → HeaviestTo ops s k q → p ≡ q
heaviest_to_unique ops s k p q one other =
    let low : p ≤ q = other.greatest p one.reached in
    let high : q ≤ p = one.greatest q other.reached in
    omega arith

pub heaviest_empty : (ops : List Operation) (s e : ℕ) → e ≤ s → Heaviest ops s e 0
heaviest_empty ops s e none = record {
  reached = inl (none, refl);
  greatest = λ k w weighs.
      let node : (op : Operation) × IsNode ops s e k op = last_node weighs.1 in
      absurd (omega (arith, node.1.from_start, node.1.before_end, none));
}

-- the greatest time of sources, source by source
pub greatest_none : (ops : List Operation) (s : ℕ) → IsGreatestTime ops s [] 0
greatest_none ops s = record { reached = inl refl; greatest = λ j listed. absurd listed }

pub greatest_broken : (ops : List Operation) (s m : ℕ) (src : Src) (sources : List Src) → src.broken ≡ true
    → IsGreatestTime ops s sources m → IsGreatestTime ops s (src ∷ sources) m
greatest_broken ops s m src sources broken most = record {
  reached = elim most.reached [ inl none ↦ inl none | inr some ↦ inr (some.0, inr some.1, some.2) ];
  greatest = λ j listed. elim listed [
    | inl here ↦ (let impossible : ⊥ = (let whole : src.broken ≡ false = here.1 in cc) in absurd impossible)
    | inr there ↦ most.greatest j there
  ];
}

pub greatest_unbroken : (ops : List Operation) (s m t : ℕ) (src : Src) (sources : List Src) → src.broken ≡ false
    → IsTime ops s (Some src.number) t → IsGreatestTime ops s sources m → IsGreatestTime ops s (src ∷ sources) (max t m)
greatest_unbroken ops s m t src sources whole time most = record {
  reached = elim (cases_lt m t) [
    | inl less ↦ (let is : t ≡ max t m = omega arith in
        inr (src.number, inl (refl, whole), subst (λ n. IsTime ops s (Some src.number) n) is time))
    | inr more ↦ (let is : m ≡ max t m = omega arith in elim most.reached [
      | inl none ↦ (let zero_is : max t m ≡ 0 = omega (arith, none) in inl zero_is)
      | inr some ↦ inr (some.0, inr some.1, subst (λ n. IsTime ops s (Some some.0) n) is some.2)
    ])
  ];
  greatest = λ j listed. elim listed [
    | inl here ↦ (t, subst (λ n. IsTime ops s (Some n) t) here.0 time, omega arith)
    | inr there ↦ (let other : (u : ℕ) × IsTime ops s (Some j) u × (u ≤ m) = most.greatest j there in
        let low : other.0 ≤ m = other.2 in
        (other.0, other.1, omega arith))
  ];
}

-- the greatest time is the greatest of these
pub greatest_of_sources : (ops : List Operation) (s : ℕ) (time : ℕ → ℕ) (sources : List Src)
    → ((j : ℕ) → ListsUnbroken sources j → IsTime ops s (Some j) (time j)) → IsGreatestTime ops s sources (greatest_of time sources)
greatest_of_sources ops s time [] times = greatest_none ops s
greatest_of_sources ops s time (src ∷ sources) times =
    let rest : IsGreatestTime ops s sources (greatest_of time sources) = greatest_of_sources ops s time sources (λ j listed. times j (inr listed)) in
    elim (cases_Bool src.broken) [
      | inl broken ↦
          (let is : greatest_of time (src ∷ sources) ≡ greatest_of time sources =
          ap (λ b. if b then greatest_of time sources else max (time src.number) (greatest_of time sources)) broken in
          subst (λ n. IsGreatestTime ops s (src ∷ sources) n) (sym is) (greatest_broken ops s (greatest_of time sources) src sources broken rest))
      | inr whole ↦
          (let is : greatest_of time (src ∷ sources) ≡ max (time src.number) (greatest_of time sources) =
          ap (λ b. if b then greatest_of time sources else max (time src.number) (greatest_of time sources)) whole in
          subst (λ n. IsGreatestTime ops s (src ∷ sources) n) (sym is)
          (greatest_unbroken ops s (greatest_of time sources) (time src.number) src sources whole (times src.number (inl (refl, whole))) rest))
    ]

module _ (ops : List Operation) (earlier : SourcesAreEarlier ops) where
  -- the heaviest path to an operation adds its latency to the greatest time of its unbroken sources
  pub time_from_sources : (s k m : ℕ) (op : Operation) → s ≤ k → IsOperation ops k op → IsGreatestTime ops s op.sources m
      → HeaviestTo ops s k (op.latency + m)
  time_from_sources s k m op low made most = record {
    reached = elim most.reached [
      | inl none ↦ alone_reaches none
      | inr some ↦ elim (cases_lt some.0 s) [
        | inl before ↦ alone_reaches (some.2.0 before)
        | inr within ↦ joins some.0 some.1 (some.2.1 within)
      ]
    ];
    greatest = λ w weighs. bounded (k + 1) k w weighs.0 refl weighs.1;
  }
    where
      node : IsNode ops s (k + 1) k op
      node = record { from_start = low; before_end = omega arith; made = made }

      alone_reaches : m ≡ 0 → Weighs ops s (k + 1) k (op.latency + m)
      alone_reaches none =
          let is : op.latency ≡ op.latency + m = omega arith in
          subst (λ n. Weighs ops s (k + 1) k n) is (k ∷ [], alone k op node)

      joins : (j : ℕ) → ListsUnbroken op.sources j → HeaviestTo ops s j m → Weighs ops s (k + 1) k (op.latency + m)
      joins j listed to =
          let before : j < k = source_before ops earlier k j op made listed in
          let is : m + op.latency ≡ op.latency + m = omega arith in
          let path : Path ops s (k + 1) j m to.reached.0 = widened s (k + 1) (omega arith) (omega arith) to.reached.1 in
          subst (λ n. Weighs ops s (k + 1) k n) is (to.reached.0 ++ k ∷ [], joined j m k to.reached.0 op path node listed)

      bounded : (e i w : ℕ) (nodes : List ℕ) → i ≡ k → Path ops s e i w nodes → w ≤ op.latency + m
      bounded e _ _ _ is (alone i other there) =
          let at : IsOperation ops k other = subst (λ n. IsOperation ops n other) is there.made in
          let same : other ≡ op = same_operation ops k other op at made in
          let lasts : other.latency ≡ op.latency = ap (λ (o : Operation). o.latency) same in
          omega arith
      bounded e _ _ _ is (joined j w i nodes other path there listed) =
          let at : IsOperation ops k other = subst (λ n. IsOperation ops n other) is there.made in
          let same : other ≡ op = same_operation ops k other op at made in
          let here : ListsUnbroken op.sources j = subst (λ (o : Operation). ListsUnbroken o.sources j) same listed in
          let time : (t : ℕ) × IsTime ops s (Some j) t × (t ≤ m) = most.greatest j here in
          let from : s ≤ j = (last_node path).1.from_start in
          let to : HeaviestTo ops s j time.0 = time.1.1 from in
          let short : w ≤ time.0 = to.greatest w (nodes, narrowed ops earlier s e j w (j + 1) nodes (omega arith) path) in
          let under : time.0 ≤ m = time.2 in
          let lasts : other.latency ≡ op.latency = ap (λ (o : Operation). o.latency) same in
          omega arith

  -- one operation more
  pub heaviest_of_one_more : (s k p q : ℕ) → s ≤ k → Heaviest ops s k p → HeaviestTo ops s k q → Heaviest ops s (k + 1) (max p q)
  heaviest_of_one_more s k p q low so_far new = record {
    reached = inr (elim (cases_lt q p) [
      | inl less ↦ (let is : p ≡ max p q = omega arith in subst (λ n. (i : ℕ) × Weighs ops s (k + 1) i n) is (older less))
      | inr more ↦ (let is : q ≡ max p q = omega arith in subst (λ n. (i : ℕ) × Weighs ops s (k + 1) i n) is (k, new.reached))
    ]);
    greatest = λ i w weighs. elim (cases_lt i k) [
      | inl before ↦ (let under : w ≤ p = so_far.greatest i w (weighs.0, narrowed ops earlier s (k + 1) i w k weighs.0 before weighs.1) in omega arith)
      | inr there ↦ (let under : w ≤ q = at_new i w weighs there in omega arith)
    ];
  }
    where
      older : q < p → (i : ℕ) × Weighs ops s (k + 1) i p
      older less = elim so_far.reached [
        | inl none ↦ (let is : p ≡ 0 = none.1 in absurd (omega arith))
        | inr some ↦ (some.0, (some.1.0, widened s (k + 1) (omega arith) (omega arith) some.1.1))
      ]

      at_new : (i w : ℕ) → Weighs ops s (k + 1) i w → k ≤ i → w ≤ q
      at_new i w weighs there =
          let node : (op : Operation) × IsNode ops s (k + 1) i op = last_node weighs.1 in
          let below : i < k + 1 = node.1.before_end in
          let is : i ≡ k = omega arith in
          new.greatest w (subst (λ n. Weighs ops s (k + 1) n w) is weighs)

  -- there is a heaviest path to each operation of the interval
  greatest_exists : (s : ℕ) (sources : List Src) → ((j : ℕ) → ListsUnbroken sources j → (t : ℕ) × IsTime ops s (Some j) t)
      → (m : ℕ) × IsGreatestTime ops s sources m
  greatest_exists s [] times = (0, greatest_none ops s)
  greatest_exists s (src ∷ sources) times =
      let rest : (m : ℕ) × IsGreatestTime ops s sources m = greatest_exists s sources (λ j listed. times j (inr listed)) in
      elim (cases_Bool src.broken) [
        | inl broken ↦ (rest.0, greatest_broken ops s rest.0 src sources broken rest.1)
        | inr whole ↦ (let time : (t : ℕ) × IsTime ops s (Some src.number) t = times src.number (inl (refl, whole)) in
            (max time.0 rest.0, greatest_unbroken ops s rest.0 time.0 src sources whole time.1 rest.1))
      ]

  -- the time of a source, where there is one for each earlier operation
  source_time : (s k : ℕ) (op : Operation) → IsOperation ops k op
      → ((j : ℕ) (other : Operation) → j < k → s ≤ j → IsOperation ops j other → (p : ℕ) × HeaviestTo ops s j p)
      → (j : ℕ) → ListsUnbroken op.sources j → (t : ℕ) × IsTime ops s (Some j) t
  source_time s k op made below j listed =
      let before : j < k = source_before ops earlier k j op made listed in
      elim (cases_lt j s) [
        | inl outside ↦ (0, (λ _. refl, λ (inside : s ≤ j). absurd (omega arith)))
        | inr inside ↦
            (let within : k < length ops = slice_get_within ops k op made in
            let at : IsOperation ops j (get_or ops j op) = slice_get-get_or ops j op (omega arith) in
            let found : (p : ℕ) × HeaviestTo ops s j p = below j (get_or ops j op) before inside at in
            (found.0, (λ (less : j < s). absurd (omega arith), λ _. found.1)))
      ]

  exists_below : (n s k : ℕ) (op : Operation) → k < n → s ≤ k → IsOperation ops k op → (p : ℕ) × HeaviestTo ops s k p
  exists_below zero s k op low from made = absurd (omega arith)
  exists_below (suc n) s k op low from made =
      let most : (m : ℕ) × IsGreatestTime ops s op.sources m =
      greatest_exists s op.sources (source_time s k op made (λ j other (less : j < k) inside at. exists_below n s j other (omega arith) inside at)) in
      (op.latency + most.0, time_from_sources s k most.0 op from made most.1)

  pub heaviest_to_exists : (s k : ℕ) (op : Operation) → s ≤ k → IsOperation ops k op → (p : ℕ) × HeaviestTo ops s k p
  heaviest_to_exists s k op low made = exists_below (k + 1) s k op (omega arith) low made

  -- there is a heaviest path of each interval of the run
  pub heaviest_exists : (s e : ℕ) → e ≤ length ops → (p : ℕ) × Heaviest ops s e p
  heaviest_exists s zero within = (0, heaviest_empty ops s 0 (omega arith))
  heaviest_exists s (suc e) within = elim (cases_lt e s) [
    | inl before ↦ (0, heaviest_empty ops s (suc e) (omega arith))
    | inr from ↦
        (let so_far : (p : ℕ) × Heaviest ops s e p = heaviest_exists s e (omega arith) in
        let there : (op : Operation) × IsOperation ops e op = operation_there ops e (omega arith) in
        let new : (q : ℕ) × HeaviestTo ops s e q = heaviest_to_exists s e there.0 from there.1 in
        let more : e + 1 ≡ suc e = omega arith in
        (max so_far.0 new.0, subst (λ n. Heaviest ops s n (max so_far.0 new.0)) more (heaviest_of_one_more s e so_far.0 new.0 from so_far.1 new.1)))
  ]

  -- each unbroken source of an operation has a time
  pub time_exists : (s k : ℕ) (op : Operation) → IsOperation ops k op → (j : ℕ) → ListsUnbroken op.sources j → (t : ℕ) × IsTime ops s (Some j) t
  time_exists s k op made = source_time s k op made (λ j other (less : j < k) inside at. heaviest_to_exists s j other inside at)

  -- the heaviest path of an interval is at most its work
  pub heaviest_at_most_work : (s e p : ℕ) → Heaviest ops s e p → p ≤ work ops s e
  heaviest_at_most_work s e p most = elim most.reached [
    | inl none ↦ (let is : p ≡ 0 = none.1 in omega arith)
    | inr some ↦ weight_at_most_work ops earlier s e some.0 p some.1.0 some.1.1
  ]

  -- a path across m is at most a path up to m and one from m on
  split_path : (s m e a : ℕ) → AtMost ops s m a → (k w : ℕ) (nodes : List ℕ) → Path ops s e k w nodes
      → ((k < m) × (w ≤ a)) ⊎ ((v : ℕ) × Weighs ops m e k v × (w ≤ a + v))
  split_path s m e a low _ _ _ (alone k op node) =
      elim (cases_lt k m) [
        | inl before ↦ inl (before, low k op.latency (k ∷ [], narrowed ops earlier s e k op.latency m (k ∷ []) before (alone k op node)))
        | inr after ↦ inr (op.latency, (k ∷ [], alone k op (record { from_start = after; before_end = node.before_end; made = node.made })), omega arith)
      ]
  split_path s m e a low _ _ _ (joined j w k nodes op path node listed) =
      elim (cases_lt k m) [
        | inl before ↦ inl (
          before,
          low k (w + op.latency)
              (nodes ++ k ∷ [], narrowed ops earlier s e k (w + op.latency) m (nodes ++ k ∷ []) before (joined j w k nodes op path node listed)),
        )
        | inr after ↦ (let there : IsNode ops m e k op = record { from_start = after; before_end = node.before_end; made = node.made } in
            elim (split_path s m e a low j w nodes path) [
              | inl short ↦ (let under : w ≤ a = short.1 in inr (op.latency, (k ∷ [], alone k op there), omega arith))
              | inr long ↦ (let under : w ≤ a + long.0 = long.2 in
                  inr (long.0 + op.latency, (long.1.0 ++ k ∷ [], joined j long.0 k long.1.0 op long.1.1 there listed), omega arith))
            ])
      ]

  pub at_most_split : (s m e a b : ℕ) → AtMost ops s m a → AtMost ops m e b → AtMost ops s e (a + b)
  at_most_split s m e a b low high k w weighs =
      elim (split_path s m e a low k w weighs.0 weighs.1) [
        | inl short ↦ (let under : w ≤ a = short.1 in omega arith)
        | inr long ↦ (let tail : long.0 ≤ b = high k long.0 long.1 in let under : w ≤ a + long.0 = long.2 in omega arith)
      ]

  pub at_most_work : (s e : ℕ) → AtMost ops s e (work ops s e)
  at_most_work s e k w weighs = weight_at_most_work ops earlier s e k w weighs.0 weighs.1

-- the path of an interval within another is at most the other's
pub inner_at_most_outer : (ops : List Operation) (s e s' e' p q : ℕ) → s ≤ s' → e' ≤ e → Heaviest ops s e p → Heaviest ops s' e' q → q ≤ p
inner_at_most_outer ops s e s' e' p q low high outer inner = elim inner.reached [
  | inl none ↦ (let is : q ≡ 0 = none.1 in omega arith)
  | inr some ↦ outer.greatest some.0 q (some.1.0, widened s e low high some.1.1)
]
