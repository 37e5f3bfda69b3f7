-- What is kept of each operation of an interval is what the definitions say, and the path that is read off is the chosen one.
use Rattle.std.proofs.Common.{◌≡◌, ℕ, zero, suc, ◌+◌, ◌-◌, ◌<◌, ◌≤◌, ◌^◌, inl, inr, List, [], ◌∷◌, ◌++◌, length, Option, Some, None, true, false, refl, sym, ◌∙◌, subst, ap, arith, get_or, max, min, length-append, drop, take}
use Rattle.std.specs.Prelude.{nat_lt, ◌==◌}
use Rattle.std.proofs.lemmas.Bool.{cases_lt, cases_eq, cases_Bool}
use Rattle.std.proofs.lemmas.Option.{slice_get-get_or}
use Rattle.std.proofs.Math.Seq.{drop-cons, take-length, take-suc}
use Rattle.std.proofs.Math.Numerals.{add-one}
use Rattle.std.proofs.lemmas.List.{drop_all, length-drop, take-append-drop}
use Rattle.k_num.specs.declared.place.Place.{Place}
use Rattle.k_optab.specs.declared.class.Class.{Class}
use Rattle.k_optab.specs.declared.event.Event.{Event}
use Rattle.k_optab.specs.declared.event.Event.TheVariants.{Op, Enter, Exit}
use Rattle.k_graph.specs.declared.chain.Chains.{Chains}
use Rattle.k_optab.specs.declared.event.Src.{Src}
use Rattle.k_optab.specs.Events.{Operation, IsOperation, ListsUnbroken, AreBefore, SourcesAreEarlier, made_before, operations, total_latency}
use Rattle.k_optab.specs.Graph.{IsNode, Path, alone, joined, Heaviest, HeaviestTo, IsTime, work}
use Rattle.k_optab.specs.GraphLaws.{IsGreatestTime, greatest_of}
use Rattle.k_optab.proofs.Intervals.{work_at_most_total}
use Rattle.k_optab.proofs.Paths.{source_before, last_node, widened, narrowed, weight_at_most_work}
use Rattle.k_optab.proofs.Heaviest.{greatest_of_sources, heaviest_to_unique, time_from_sources, time_exists}
use Rattle.k_optab.proofs.Trees.{operations-append}
use Rattle.k_graph.specs.Times.{time_at}
use Rattle.k_graph.specs.Chains.{Traces, starts, follows, AreEarlier, CanChain, chained, lesser, smallest_of, before_of}
use Rattle.k_graph.specs.Chosen.{HasNoSource, IsChosenSource, ChosenTo, IsChosen, IsPathOf, IsBefore, AreChained}
use Rattle.k_graph.specs.Chosen as chosen
use Rattle.k_graph.proofs.Measures.{AreTimes, time_at_is, new_time_is, times_more}
use Rattle.k_graph.proofs.Outwards.{slice_get-push}
use Rattle.k_graph.proofs.Progress.{if_true, if_false, dropped_head}

-- the source is unbroken, lies from the start on, and has this time
record Has (s : ℕ) (times : List ℕ) (time : ℕ) (sources : List Src) (j : ℕ) : Type 0 where
  listed : ListsUnbroken sources j
  within : s ≤ j
  reads : get_or times (j - s) 0 ≡ time

abbrev IsSmallest : ℕ → List ℕ → ℕ → List Src → Option ℕ → Type 0
IsSmallest s times time sources None = (j : ℕ) → ¬ Has s times time sources j
IsSmallest s times time sources (Some m) = Has s times time sources m × ((j : ℕ) → Has s times time sources j → m ≤ j)

-- a source in front changes nothing where it is none of these
passes : (s : ℕ) (times : List ℕ) (time : ℕ) (src : Src) (sources : List Src) (o : Option ℕ) → (Has s times time (src ∷ []) src.number → ⊥)
    → IsSmallest s times time sources o → IsSmallest s times time (src ∷ sources) o
passes s times time src sources None none is = λ j has. elim has.listed [
  | inl here ↦ none (subst (λ n. Has s times time (src ∷ []) n) (sym here.0) (record { listed = inl here; within = has.within; reads = has.reads }))
  | inr there ↦ is j (record { listed = there; within = has.within; reads = has.reads })
]
passes s times time src sources (Some m) none is = (
  record { listed = inr is.0.listed; within = is.0.within; reads = is.0.reads },
  λ j has. elim has.listed [
    | inl here ↦ absurd (none (subst (λ n. Has s times time (src ∷ []) n) (sym here.0) (record { listed = inl here; within = has.within; reads = has.reads })))
    | inr there ↦ is.1 j (record { listed = there; within = has.within; reads = has.reads })
  ],
)

-- and where it is one, the lesser of the two is the smallest
takes : (s : ℕ) (times : List ℕ) (time : ℕ) (src : Src) (sources : List Src) (o : Option ℕ) → Has s times time (src ∷ []) src.number
    → IsSmallest s times time sources o → IsSmallest s times time (src ∷ sources) (lesser (Some src.number) o)
takes s times time src sources None one is = (
  record { listed = front one.listed; within = one.within; reads = one.reads },
  λ j has. elim has.listed [
    | inl here ↦ (let same : src.number ≡ j = here.0 in omega arith)
    | inr there ↦ absurd (is j (record { listed = there; within = has.within; reads = has.reads }))
  ],
)
  where
    front : ListsUnbroken (src ∷ []) src.number → ListsUnbroken (src ∷ sources) src.number
    front listed = elim listed [ inl here ↦ inl here | inr none ↦ absurd none ]
takes s times time src sources (Some m) one is = (
  elim (cases_lt src.number m) [
    | inl less ↦ (let first : src.number ≡ min src.number m = omega arith in
        subst (λ n. Has s times time (src ∷ sources) n) first (record { listed = front one.listed; within = one.within; reads = one.reads }))
    | inr more ↦ (let second : m ≡ min src.number m = omega arith in
        subst (λ n. Has s times time (src ∷ sources) n) second (record { listed = inr is.0.listed; within = is.0.within; reads = is.0.reads }))
  ],
  λ j has. elim has.listed [
    | inl here ↦ (let same : src.number ≡ j = here.0 in omega arith)
    | inr there ↦ (let low : m ≤ j = is.1 j (record { listed = there; within = has.within; reads = has.reads }) in omega arith)
  ],
)
  where
    front : ListsUnbroken (src ∷ []) src.number → ListsUnbroken (src ∷ sources) src.number
    front listed = elim listed [ inl here ↦ inl here | inr none ↦ absurd none ]

-- what a test of the source leaves
broken_none : (s : ℕ) (times : List ℕ) (time : ℕ) (src : Src) → src.broken ≡ true → Has s times time (src ∷ []) src.number → ⊥
broken_none s times time src broken has = elim has.listed [ inl here ↦ (let whole : src.broken ≡ false = here.1 in cc) | inr none ↦ none ]

smallest_is : (s : ℕ) (times : List ℕ) (time : ℕ) (sources : List Src) → IsSmallest s times time sources (smallest_of s times time sources)
smallest_is s times time [] = λ j has. has.listed
smallest_is s times time (src ∷ sources) =
    let rest : IsSmallest s times time sources (smallest_of s times time sources) = smallest_is s times time sources in
    elim (cases_Bool src.broken) [
      | inl broken ↦ subst (λ o. IsSmallest s times time (src ∷ sources) o) (sym (if_true src.broken _ _ broken))
          (passes s times time src sources (smallest_of s times time sources) (broken_none s times time src broken) rest)
      | inr whole ↦ subst (λ o. IsSmallest s times time (src ∷ sources) o) (sym (if_false src.broken _ _ whole))
          (elim (cases_lt src.number s) [
            | inl outside ↦
                (let test : nat_lt src.number s ≡ true = search (arith) in
                subst (λ o. IsSmallest s times time (src ∷ sources) o) (sym (if_true (nat_lt src.number s) _ _ test))
                (passes s times time src sources (smallest_of s times time sources) (λ has. absurd (omega (arith, has.within))) rest))
            | inr inside ↦
                (let test : nat_lt src.number s ≡ false = search (arith) in
                subst (λ o. IsSmallest s times time (src ∷ sources) o) (sym (if_false (nat_lt src.number s) _ _ test))
                (elim (cases_eq (get_or times (src.number - s) 0) time) [
                  | inl same ↦
                      (let equal : (get_or times (src.number - s) 0 == time) ≡ true = search (arith) in
                      subst (λ o. IsSmallest s times time (src ∷ sources) o) (sym (if_true (get_or times (src.number - s) 0 == time) _ _ equal))
                      (takes s times time src sources (smallest_of s times time sources) (record { listed = inl (refl, whole); within = inside; reads = same }) rest))
                  | inr other ↦
                      (let unequal : (get_or times (src.number - s) 0 == time) ≡ false = search (arith) in
                      subst (λ o. IsSmallest s times time (src ∷ sources) o) (sym (if_false (get_or times (src.number - s) 0 == time) _ _ unequal))
                      (passes s times time src sources (smallest_of s times time sources) (λ has. other has.reads) rest))
                ]))
          ])
    ]

module _ (ops : List Operation) (earlier : SourcesAreEarlier ops) where
  -- a time that is kept is that of the heaviest path
  kept_time : (s : ℕ) (times : List ℕ) (j w : ℕ) → AreTimes ops s times → s ≤ j → j < s + length times → HeaviestTo ops s j w → w ≡ get_or times (j - s) 0
  kept_time s times j w are from below to =
      let place : s + (j - s) ≡ j = omega arith in
      let read : HeaviestTo ops s (s + (j - s)) (get_or times (j - s) 0) = are (j - s) (get_or times (j - s) 0) (slice_get-get_or times (j - s) 0 (omega arith)) in
      heaviest_to_unique ops s j w (get_or times (j - s) 0) to (subst (λ n. HeaviestTo ops s n (get_or times (j - s) 0)) place read)

  read_time : (s : ℕ) (times : List ℕ) (j : ℕ) → AreTimes ops s times → s ≤ j → j < s + length times → HeaviestTo ops s j (get_or times (j - s) 0)
  read_time s times j are from below =
      let place : s + (j - s) ≡ j = omega arith in
      subst (λ n. HeaviestTo ops s n (get_or times (j - s) 0)) place (are (j - s) (get_or times (j - s) 0) (slice_get-get_or times (j - s) 0 (omega arith)))

  module _ (s made : ℕ) (op : Operation) (there : IsOperation ops made op) (times : List ℕ) (are : AreTimes ops s times) (count : s + length times ≡ made) where
    most : IsGreatestTime ops s op.sources (greatest_of (time_at s times) op.sources)
    most = greatest_of_sources ops s (time_at s times) op.sources (λ j listed.
        let before : j < made = source_before ops earlier made j op there listed in
        time_at_is ops s times j are (omega arith))

    nothing_before : greatest_of (time_at s times) op.sources ≡ 0 → HasNoSource ops s op.sources
    nothing_before none i w listed from to =
        let time : (t : ℕ) × IsTime ops s (Some i) t × (t ≤ greatest_of (time_at s times) op.sources) = most.greatest i listed in
        let low : time.0 ≤ greatest_of (time_at s times) op.sources = time.2 in
        let same : w ≡ time.0 = heaviest_to_unique ops s i w time.0 to (time.1.1 from) in
        omega arith

    chosen_before : (o : Option ℕ) → 0 < greatest_of (time_at s times) op.sources
        → IsSmallest s times (greatest_of (time_at s times) op.sources) op.sources o → IsBefore ops s op.sources o
    chosen_before None some is = elim most.reached [
      | inl none ↦ absurd (omega (arith, none))
      | inr one ↦ elim (cases_lt one.0 s) [
        | inl outside ↦ absurd (omega (arith, one.2.0 outside))
        | inr inside ↦
            (let before : one.0 < made = source_before ops earlier made one.0 op there one.1 in
            let same : greatest_of (time_at s times) op.sources ≡ get_or times (one.0 - s) 0 =
            kept_time s times one.0 (greatest_of (time_at s times) op.sources) are inside (omega arith) (one.2.1 inside) in
            absurd (is one.0 (record { listed = one.1; within = inside; reads = sym same })))
      ]
    ]
    chosen_before (Some m) some is = record {
      weight = greatest_of (time_at s times) op.sources;
      listed = is.0.listed;
      within = is.0.within;
      heaviest =
          (let before : m < made = source_before ops earlier made m op there is.0.listed in
          let from : s ≤ m = is.0.within in
          subst (λ n. HeaviestTo ops s m n) is.0.reads (read_time s times m are from (omega arith)));
      above = some;
      first = λ i w listed from to.
          let before : i < made = source_before ops earlier made i op there listed in
          let kept : w ≡ get_or times (i - s) 0 = kept_time s times i w are from (omega arith) to in
          let time : (t : ℕ) × IsTime ops s (Some i) t × (t ≤ greatest_of (time_at s times) op.sources) = most.greatest i listed in
          let low : time.0 ≤ greatest_of (time_at s times) op.sources = time.2 in
          let same : w ≡ time.0 = heaviest_to_unique ops s i w time.0 to (time.1.1 from) in
          elim (cases_lt w (greatest_of (time_at s times) op.sources)) [
            | inl less ↦ inl less
            | inr more ↦
                (let equal : w ≡ greatest_of (time_at s times) op.sources = omega arith in
                inr (equal, is.1 i (record { listed = listed; within = from; reads = sym kept ∙ equal })))
          ];
    }

    before_is : IsBefore ops s op.sources (before_of s times op.sources)
    before_is = elim (cases_lt 0 (greatest_of (time_at s times) op.sources)) [
      | inl some ↦
          (let test : nat_lt 0 (greatest_of (time_at s times) op.sources) ≡ true = search (arith) in
          subst (λ o. IsBefore ops s op.sources o) (sym (if_true (nat_lt 0 (greatest_of (time_at s times) op.sources)) _ _ test))
          (chosen_before (smallest_of s times (greatest_of (time_at s times) op.sources) op.sources) some (smallest_is s times (greatest_of (time_at s times) op.sources) op.sources)))
      | inr none ↦
          (let test : nat_lt 0 (greatest_of (time_at s times) op.sources) ≡ false = search (arith) in
          subst (λ o. IsBefore ops s op.sources o) (sym (if_false (nat_lt 0 (greatest_of (time_at s times) op.sources)) _ _ test))
          (nothing_before (omega arith)))
    ]

  -- one operation more
  pub chained_more : (s made : ℕ) (op : Operation) → IsOperation ops made op → s ≤ made → (times : List ℕ) (befores : List (Option ℕ)) → AreChained ops s made times befores
      → AreChained ops s (made + 1) (times ++ (op.latency + greatest_of (time_at s times) op.sources) ∷ []) (befores ++ before_of s times op.sources ∷ [])
  chained_more s made op there from times befores are =
      let counted : s + length times ≡ max s made = are.count in
      let count : s + length times ≡ made = omega arith in
      let same : length befores ≡ length times = are.same in
      let size : length (times ++ (op.latency + greatest_of (time_at s times) op.sources) ∷ []) ≡ length times + 1 = length-append times (_ ∷ []) in
      let size2 : length (befores ++ before_of s times op.sources ∷ []) ≡ length befores + 1 = length-append befores (_ ∷ []) in
      record {
        count = omega arith;
        same = omega arith;
        weights = times_more ops earlier made op there s (op.latency + greatest_of (time_at s times) op.sources) times count are.weights
            (new_time_is ops earlier made op there s times count are.weights);
        earlier = λ k b at. elim (slice_get-push befores (before_of s times op.sources) b k at) [
          | inl old ↦ are.earlier k b old
          | inr new ↦
              (let place : made ≡ s + k = (let last : k ≡ length befores = new.0 in omega arith) in
              (op, subst (λ n. IsOperation ops n op) place there, subst (λ o. IsBefore ops s op.sources o) new.1 (before_is s made op there times are.weights count)))
        ];
      }

  -- what comes next can be added
  pub next_time_small : total_latency ops < 2 ^ 62 → (s made : ℕ) (op : Operation) → IsOperation ops made op → (times : List ℕ) → s + length times ≡ made → AreTimes ops s times
      → op.latency + greatest_of (time_at s times) op.sources < 2 ^ 64
  next_time_small small s made op there times count are =
      let time : HeaviestTo ops s made (op.latency + greatest_of (time_at s times) op.sources) = new_time_is ops earlier made op there s times count are in
      let path : op.latency + greatest_of (time_at s times) op.sources ≤ work ops s (made + 1) =
      weight_at_most_work ops earlier s (made + 1) made (op.latency + greatest_of (time_at s times) op.sources) time.reached.0 time.reached.1 in
      let total : work ops s (made + 1) ≤ total_latency ops = work_at_most_total ops s (made + 1) in
      omega arith

  -- what stands before an operation lies before it
  pub befores_earlier : (s e : ℕ) (times : List ℕ) (befores : List (Option ℕ)) → AreChained ops s e times befores → AreEarlier s befores
  befores_earlier s e times befores are k j at =
      let found : (op : Operation) × IsOperation ops (s + k) op × IsBefore ops s op.sources (Some j) = are.earlier k (Some j) at in
      (found.2.within, source_before ops earlier (s + k) j found.0 found.1 found.2.listed)

  -- the path that is read off is the chosen one
  pub traced : (s e : ℕ) (times : List ℕ) (befores : List (Option ℕ)) → AreChained ops s e times befores → (k : ℕ) (nodes : List ℕ) → s ≤ k → Traces s befores k nodes
      → ChosenTo ops s k nodes
  traced s e times befores are _ _ from (starts k at) =
      let found : (op : Operation) × IsOperation ops (s + (k - s)) op × HasNoSource ops s op.sources = are.earlier (k - s) None at in
      let place : s + (k - s) ≡ k = omega arith in
      chosen.starts k found.0 (subst (λ n. IsOperation ops n found.0) place found.1) found.2
  traced s e times befores are _ _ from (follows j k nodes traces at) =
      let found : (op : Operation) × IsOperation ops (s + (k - s)) op × IsChosenSource ops s op.sources j = are.earlier (k - s) (Some j) at in
      let place : s + (k - s) ≡ k = omega arith in
      chosen.follows j k nodes found.0 (traced s e times befores are j nodes found.2.within traces) (subst (λ n. IsOperation ops n found.0) place found.1) found.2

  -- the chosen path is a path, and has the weight of the heaviest
  pub chosen_path : (s k p : ℕ) (nodes : List ℕ) → s ≤ k → ChosenTo ops s k nodes → HeaviestTo ops s k p → Path ops s (k + 1) k p nodes
  chosen_path s _ p _ from (chosen.starts k op made none) to =
      let most : IsGreatestTime ops s op.sources 0 = record {
        reached = inl refl;
        greatest = λ j listed.
            let time : (t : ℕ) × IsTime ops s (Some j) t = time_exists ops earlier s k op made j listed in
            let low : time.0 ≤ 0 = elim (cases_lt j s) [
              | inl outside ↦ (let zero_is : time.0 ≡ 0 = time.1.0 outside in omega arith)
              | inr inside ↦ (let zero_is : time.0 ≡ 0 = none j time.0 listed inside (time.1.1 inside) in omega arith)
            ] in
            (time.0, time.1, low);
      } in
      let same : p ≡ op.latency + 0 = heaviest_to_unique ops s k p (op.latency + 0) to (time_from_sources ops earlier s k 0 op from made most) in
      let is : op.latency ≡ p = omega arith in
      subst (λ n. Path ops s (k + 1) k n (k ∷ [])) is (alone k op (record { from_start = from; before_end = omega arith; made = made }))
  chosen_path s _ p _ from (chosen.follows j k nodes op path made best) to =
      let before : j < k = source_before ops earlier k j op made best.listed in
      let most : IsGreatestTime ops s op.sources best.weight = record {
        reached = inr (j, best.listed, (λ (outside : j < s). absurd (omega (arith, best.within)), λ _. best.heaviest));
        greatest = λ i listed.
            let time : (t : ℕ) × IsTime ops s (Some i) t = time_exists ops earlier s k op made i listed in
            let low : time.0 ≤ best.weight = elim (cases_lt i s) [
              | inl outside ↦ (let zero_is : time.0 ≡ 0 = time.1.0 outside in omega arith)
              | inr inside ↦ elim (best.first i time.0 listed inside (time.1.1 inside)) [
                | inl less ↦ omega arith
                | inr equal ↦ (let is : time.0 ≡ best.weight = equal.0 in omega arith)
              ]
            ] in
            (time.0, time.1, low);
      } in
      let same : p ≡ op.latency + best.weight =
      heaviest_to_unique ops s k p (op.latency + best.weight) to (time_from_sources ops earlier s k best.weight op from made most) in
      let is : best.weight + op.latency ≡ p = omega arith in
      let inner : Path ops s (j + 1) j best.weight nodes = chosen_path s j best.weight nodes best.within path best.heaviest in
      subst (λ n. Path ops s (k + 1) k n (nodes ++ k ∷ [])) is
      (joined j best.weight k nodes op (widened s (k + 1) (omega arith) (omega arith) inner) (record { from_start = from; before_end = omega arith; made = made }) best.listed)

  -- the greatest of the times is the heaviest path of the interval, and the first of them ends the chosen one
  module _ (s e : ℕ) (times : List ℕ) (befores : List (Option ℕ)) (are : AreChained ops s e times befores) (low : s ≤ e) (last : ℕ) (within : last < length times)
      (greatest : (k : ℕ) → k < length times → get_or times k 0 ≤ get_or times last 0) where
    last_below : s + last < e
    last_below = let counted : s + length times ≡ max s e = are.count in omega arith

    last_is : HeaviestTo ops s (s + last) (get_or times last 0)
    last_is = are.weights last (get_or times last 0) (slice_get-get_or times last 0 within)

    pub heaviest_is : Heaviest ops s e (get_or times last 0)
    heaviest_is = record {
      reached = inr (s + last, (last_is.reached.0, widened s e (omega arith) (omega (arith, last_below)) last_is.reached.1));
      greatest = λ k w weighs.
          let node : (op : Operation) × IsNode ops s e k op = last_node weighs.1 in
          let from : s ≤ k = node.1.from_start in
          let below : k < e = node.1.before_end in
          let counted : s + length times ≡ max s e = are.count in
          let to : HeaviestTo ops s k (get_or times (k - s) 0) = read_time s times k are.weights from (omega arith) in
          let under : w ≤ get_or times (k - s) 0 = to.greatest w (weighs.0, narrowed ops earlier s e k w (k + 1) weighs.0 (omega arith) weighs.1) in
          let top : get_or times (k - s) 0 ≤ get_or times last 0 = greatest (k - s) (omega arith) in
          omega arith;
    }

    pub path_is : (nodes : List ℕ) → Traces s befores (s + last) nodes → IsPathOf ops s e (get_or times last 0) nodes
    path_is nodes traces =
        let path : Path ops s (s + last + 1) (s + last) (get_or times last 0) nodes =
        chosen_path s (s + last) (get_or times last 0) nodes (omega arith) (traced s e times befores are (s + last) nodes (omega arith) traces) last_is in
        inr (s + last, widened s e (omega arith) (omega (arith, last_below)) path)

    pub chosen_is : ((k : ℕ) → k < last → get_or times k 0 < get_or times last 0) → (nodes : List ℕ) → Traces s befores (s + last) nodes
        → IsChosen ops s e (get_or times last 0) nodes
    chosen_is first nodes traces = record {
      last = s + last;
      from_start = omega arith;
      before_end = last_below;
      weighs = last_is;
      first = λ i w from less to.
          let kept : w ≡ get_or times (i - s) 0 = kept_time s times i w are.weights from (omega arith) to in
          let under : get_or times (i - s) 0 < get_or times last 0 = first (i - s) (omega arith) in
          omega arith;
      path = traced s e times befores are (s + last) nodes (omega arith) traces;
    }

  -- the next operation at the chains
  pub can_chain : total_latency ops < 2 ^ 62 → (s made : ℕ) (op : Operation) → IsOperation ops made op → s ≤ made → (c : Chains) → c.start ≡ s
      → AreChained ops s made c.times c.befores → (sources : List Src) → sources ≡ op.sources → CanChain op.latency sources c
  can_chain small s made op there from c start are sources same =
      let counted : s + length c.times ≡ max s made = are.count in
      let count : s + length c.times ≡ made = omega arith in
      let begin : c.start + length c.times ≡ made = omega (arith, start) in
      record {
        before = subst (λ l. AreBefore (c.start + length c.times) l) (sym same) (subst (λ n. AreBefore n op.sources) (sym begin) (earlier made op there));
        time = subst (λ l. op.latency + greatest_of (time_at c.start c.times) l < 2 ^ 64) (sym same)
            (subst (λ n. op.latency + greatest_of (time_at n c.times) op.sources < 2 ^ 64) (sym start) (next_time_small small s made op there c.times count are.weights));
      }

  pub chain_added : (s made : ℕ) (op : Operation) → IsOperation ops made op → s ≤ made → (c d : Chains) → c.start ≡ s
      → AreChained ops s made c.times c.befores → (sources : List Src) → sources ≡ op.sources → d ≡ chained op.latency sources c
      → (d.start ≡ s) × AreChained ops s (made + 1) d.times d.befores
  chain_added s made op there from c d start are sources same grown =
      let whole : d ≡ chained op.latency op.sources c = grown ∙ ap (λ l. chained op.latency l c) same in
      let times : d.times ≡ c.times ++ (op.latency + greatest_of (time_at s c.times) op.sources) ∷ [] =
      ap (λ (x : Chains). x.times) whole ∙ ap (λ n. c.times ++ (op.latency + greatest_of (time_at n c.times) op.sources) ∷ []) start in
      let befores : d.befores ≡ c.befores ++ before_of s c.times op.sources ∷ [] =
      ap (λ (x : Chains). x.befores) whole ∙ ap (λ n. c.befores ++ before_of n c.times op.sources ∷ []) start in (
        ap (λ (x : Chains). x.start) whole ∙ start,
        subst (λ l. AreChained ops s (made + 1) d.times l) (sym befores)
            (subst (λ l. AreChained ops s (made + 1) l (c.befores ++ before_of s c.times op.sources ∷ [])) (sym times)
            (chained_more s made op there from c.times c.befores are)),
      )

-- the events as a loop reads them
pub event_at : (events : List Event) (i : ℕ) (event : Event) → i < length events → event ≡ get_or events i event → drop i events ≡ event ∷ drop (i + 1) events
event_at events i event within is =
    let rest : drop i events ≡ get_or events i event ∷ drop (i + 1) events = rw add-one (drop-cons events i event within) in
    rest ∙ ap (λ x. x ∷ drop (i + 1) events) (sym is)

pub operation_at : (ops : List Operation) (events : List Event) (i made : ℕ) (event : Event) (class : Class) (latency : ℕ) (sources : List Src) (place : Place) → i < length events
    → event ≡ get_or events i event → event ≡ Op class latency sources place → drop made ops ≡ operations (drop i events)
    → IsOperation ops made (record { class = class; latency = latency; sources = sources; place = place }) × (drop (made + 1) ops ≡ operations (drop (i + 1) events))
operation_at ops events i made event class latency sources place within is op left =
    dropped_head made ops _ (operations (drop (i + 1) events))
    (left ∙ (ap operations (event_at events i event within is) ∙ ap (λ x. operations (x ∷ drop (i + 1) events)) op))

pub no_operation : (event : Event) (rest : List Event)
    → ((class : Class) (latency : ℕ) (sources : List Src) (place : Place) → event ≡ Op class latency sources place → ⊥) → operations (event ∷ rest) ≡ operations rest
no_operation (Op class latency sources place) rest other = absurd (other class latency sources place refl)
no_operation (Enter region) rest other = refl
no_operation Exit rest other = refl

pub other_at : (ops : List Operation) (events : List Event) (i made : ℕ) (event : Event) → i < length events → event ≡ get_or events i event
    → ((class : Class) (latency : ℕ) (sources : List Src) (place : Place) → event ≡ Op class latency sources place → ⊥)
    → drop made ops ≡ operations (drop i events) → drop made ops ≡ operations (drop (i + 1) events)
other_at ops events i made event within is other left =
    left ∙ (ap operations (event_at events i event within is) ∙ no_operation event (drop (i + 1) events) other)

-- behind the last event each operation is made
pub all_made : (ops : List Operation) (events : List Event) (i made : ℕ) → length events ≤ i → drop made ops ≡ operations (drop i events) → length ops ≤ made
all_made ops events i made past left =
    let none : drop i events ≡ [] = drop_all i events past in
    let empty : drop made ops ≡ [] = left ∙ ap operations none in
    let size : length ops - made ≡ 0 = sym (length-drop made ops) ∙ ap length empty in
    omega arith

-- the operations behind the first events are those of the events behind them
pub left_behind : (events : List Event) (at made : ℕ) → made_before at events ≡ made → drop made (operations events) ≡ operations (drop at events)
left_behind events at made count =
    let first : List Operation = operations (take at events) in
    let whole : operations events ≡ first ++ operations (drop at events) =
    ap operations (sym (take-append-drop at events)) ∙ operations-append (take at events) (drop at events) in
    ap (λ n. drop n (operations events)) (sym count) ∙ (ap (λ l. drop (length first) l) whole ∙ drop-length first (operations (drop at events)))
  where
    drop-length : {A : Type 0} (xs ys : List A) → drop (length xs) (xs ++ ys) ≡ ys
    drop-length [] ys = refl
    drop-length (x ∷ xs) ys = drop-length xs ys

-- the loop over the events behind the first ones has come to a place
pub record IsChainedTo (ops : List Operation) (events : List Event) (s e i made : ℕ) (c : Chains) : Type 0 where
  pub few : made ≤ e
  pub from : s ≤ made
  pub left : drop made ops ≡ operations (drop i events)
  pub chained : AreChained ops s made c.times c.befores
  pub start_is : c.start ≡ s

pub chained_to : (ops : List Operation) (events : List Event) (s e i made made' : ℕ) (c d : Chains) → made' ≡ made → c ≡ d → IsChainedTo ops events s e i made d
    → IsChainedTo ops events s e i made' c
chained_to ops events s e i made made' c d p q is =
    subst (λ n. IsChainedTo ops events s e i n c) (sym p) (subst (λ x. IsChainedTo ops events s e i made x) (sym q) is)

-- before the interval's first operation nothing is kept
pub chained_begin : (ops : List Operation) (s : ℕ) (times : List ℕ) (befores : List (Option ℕ)) → times ≡ [] → befores ≡ [] → AreChained ops s s times befores
chained_begin ops s times befores p q =
    subst (λ l. AreChained ops s s l befores) (sym p) (subst (λ l. AreChained ops s s [] l) (sym q) (record {
      count = omega arith;
      same = refl;
      weights = λ k t at. (let impossible : ⊥ = cc in absurd impossible);
      earlier = λ k b at. (let impossible : ⊥ = cc in absurd impossible);
    }))

-- the events behind the first ones, as they are read
abbrev pub rest_of : List Event → ℕ → List Event
rest_of events at = take (length events - at) (drop at events)

pub read_rest : (events : List Event) (at : ℕ) → rest_of events at ≡ drop at events
read_rest events at = ap (λ n. take n (drop at events)) (sym (length-drop at events)) ∙ take-length (drop at events)

-- with one event more, as many operations more stand before
pub made_more : (events : List Event) (i : ℕ) (event : Event) → i < length events → event ≡ get_or events i event
    → made_before (i + 1) events ≡ made_before i events + length (operations (event ∷ []))
made_more events i event within is =
    let front : take (i + 1) events ≡ take i events ++ event ∷ [] = rw add-one (take-suc events i event within) ∙ ap (λ x. take i events ++ x ∷ []) (sym is) in
    ap (λ es. length (operations es)) front
    ∙ (ap length (operations-append (take i events) (event ∷ [])) ∙ length-append (operations (take i events)) (operations (event ∷ [])))

-- an event stands at each place before which operations are missing
pub event_there : (events : List Event) (i : ℕ) → made_before i events < length (operations events) → i < length events
event_there events i few = elim (cases_lt i (length events)) [
  | inl within ↦ within
  | inr past ↦
      (let all : made_before i events ≡ length (operations events) = ap (λ es. length (operations es)) (take_past i events past) in
      absurd (omega arith))
]
  where
    take_past : (n : ℕ) (es : List Event) → length es ≤ n → take n es ≡ es
    take_past zero [] past = refl
    take_past (suc n) [] past = refl
    take_past zero (e ∷ es) past = absurd (omega arith)
    take_past (suc n) (e ∷ es) past = ap (λ l. e ∷ l) (take_past n es (omega arith))

-- the same lists under other names
pub chained_shown : (events shown : List Event) (s e : ℕ) (times times' : List ℕ) (befores befores' : List (Option ℕ)) → shown ≡ events → times' ≡ times → befores' ≡ befores
    → AreChained (operations shown) s e times befores → AreChained (operations events) s e times' befores'
chained_shown events shown s e times times' befores befores' p q r are =
    subst (λ l. AreChained (operations l) s e times' befores') p
    (subst (λ l. AreChained (operations shown) s e l befores') (sym q) (subst (λ l. AreChained (operations shown) s e times l) (sym r) are))
